-- What a text is, said of its levels one by one: UTF-8, free of a byte, its length. Assumes nothing.
use mathlib.Core.Path.{◌≡◌, refl, sym, ap, ◌∙◌}
use Prim.Native.Nat.{ℕ, suc, ◌+◌}
use mathlib.Core.Bool.{Bool, true, false, not, cond, ◌&&◌, ◌||◌, and-true, true≢false}
use mathlib.Core.List.{List, [], ◌∷◌, ◌++◌}
use native.Mathlib.Omega.{arith}
use lib.Dec.{eqb, ltb, leb-suc-suc}
use lib.ListN.{length, length-append}
use borrow.Author.Tests.{lt-ltb, le-ltb, ltb-false, not-true}
use Rattle.utf8.specs.Utf8.{is_utf8}
use Rattle.utf8.proofs.Joined.{utf8_slash}
use Rattle.level.specs.Levels.{join, width, has, Clean, no_more, clean}
use Rattle.level.specs.Kinds.{is_only, wild}
use Rattle.topic.specs.Rules.{index}
use Rattle.held.specs.Order.{Level, Filter}
use Rattle.held.specs.Edit.{HashLast}

-- every level passes a test
abbrev pub all : (Level → Bool) → Filter → Bool
all p [] = true
all p (l ∷ f) = p l && all p f

and_swap : (a b c d : Bool) → ((a && b) && (c && d)) ≡ ((a && c) && (b && d))
and_swap true true c d = refl
and_swap true false true d = refl
and_swap true false false d = refl
and_swap false b c d = refl

pub all-and : (p q : Level → Bool) (f : Filter) → all (λ l. p l && q l) f ≡ (all p f && all q f)
all-and p q [] = refl
all-and p q (l ∷ f) = rw (all-and p q f) (and_swap (p l) (q l) (all p f) (all q f))

-- a test that a '/' parts is passed by a text exactly when its levels pass it
pub all_join : (p : Level → Bool) → ((l s : List ℕ) → p (l ++ 47 ∷ s) ≡ (p l && p s)) → (l : Level) (f : Filter) → p (join (l ∷ f)) ≡ all p (l ∷ f)
all_join p h l [] = sym (and-true (p l))
all_join p h l (m ∷ f) = h l (join (m ∷ f)) ∙ ap (λ (t : Bool). p l && t) (all_join p h m f)

not-or : (a b : Bool) → not (a || b) ≡ (not a && not b)
not-or true b = refl
not-or false b = refl

or_group : (a b c : Bool) → (a || (b || c)) ≡ ((a || b) || c)
or_group true b c = refl
or_group false b c = refl

has_part : (b : ℕ) (l s : List ℕ) → has b (l ++ s) ≡ (has b l || has b s)
has_part b [] s = refl
has_part b (x ∷ l) s = rw (has_part b l s) (or_group (eqb x b) (has b l) (has b s))

wild-part : (l s : List ℕ) → wild (l ++ s) ≡ (wild l || wild s)
wild-part [] s = refl
wild-part (x ∷ l) s = rw (wild-part l s) (or_group (eqb x 43 || eqb x 35) (wild l) (wild s))

pub join_utf8 : (l : Level) (f : Filter) → is_utf8 (join (l ∷ f)) ≡ all is_utf8 (l ∷ f)
join_utf8 l f = all_join is_utf8 utf8_slash l f

pub join_nul : (l : Level) (f : Filter) → not (has 0 (join (l ∷ f))) ≡ all (λ l. not (has 0 l)) (l ∷ f)
join_nul l f = all_join (λ l. not (has 0 l)) (λ l s. ap not (has_part 0 l (47 ∷ s)) ∙ not-or (has 0 l) (has 0 s)) l f

pub join-wild : (l : Level) (f : Filter) → not (wild (join (l ∷ f))) ≡ all (λ l. not (wild l)) (l ∷ f)
join-wild l f = all_join (λ l. not (wild l)) (λ l s. ap not (wild-part l (47 ∷ s)) ∙ not-or (wild l) (wild s)) l f

pub join-length : (l : Level) (f : Filter) → suc (length (join (l ∷ f))) ≡ width (l ∷ f)
join-length l [] = omega arith
join-length l (m ∷ f) = rw length-append (omega (arith, join-length m f))

-- no level has a '/'
pub clean_all : (f : Filter) → Clean f → all (λ l. not (has 47 l)) f ≡ true
clean_all _ no_more = refl
clean_all _ (clean {ls = f} e c) = rw (e, clean_all f c)

pub all_left : (p : Level → Bool) (l : Level) (f : Filter) → all p (l ∷ f) ≡ true → p l ≡ true
all_left p l f e = go (p l) e
  where
    go : (t : Bool) → (t && all p f) ≡ true → t ≡ true
    go true h = refl
    go false h = h

pub all_right : (p : Level → Bool) (l : Level) (f : Filter) → all p (l ∷ f) ≡ true → all p f ≡ true
all_right p l f e = go (p l) e
  where
    go : (t : Bool) → (t && all p f) ≡ true → all p f ≡ true
    go true h = h
    go false h = absurd (true≢false (sym h))

pub all_clean : (f : Filter) → all (λ l. not (has 47 l)) f ≡ true → Clean f
all_clean [] e = no_more
all_clean (l ∷ f) e = clean (not-true (has 47 l) (all_left (λ l. not (has 47 l)) l f e)) (all_clean f (all_right (λ l. not (has 47 l)) l f e))

-- a search that finds no level
pub index-none : (p : Level → Bool) (f : Filter) → not (ltb (index p f) (length f)) ≡ all (λ l. not (p l)) f
index-none p [] = refl
index-none p (l ∷ f) = go (p l) refl (index-none p f)
  where
    go : (t : Bool) → p l ≡ t → not (ltb (index p f) (length f)) ≡ all (λ l. not (p l)) f
        → not (ltb (cond t 0 (suc (index p f))) (suc (length f))) ≡ (not t && all (λ l. not (p l)) f)
    go true q e = ap not (lt-ltb 0 (suc (length f)) (omega arith))
    go false q e = ap not (leb-suc-suc (suc (index p f)) (length f)) ∙ e

-- a '#' that is only last
pub hash_only : (f : Filter) → HashLast f → ltb (index (is_only 35) f + 1) (length f) ≡ false
hash_only [] h = le-ltb 1 0 (omega arith)
hash_only (l ∷ f) h = go (is_only 35 l) refl (hash_only f h.1)
  where
    go : (t : Bool) → is_only 35 l ≡ t → ltb (index (is_only 35) f + 1) (length f) ≡ false → ltb (cond t 0 (suc (index (is_only 35) f)) + 1) (suc (length f)) ≡ false
    go true q e = let z : f ≡ [] = h.0 q in rw z (le-ltb 1 1 (omega arith))
    go false q e = le-ltb (suc (index (is_only 35) f) + 1) (suc (length f)) (omega (arith, ltb-false (index (is_only 35) f + 1) (length f) e))
