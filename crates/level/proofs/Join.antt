-- Levels and their text: `split` and `join` undo each other, on lists of levels with no '/'. Assumes nothing.
use mathlib.Core.Path.{◌≡◌, refl, ap, ◌∙◌}
use mathlib.Core.Bool.{Bool, true, false, ◌||◌, true≢false}
use mathlib.Core.List.{List, [], ◌∷◌, ◌++◌}
use Prim.Native.Nat.{ℕ}
use lib.Dec.{eqb}
use borrow.Author.Tests.{eqb-true}
use Rattle.level.specs.Levels.{push, split, join, has, Clean, no_more, clean}
use Rattle.level.specs.Places.{first}
use Rattle.level.proofs.Split.{split_cons, after}

-- join undoes split
join-push : (t : Bool) (b : ℕ) (l : List ℕ) (ls : List (List ℕ)) → (t ≡ true → b ≡ 47)
    → join (push t b (l ∷ ls)) ≡ b ∷ join (l ∷ ls)
join-push true b l ls h = rw (h refl)
join-push false b l [] h = refl
join-push false b l (m ∷ ls) h = refl

pub join-split : (s : List ℕ) → join (split s) ≡ s
join-split [] = refl
join-split (b ∷ s) =
    rw (split_cons s) (join-push (eqb b 47) b (first s) (after s) (eqb-true b 47)
    ∙ ap (λ (l : List ℕ). b ∷ l) (rw (← split_cons s) (join-split s)))

-- neither of two
pub head_false : (a b : Bool) → (a || b) ≡ false → a ≡ false
head_false true b e = e
head_false false b e = refl

pub rest_false : (a b : Bool) → (a || b) ≡ false → b ≡ false
rest_false true b e = absurd (true≢false e)
rest_false false b e = e

pub split_level : (l : List ℕ) → has 47 l ≡ false → split l ≡ l ∷ []
split_level [] e = refl
split_level (x ∷ l) e = rw (head_false (eqb x 47) (has 47 l) e, split_level l (rest_false (eqb x 47) (has 47 l) e))

pub split_slash : (l s : List ℕ) → has 47 l ≡ false → split (l ++ 47 ∷ s) ≡ l ∷ split s
split_slash [] s e = refl
split_slash (x ∷ l) s e = rw (head_false (eqb x 47) (has 47 l) e, split_slash l s (rest_false (eqb x 47) (has 47 l) e))

pub split-join : (l : List ℕ) (ls : List (List ℕ)) → Clean (l ∷ ls) → split (join (l ∷ ls)) ≡ l ∷ ls
split-join l [] (clean e c) = split_level l e
split-join l (m ∷ ls) (clean e c) = split_slash l (join (m ∷ ls)) e ∙ ap (λ (r : List (List ℕ)). l ∷ r) (split-join m ls c)

clean-push : (t : Bool) (b : ℕ) (ls : List (List ℕ)) → eqb b 47 ≡ t → Clean ls → Clean (push t b ls)
clean-push true b ls e c = clean refl c
clean-push false b [] e c = clean {l = b ∷ []} (rw e) no_more
clean-push false b (l ∷ ls) e (clean h c) = clean {l = b ∷ l} (rw (e, h)) c

pub clean-split : (s : List ℕ) → Clean (split s)
clean-split [] = clean refl no_more
clean-split (b ∷ s) = clean-push (eqb b 47) b (split s) refl (clean-split s)
