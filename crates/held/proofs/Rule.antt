-- The listing's order is document 01's: on the filters that match one name, the two agree. Assumes nothing.
use Rattle.std.specs.Prelude.{Ok}
use mathlib.Core.Path.{◌≡◌, refl, sym, ap, ◌∙◌}
use mathlib.Core.Bool.{Bool, true, false, not, ◌&&◌, true≢false}
use mathlib.Core.List.{List, [], ◌∷◌, map}
use mathlib.Core.Logic.{◌⊎◌, inl, inr, ⊎_elim}
use lib.Dec.{ltb}
use Prim.Native.Nat.{ℕ}
use Rattle.level.specs.Kinds.{is_only, same}
use Rattle.level.specs.Levels.{split}
use Rattle.topic.specs.Rules.{filter_rules}
use Rattle.topic.specs.Answers.{checked}
use Rattle.topic.specs.Match.{level_takes, takes, lead_wild, lead_dollar, match47}
use Rattle.held.specs.Order.{Level, Filter, rank, rank_lt, listing_lt, rule_lt}
use Rattle.held.specs.Ascending.{All, keep, Below, Asc}
use Rattle.held.specs.Subscriptions.{values_of, listing}
use Rattle.held.specs.Edit.{HashLast}
use Rattle.held.specs.History.{accepted}
use Rattle.held.proofs.Orders.{and_left, and_right, asym, eq-same, byte_order, level_order, rank_order}
use Rattle.held.proofs.Entries.{all_keep, all-sort, all-passed, all_map, all_both}
use Rattle.held.proofs.Listing.{listing_asc}
use Rattle.held.proofs.Texts.{filter-hash}
use Rattle.held.proofs.Walks.{only_is}

-- ranks that differ, or one level
abbrev Apart : Level → Level → Type 0
Apart f g = (f ≡ g) ⊎ ((ltb (rank f) (rank g) ≡ true) ⊎ (ltb (rank g) (rank f) ≡ true))

literal-same : (f m : Level) (fs ms : Filter) → is_only 35 f ≡ false → is_only 43 f ≡ false → takes (f ∷ fs) (m ∷ ms) ≡ true → f ≡ m
literal-same f m fs ms a b w = level_order.eq_true f m (and_left (same f m) (takes fs ms) (rw (a, b) at w))

apart : (n : Filter) (f g : Level) (fs gs : Filter) → takes (f ∷ fs) n ≡ true → takes (g ∷ gs) n ≡ true
    → (a b c d : Bool) → is_only 35 f ≡ a → is_only 43 f ≡ b → is_only 35 g ≡ c → is_only 43 g ≡ d → Apart f g
apart n f g fs gs u v true b true d i j k l = inl (only_is 35 f i ∙ sym (only_is 35 g k))
apart n f g fs gs u v true b false true i j k l = inr (inl (rw (i, k, l)))
apart n f g fs gs u v true b false false i j k l = inr (inl (rw (i, k, l)))
apart n f g fs gs u v false true true d i j k l = inr (inr (rw (i, k, j)))
apart n f g fs gs u v false false true d i j k l = inr (inr (rw (i, k, j)))
apart n f g fs gs u v false true false true i j k l = inl (only_is 43 f j ∙ sym (only_is 43 g l))
apart n f g fs gs u v false true false false i j k l = inr (inl (rw (i, j, k, l)))
apart n f g fs gs u v false false false true i j k l = inr (inr (rw (i, j, k, l)))
apart [] f g fs gs u v false false false false i j k l = absurd (true≢false (sym u ∙ i))
apart (m ∷ ms) f g fs gs u v false false false false i j k l = inl (literal-same f m fs ms i j u ∙ sym (literal-same g m gs ms k l v))

-- at a difference the ranks decide
differ : (f g : Level) (fs gs : Filter) → same f g ≡ false → (ltb (rank f) (rank g) ≡ true) ⊎ (ltb (rank g) (rank f) ≡ true) → listing_lt (f ∷ fs) (g ∷ gs) ≡ rule_lt (f ∷ fs) (g ∷ gs)
differ f g fs gs e (inl p) = rw (p, e)
differ f g fs gs e (inr p) = let q : ltb (rank f) (rank g) ≡ false = asym byte_order (rank g) (rank f) p in rw (q, p, e)

next-same : (f g : Level) (fs gs : Filter) → HashLast (f ∷ fs) → HashLast (g ∷ gs) → ((n : Filter) → takes fs n ≡ true → takes gs n ≡ true → listing_lt fs gs ≡ rule_lt fs gs)
    → f ≡ g → (t : Bool) → is_only 35 f ≡ t → (n : Filter) → takes (f ∷ fs) n ≡ true → takes (g ∷ gs) n ≡ true → listing_lt fs gs ≡ rule_lt fs gs
next-same f g fs gs a b ih z true e n u v = let p : fs ≡ [] = a.0 e in let q : gs ≡ [] = b.0 (rw z at e) in rw (p, q)
next-same f g fs gs a b ih z false e [] u v = absurd (true≢false (sym u ∙ e))
next-same f g fs gs a b ih z false e (m ∷ ms) u v =
    let d : is_only 35 g ≡ false = rw z at e in
    ih ms (and_right (level_takes f m) (takes fs ms) (rw e at u)) (and_right (level_takes g m) (takes gs ms) (rw d at v))

rule_step : (f g : Level) (fs gs n : Filter) → HashLast (f ∷ fs) → HashLast (g ∷ gs) → ((n : Filter) → takes fs n ≡ true → takes gs n ≡ true → listing_lt fs gs ≡ rule_lt fs gs)
    → takes (f ∷ fs) n ≡ true → takes (g ∷ gs) n ≡ true → (t : Bool) → same f g ≡ t → listing_lt (f ∷ fs) (g ∷ gs) ≡ rule_lt (f ∷ fs) (g ∷ gs)
rule_step f g fs gs n a b ih u v true e =
    let z : f ≡ g = level_order.eq_true f g e in
    let i : listing_lt fs gs ≡ rule_lt fs gs = next-same f g fs gs a b ih z (is_only 35 f) refl n u v in
    let p : rank_lt f g ≡ false = rw z (rank_order.irrefl g) in
    let q : rank_lt g f ≡ false = rw z (rank_order.irrefl g) in
    rw (p, q, e) i
rule_step f g fs gs n a b ih u v false e =
    ⊎_elim (λ z. absurd (true≢false (sym (eq-same level_order f g z) ∙ e))) (differ f g fs gs e)
    (apart n f g fs gs u v (is_only 35 f) (is_only 43 f) (is_only 35 g) (is_only 43 g) refl refl refl refl)

rule_levels : (f g n : Filter) → HashLast f → HashLast g → takes f n ≡ true → takes g n ≡ true → listing_lt f g ≡ rule_lt f g
rule_levels [] [] n a b u v = refl
rule_levels (f ∷ fs) [] n a b u v = refl
rule_levels [] (g ∷ gs) [] a b u v = sym v
rule_levels [] (g ∷ gs) (m ∷ ms) a b u v = absurd (true≢false (sym u))
rule_levels (f ∷ fs) (g ∷ gs) n a b u v = rule_step f g fs gs n a b (λ m p q. rule_levels fs gs m a.1 b.1 p q) u v (same f g) refl

pub rule_is : (f g : List ℕ) (n : Filter) → checked (filter_rules f) ≡ Ok tt → checked (filter_rules g) ≡ Ok tt → match47 (split f) n ≡ true → match47 (split g) n ≡ true
    → listing_lt (split f) (split g) ≡ rule_lt (split f) (split g)
rule_is f g n a b u v =
    rule_levels (split f) (split g) n (filter-hash f (ap accepted a)) (filter-hash g (ap accepted b)) (and_right (not (lead_wild (split f) && lead_dollar n)) (takes (split f) n) u)
    (and_right (not (lead_wild (split g) && lead_dollar n)) (takes (split g) n) v)

-- so a listing ascends in 01's own words
module _ {X : Type 0} (n : Filter) where
  abbrev Matching : Filter × List X → Type 0
  Matching r = HashLast r.0 × (takes r.0 n ≡ true)

  below_rule : (k : Filter) → HashLast k → takes k n ≡ true → (l : List (Filter × List X)) → All Matching l → Below listing_lt (λ r. r.0) k l → Below rule_lt (λ r. r.0) k l
  below_rule k a t [] m b = tt
  below_rule k a t (r ∷ l) m b = (sym (rule_levels k r.0 n a m.0.0 t m.0.1) ∙ b.0, below_rule k a t l m.1 b.1)

  asc_rule : (l : List (Filter × List X)) → All Matching l → Asc listing_lt (λ r. r.0) l → Asc rule_lt (λ r. r.0) l
  asc_rule [] m b = tt
  asc_rule (r ∷ l) m b = (below_rule r.0 m.0.0 m.0.1 l m.1 b.0, asc_rule l m.1 b.1)

  listing_matching : (h : List (Filter × X)) → All (λ p. HashLast p.0) h → All Matching (listing n h)
  unfolding listing
  listing_matching h a =
      let R : List (Filter × List X) = map (λ p. (p.0, values_of p.0 h)) h in
      all-sort Matching listing_lt (λ r. r.0) (keep (λ r. match47 r.0 n) R)
      (all_both (λ r. HashLast r.0) (λ r. takes r.0 n ≡ true) (keep (λ r. match47 r.0 n) R)
      (all_keep (λ r. HashLast r.0) (λ r. match47 r.0 n) R (all_map (λ r. HashLast r.0) (λ p. (p.0, values_of p.0 h)) h a))
      (all-passed (λ r. takes r.0 n ≡ true) (λ r. match47 r.0 n) (λ r e. and_right (not (lead_wild r.0 && lead_dollar n)) (takes r.0 n) e) R))

  pub listing_rule : (h : List (Filter × X)) → All (λ p. HashLast p.0) h → Asc rule_lt (λ r. r.0) (listing n h)
  listing_rule h a = asc_rule (listing n h) (listing_matching h a) (listing_asc n h)
