-- TO BELIEVE. The orders of document 01, 'Orders and records': of filters and names in a store, and of filters in a listing. Assumes nothing.
use Rattle.std.specs.Prelude.{ℕ, Bool, true, false, not, cond, ◌&&◌, ◌||◌, List, [], ◌∷◌, eqb, ltb}
use Rattle.level.specs.Kinds.{is_only, same}

-- a level is a list of bytes; a filter or a name is the list of its levels, the `split` of its text
abbrev pub Level : Type 0
Level = List ℕ

abbrev pub Filter : Type 0
Filter = List Level

-- the same list, where eq says what the same element is
abbrev pub equal : {A : Type 0} → (A → A → Bool) → List A → List A → Bool
equal eq [] [] = true
equal eq [] (y ∷ ys) = false
equal eq (x ∷ xs) [] = false
equal eq (x ∷ xs) (y ∷ ys) = eq x y && equal eq xs ys

abbrev pub same_filter : Filter → Filter → Bool
same_filter = equal same

-- the first difference decides; "a shorter beginning first"
abbrev pub lex : {A : Type 0} → (A → A → Bool) → List A → List A → Bool
lex lt [] [] = false
lex lt [] (y ∷ ys) = true
lex lt (x ∷ xs) [] = false
lex lt (x ∷ xs) (y ∷ ys) = lt x y || (not (lt y x) && lex lt xs ys)

-- "levels by their bytes"
abbrev pub level_lt : Level → Level → Bool
level_lt = lex ltb

-- the order of both stores: "by levels, levels by their bytes, a shorter beginning first; a parent before its children"
abbrev pub filter_lt : Filter → Filter → Bool
filter_lt = lex level_lt

-- by f, and where that does not decide by lt
abbrev pub first_by : {A B : Type 0} → (B → B → Bool) → (A → B) → (A → A → Bool) → A → A → Bool
first_by ltB f lt a b = ltB (f a) (f b) || (not (ltB (f b) (f a)) && lt a b)

-- a filter and a value: by the filter, then "Values ascend."
abbrev pub same_pair : Filter × ℕ → Filter × ℕ → Bool
same_pair p q = same_filter p.0 q.0 && eqb p.1 q.1

abbrev pub pair_lt : Filter × ℕ → Filter × ℕ → Bool
pair_lt = first_by filter_lt (λ p. p.0) (λ p q. ltb p.1 q.1)

-- in a listing "`#` comes before `+` before a literal"; two literals, which match no name both, go by their bytes
abbrev pub rank : Level → ℕ
rank l = cond (is_only 35 l) 0 (cond (is_only 43 l) 1 2)

abbrev pub rank_lt : Level → Level → Bool
rank_lt = first_by ltb rank level_lt

-- the order of a listing: "compared at their first difference"; one that ends before one that goes on
abbrev pub listing_lt : Filter → Filter → Bool
listing_lt = lex rank_lt

-- the same in 01's own words, which speak of two filters that match one name (`rule_is` of proofs/Rule.antt: there the two agree)
abbrev pub rule_lt : Filter → Filter → Bool
rule_lt f [] = false
rule_lt [] (g ∷ gs) = is_only 35 g
rule_lt (f ∷ fs) (g ∷ gs) = cond (same f g) (rule_lt fs gs) (ltb (rank f) (rank g))
