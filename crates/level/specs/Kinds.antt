-- TO BELIEVE. What a level is (document 01, 'Text rules'; MQTT 4.7.1 and 4.7.2). '#' is 35, '$' is 36, '+' is 43. Assumes nothing.
use Rattle.std.specs.Prelude.{ℕ, Bool, true, false, cond, ◌&&◌, ◌||◌, List, [], ◌∷◌, eqb, ltb, length}
use Rattle.std.specs.List.{list_any}
use Rattle.level.specs.declared.Kind.{Kind}
use Rattle.level.specs.declared.Kind.TheVariants.{Normal, Metadata, Blank, SingleWildcard, MultiWildcard}

abbrev pub blank : List ℕ → Bool
blank [] = true
blank (b ∷ l) = false

-- the one byte b
abbrev pub is_only : ℕ → List ℕ → Bool
is_only b [] = false
is_only b (x ∷ []) = eqb x b
is_only b (x ∷ y ∷ l) = false

-- "metadata (first byte $)"
abbrev pub dollar : List ℕ → Bool
dollar [] = false
dollar (b ∷ l) = eqb b 36

-- a '+' or a '#' is among the bytes
abbrev pub wild : List ℕ → Bool
wild = list_any (λ b. eqb b 43 || eqb b 35)

-- "A longer level that contains + or # is bad."
abbrev pub bad : List ℕ → Bool
bad l = ltb 1 (length l) && wild l

-- "A level is +, #, blank, metadata (first byte $) or normal."
abbrev pub kind_of : List ℕ → Kind
kind_of l =
    cond (blank l) Blank (cond (is_only 43 l) SingleWildcard (cond (is_only 35 l) MultiWildcard (cond (dollar l) Metadata Normal)))

-- the same bytes
abbrev pub same : List ℕ → List ℕ → Bool
same [] [] = true
same [] (y ∷ ys) = false
same (x ∷ xs) [] = false
same (x ∷ xs) (y ∷ ys) = eqb x y && same xs ys
