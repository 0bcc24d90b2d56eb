-- FOR THE CODE. Which nodes of a path stay when the one thing that its last node holds is taken away: all but the last and
-- those above it that hold nothing and have no other child. Assumes nothing.
use Rattle.std.specs.Prelude.{ℕ, zero, suc, Bool, true, false, ◌&&◌, List, [], ◌∷◌, eqb}
use Rattle.forest.specs.Places.{own_at, row_end, kids_end}

-- the node at unit i holds nothing, and the one at unit k is its only child
abbrev pub lone_at : (base : ℕ) → List ℕ → (n i k : ℕ) → Bool
lone_at base s n i k = eqb (own_at base s i) 0 && (eqb (row_end base s i n) k && eqb (kids_end base s i n) (kids_end base s k n))

-- of the nodes of a path, how many stay
abbrev pub above : Bool → ℕ → ℕ
above true zero = zero
above false zero = 1
above b (suc c) = suc (suc c)

unfoldable pub staying : (base : ℕ) → List ℕ → (n : ℕ) → List ℕ → ℕ
staying base s n [] = 0
staying base s n (i ∷ []) = 0
staying base s n (i ∷ k ∷ is) = above (lone_at base s n i k) (staying base s n (k ∷ is))
