-- FOR THE CODE. Where the levels of a text stand in it. Assumes nothing.
use Rattle.std.specs.Prelude.{ℕ, zero, suc, ◌+◌, Bool, true, false, List, [], ◌∷◌, eqb, length, drop}
use Rattle.level.specs.Levels.{split}

abbrev pub keep : Bool → ℕ → List ℕ → List ℕ
keep true b l = []
keep false b l = b ∷ l

-- the bytes before the first '/'
abbrev pub first : List ℕ → List ℕ
first [] = []
first (b ∷ s) = keep (eqb b 47) b (first s)

-- the levels that begin at or after a position at which a level begins; none past the end
abbrev pub levels_at : List ℕ → ℕ → List (List ℕ)
levels_at s zero = split s
levels_at [] (suc n) = []
levels_at (b ∷ s) (suc n) = levels_at s n

-- where the level that begins at a position ends
abbrev pub end_of : List ℕ → ℕ → ℕ
end_of s from = from + length (first (drop from s))
