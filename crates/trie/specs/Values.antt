-- FOR THE CODE. The values that a node holds, one in each of its units, and the place of a value among them. Assumes nothing.
use Rattle.std.specs.Prelude.{ℕ, zero, suc, cond, List, [], ◌∷◌, Result, Ok, Err, eqb, ltb}
use Rattle.lent.specs.Total.{read}
use Rattle.forest.specs.Places.{unit_at}

-- the values in so many units from unit i on
unfoldable pub values_from : (base : ℕ) → List ℕ → (i own : ℕ) → List ℕ
values_from base s i zero = []
values_from base s i (suc n) = read 4 (unit_at base i) s ∷ values_from base s (suc i) n

-- the first value that is not less than x is value k or a later one: Ok where x is, Err where it would go
unfoldable pub spot_from : (k x : ℕ) → List ℕ → Result ℕ ℕ
spot_from k x [] = Err k
spot_from k x (v ∷ vs) = cond (ltb v x) (spot_from (suc k) x vs) (cond (eqb v x) (Ok k) (Err k))
