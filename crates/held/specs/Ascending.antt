-- TO BELIEVE. Sets and maps as ascending lists. An entry has a key, by which the list ascends. Assumes nothing.
use Rattle.std.specs.Prelude.{◌≡◌, Bool, true, false, cond, ◌||◌, List, [], ◌∷◌}
use Rattle.std.proofs.Math.Option.{Option, none, some}

-- some entry passes a test
abbrev pub any : {E : Type 0} → (E → Bool) → List E → Bool
any p [] = false
any p (e ∷ l) = p e || any p l

abbrev pub member : {K : Type 0} → (K → K → Bool) → K → List K → Bool
member eq k l = any (eq k) l

-- what stands with the first entry whose key is k
abbrev pub find : {E K W : Type 0} → (K → K → Bool) → (E → K) → (E → W) → K → List E → Option W
find eq key val k [] = none
find eq key val k (e ∷ l) = cond (eq k (key e)) (some (val e)) (find eq key val k l)

-- what was found, if it passes a test
abbrev pub passed : {W : Type 0} → (W → Bool) → Option W → Option W
passed q none = none
passed q (some w) = cond (q w) (some w) none

-- every entry has a property
abbrev pub All : {E : Type 0} → (E → Type 0) → List E → Type 0
All P [] = Unit {0}
All P (e ∷ l) = P e × All P l

-- the entries that pass a test
abbrev pub keep : {E : Type 0} → (E → Bool) → List E → List E
keep p [] = []
keep p (e ∷ l) = cond (p e) (e ∷ keep p l) (keep p l)

-- the keys strictly ascend: each comes before all that follow
abbrev pub Below : {E K : Type 0} → (K → K → Bool) → (E → K) → K → List E → Type 0
Below lt key k [] = Unit {0}
Below lt key k (e ∷ l) = (lt k (key e) ≡ true) × Below lt key k l

abbrev pub Asc : {E K : Type 0} → (K → K → Bool) → (E → K) → List E → Type 0
Asc lt key [] = Unit {0}
Asc lt key (e ∷ l) = Below lt key (key e) l × Asc lt key l

-- e at its place in an ascending list, in the stead of an entry with its key
abbrev pub put : {E K : Type 0} → (K → K → Bool) → (E → K) → E → List E → List E
put lt key e [] = e ∷ []
put lt key e (x ∷ l) = cond (lt (key e) (key x)) (e ∷ x ∷ l) (cond (lt (key x) (key e)) (x ∷ put lt key e l) (e ∷ l))

-- the entries of a list in ascending order, each key once
abbrev pub sort : {E K : Type 0} → (K → K → Bool) → (E → K) → List E → List E
sort lt key [] = []
sort lt key (e ∷ l) = put lt key e (sort lt key l)
