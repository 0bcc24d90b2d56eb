-- TO BELIEVE. Runs of calls on one region, as demand 3 speaks of them: each call is made on what the call before it left, and none
-- is refused for room. Of a call no more is asked than what it does on a store, so that a run may mix calls that test the region
-- with calls that do not (`calls_do` of proofs/RunLaws.antt). Assumes nothing.
use Rattle.std.specs.Prelude.{Err, Ok, Result}
use Rattle.refusal.specs.declared.Refusal.{Refusal}
use Rattle.std.specs.Prelude.{◌≡◌, ℕ, Bool, false, List, [], ◌∷◌}
use Rattle.held.specs.History.{for_room}
use Rattle.edit.specs.Calls.{StoreKind, Does}

-- refused by 13 to 15
abbrev pub refused_for_room : Result ℕ Refusal → Bool
refused_for_room (Ok n) = false
refused_for_room (Err r) = for_room (Err r)

pub data Runs {C H : Type 0} (k : StoreKind C H) : List C → List ℕ → List ℕ → Type 0 where
  ended : {s : List ℕ} → Runs k [] s s
  called : {c : C} {cs : List C} {s t u : List ℕ} {r : Result ℕ Refusal} → Does k c s t r → refused_for_room r ≡ false → Runs k cs t u → Runs k (c ∷ cs) s u

-- a store that holds nothing, as it is opened (`opened_empty` of the two stores)
pub record Empty {C X : Type 0} (k : StoreKind C (List X)) (s : List ℕ) : Type 0 where
  pub store : k.Store s
  pub nothing : k.held_in s ≡ []
