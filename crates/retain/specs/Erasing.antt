-- FOR THE CODE. A call that erases a name, whatever record it was given, on a region that it does not test. Assumes nothing.
use Rattle.std.specs.Prelude.{Result}
use Rattle.refusal.specs.declared.Refusal.{Refusal}
use Rattle.std.specs.Prelude.{ℕ, List}
use Rattle.held.specs.Retained.{Stored, set}
use Rattle.edit.specs.Calls.{Does}
use Rattle.retain.specs.Calls.{retained_store}

pub record Erases (name s t : List ℕ) (r : Result ℕ Refusal) : Type 0 where
  pub does : (x : Stored) → Does retained_store (set name 0 x) s t r
