-- FOR THE CODE. The unit that is written for a record. Assumes nothing.
use Rattle.std.specs.Prelude.{◌≡◌, ℕ, List}
use Rattle.held.specs.Retained.{Stored}
use Rattle.region.specs.Units.{stored_bytes, stored_of}

-- it is the record's, and the record is read back from it
pub record UnitOf (x : Stored) (unit : List ℕ) : Type 0 where
  pub is : unit ≡ stored_bytes x
  pub back : stored_of (stored_bytes x) ≡ x
