-- FOR THE CODE. The slot of a node's record: Ok of the unit that holds it, or Err of the unit before which it would go. Assumes nothing.
use Rattle.std.specs.Prelude.{ℕ, ◌+◌, cond, List, Option, Some, None, Result, Ok, Err, ltb}
use Rattle.forest.specs.Places.{level_units_at, row_end}

-- whatever the bytes are, of the node at a unit below n; None where its row is cut off before its record
unfoldable pub slot_in : (base : ℕ) → List ℕ → (n node : ℕ) → Option (Result ℕ ℕ)
slot_in base s n node =
    cond (ltb (row_end base s node n) (node + level_units_at base s node)) None
    (Some (cond (ltb (node + level_units_at base s node) (row_end base s node n)) (Ok (node + level_units_at base s node)) (Err (node + level_units_at base s node))))
