-- FOR THE CODE. The slot of a value at a node: Ok of the unit that holds it, or Err of the unit before which it would go. Assumes nothing.
use Rattle.std.specs.Prelude.{ℕ, ◌+◌, ◌-◌, cond, List, Option, Some, None, Result, Ok, Err, ltb}
use Rattle.forest.specs.Places.{level_units_at, row_end}
use Rattle.trie.specs.Values.{values_from, spot_from}

-- a place among values that begin at this unit
abbrev pub slot_at : ℕ → Result ℕ ℕ → Result ℕ ℕ
slot_at first (Ok k) = Ok (first + k)
slot_at first (Err k) = Err (first + k)

-- whatever the bytes are, of the node at a unit below n; None where its row is cut off before its values
unfoldable pub slot_in : (base : ℕ) → List ℕ → (n node x : ℕ) → Option (Result ℕ ℕ)
slot_in base s n node x =
    cond (ltb (row_end base s node n) (node + level_units_at base s node)) None
    (Some (slot_at (node + level_units_at base s node)
    (spot_from 0 x (values_from base s (node + level_units_at base s node) (row_end base s node n - (node + level_units_at base s node))))))
