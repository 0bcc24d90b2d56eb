-- The slot of a value, from the row that was read. Assumes nothing.
use Rattle.std.specs.Prelude.{None, Some, Err, Ok}
use mathlib.Core.Path.{◌≡◌, ◌∙◌}
use mathlib.Core.List.{List}
use Prim.Native.Nat.{ℕ, ◌+◌, ◌-◌, ◌/◌, ◌≤◌, ◌<◌}
use borrow.Author.Tests.{lt-ltb, le-ltb}
use Rattle.forest.specs.declared.Row.{Row}
use Rattle.forest.specs.Places.{level_units_at, row_end, RowAt}
use Rattle.trie.specs.Values.{values_from, spot_from}
use Rattle.trie.specs.Slots.{slot_in}

module _ (base : ℕ) (s : List ℕ) (n node x : ℕ) {row : Row} (r : RowAt base s node n row) {first end : ℕ} (ef : first ≡ node + (row.len + 23) / 16) (ee : end ≡ row.end) where
  first_is : first ≡ node + level_units_at base s node
  first_is = ef ∙ rw r.len_is

  end_is : end ≡ row_end base s node n
  end_is = ee ∙ r.end_is

  pub slot_broken : end < first → None ≡ slot_in base s n node x
  unfolding slot_in
  slot_broken h = rw (← first_is, ← end_is, lt-ltb end first h)

  module _ (h : first ≤ end) {k : ℕ} where
    pub slot_found : Ok k ≡ spot_from 0 x (values_from base s first (end - first)) → Some (Ok (first + k)) ≡ slot_in base s n node x
    unfolding slot_in
    slot_found es = rw (← first_is, ← end_is, le-ltb end first h, ← es)

    pub slot_missed : Err k ≡ spot_from 0 x (values_from base s first (end - first)) → Some (Err (first + k)) ≡ slot_in base s n node x
    unfolding slot_in
    slot_missed es = rw (← first_is, ← end_is, le-ltb end first h, ← es)
