-- FOR THE CODE. The run of units that new nodes for some levels take, the last with one unit of its own, and its marks.
-- `run-bytes` and `run-marks` of proofs/RunLaws.antt: it is what a chain of new nodes is written down as. Assumes nothing.
use Rattle.std.specs.Prelude.{◌≡◌, ℕ, ◌+◌, ◌-◌, List, [], ◌∷◌, ◌++◌, length, replicate}
use Rattle.held.specs.Order.{Filter}
use Rattle.held.specs.Room.{level_cells}
use Rattle.held.specs.Edit.{weigh}
use Rattle.region.specs.Layout.{level_units, head_bytes, level_bytes}
use Rattle.room.specs.declared.Load.{Load}

-- how many units
unfoldable pub run_units : Filter → ℕ
run_units [] = 1
run_units (g ∷ gs) = level_units g + run_units gs

-- what a node before the levels gs holds: one, if none is left
abbrev pub last_own : Filter → ℕ
last_own [] = 1
last_own (g ∷ gs) = 0

-- their bytes, where x are those of the last one's unit
unfoldable pub run_bytes : (x : List ℕ) → Filter → List ℕ
run_bytes x [] = x
run_bytes x (g ∷ gs) = (head_bytes g (last_own gs) (run_units gs - last_own gs) ++ level_bytes g) ++ run_bytes x gs

-- their marks, from a depth on
unfoldable pub run_marks : ℕ → Filter → List ℕ
run_marks d [] = 255 ∷ []
run_marks d (g ∷ gs) = (d ∷ replicate (level_units g - 1) 255) ++ run_marks (d + 1) gs

-- what new nodes for some levels take
pub record WantedFor (gs : Filter) (r : Load) : Type 0 where
  pub nodes_are : r.nodes ≡ length gs
  pub pairs_are : r.pairs ≡ 1
  pub cells_are : r.cells ≡ weigh level_cells gs
  pub units_are : r.units ≡ run_units gs
