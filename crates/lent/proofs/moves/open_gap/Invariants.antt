-- `lent::moves::open_gap` meets its contract. Assumes nothing.
use Prim.Native.Nat.{◌+◌, ◌-◌, ◌≤◌}
use mathlib.Core.Path.{◌≡◌}
use mathlib.Core.Bool.{true}
use lib.Dec.{leb}
use lib.ListN.{length}
use Rattle.lent.specs.Parts.{part, patch}
use Rattle.lent.proofs.moves.open_gap.Given as goal

abbrev pub invariant-loop-i : goal.invariant-loop-i
invariant-loop-i l = (l.at ≤ l.i) × (leb (l.end + l.by) (length l.initial.s) ≡ true) × (l.s ≡ patch (l.i + l.by) (part l.i (l.end - l.i) l.initial.s) l.initial.s) × (length l.s ≡ length l.initial.s)
