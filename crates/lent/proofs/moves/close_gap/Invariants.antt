-- `lent::moves::close_gap` meets its contract. Assumes nothing.
use Prim.Native.Nat.{◌+◌, ◌-◌}
use mathlib.Core.Path.{◌≡◌}
use mathlib.Core.Bool.{true}
use lib.Dec.{leb}
use lib.ListN.{length}
use Rattle.lent.specs.Parts.{part, patch}
use Rattle.lent.proofs.moves.close_gap.Given as goal

abbrev pub invariant-loop-i : goal.invariant-loop-i
invariant-loop-i l = (leb (l.end + l.by) (length l.initial.s) ≡ true) × (l.s ≡ patch l.at (part (l.at + l.by) (l.i - l.at) l.initial.s) l.initial.s) × (length l.s ≡ length l.initial.s)
