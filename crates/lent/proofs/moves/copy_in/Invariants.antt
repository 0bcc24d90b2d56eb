-- `lent::moves::copy_in` meets its contract. Assumes nothing.
use Prim.Native.Nat.{◌+◌}
use mathlib.Core.Path.{◌≡◌}
use mathlib.Core.Bool.{true}
use lib.Dec.{leb}
use lib.ListN.{length}
use Rattle.lent.specs.Parts.{part, patch}
use Rattle.lent.proofs.moves.copy_in.Given as goal

abbrev pub invariant-loop-i : goal.invariant-loop-i
invariant-loop-i l = (leb (l.at + length l.bytes) (length l.initial.s) ≡ true) × (l.s ≡ patch l.at (part 0 l.i l.bytes) l.initial.s) × (length l.s ≡ length l.initial.s)
