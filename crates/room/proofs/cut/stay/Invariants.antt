-- `room::cut::stay` meets its contract: the nodes from the place before c on all go. Assumes nothing.
use Prim.Native.Nat.{◌-◌}
use mathlib.Core.Path.{◌≡◌}
use lib.ListN.{take, drop}
use Rattle.room.specs.Stay.{staying}
use Rattle.room.proofs.cut.stay.Given as goal

abbrev pub invariant-loop-c : goal.invariant-loop-c
invariant-loop-c l = staying l.base l.s l.n (drop (l.c - 1) (take l.depth l.nodes)) ≡ 0
