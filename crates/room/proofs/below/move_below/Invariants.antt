-- `room::below::move_below` meets its contract. Assumes nothing.
use Prim.Native.Nat.{◌-◌}
use Rattle.room.proofs.BelowLaws.{BelowLeft}
use Rattle.room.proofs.below.move_below.Given as goal

abbrev pub invariant-loop-j : goal.invariant-loop-j
invariant-loop-j l = BelowLeft l.more l.less l.base l.nodes l.count l.initial.s l.j l.s
