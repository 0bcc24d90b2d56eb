-- `walk::bounds::most_records` meets its contract. Assumes nothing.
use Prim.Native.Nat.{◌-◌}
use Rattle.walk.proofs.BoundLaws.{Doubled}
use Rattle.walk.proofs.bounds.most_records.Given as goal

abbrev pub invariant-loop : goal.invariant-loop
invariant-loop l = Doubled l.levels l.counter l.most
