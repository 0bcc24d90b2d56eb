-- `walk::sizes::sizes` meets its contract: the name's remaining bytes fall. Assumes nothing.
use lib.ListN.{length}
use Prim.Native.Nat.{◌+◌, ◌-◌}
use Rattle.walk.proofs.sizes.+sizes.Given as goal

abbrev pub decreases-sizes : goal.decreases-sizes
decreases-sizes l = length l.name.now + 1 - l.from
