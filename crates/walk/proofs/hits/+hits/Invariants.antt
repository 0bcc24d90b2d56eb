-- `walk::hits::hits` meets its contract: the name's remaining bytes fall. Assumes nothing.
use lib.ListN.{length}
use Prim.Native.Nat.{◌+◌, ◌-◌}
use Rattle.walk.proofs.hits.+hits.Given as goal

abbrev pub decreases-hits : goal.decreases-hits
decreases-hits l = length l.name.now + 1 - l.from
