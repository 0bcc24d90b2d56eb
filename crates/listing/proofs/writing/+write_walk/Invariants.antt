-- `listing::writing::write_walk` meets its contract: the name's remaining bytes fall. Assumes nothing.
use lib.ListN.{length}
use Prim.Native.Nat.{◌+◌, ◌-◌}
use Rattle.listing.proofs.writing.+write_walk.Given as goal

abbrev pub decreases-write_walk : goal.decreases-write_walk
decreases-write_walk l = length l.name.now + 1 - l.from
