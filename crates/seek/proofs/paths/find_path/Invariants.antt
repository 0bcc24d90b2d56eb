-- `seek::paths::find_path` meets its contract. Assumes nothing.
use Prim.Native.Nat.{◌-◌}
use Rattle.seek.proofs.Descent.{Going}
use Rattle.seek.proofs.paths.find_path.Given as goal

abbrev pub invariant-loop-depth : goal.invariant-loop-depth
invariant-loop-depth l = Going l.base l.s l.n l.text l.nodes l.depth l.lo l.hi l.from

abbrev pub decreases-loop-depth : goal.decreases-loop-depth
decreases-loop-depth l = 128 - l.depth
