-- `seek::children::find_child` meets its contract. Assumes nothing.
use Prim.Native.Nat.{◌≤◌, ◌-◌, max}
use Rattle.seek.proofs.Halving.{Narrowed}
use Rattle.seek.proofs.children.find_child.Given as goal

abbrev pub invariant-loop-a : goal.invariant-loop-a
invariant-loop-a l = (l.lo ≤ l.a) × (l.a ≤ max l.lo l.b) × (l.b ≤ l.hi) × Narrowed l.base l.s l.level l.d l.lo l.hi l.a l.b

abbrev pub decreases-loop-a : goal.decreases-loop-a
decreases-loop-a l = l.b - l.a
