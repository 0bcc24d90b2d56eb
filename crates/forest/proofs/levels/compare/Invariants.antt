-- `forest::levels::compare` meets its contract. Assumes nothing.
use mathlib.Core.Path.{◌≡◌}
use Prim.Native.Nat.{◌≤◌}
use lib.ListN.{drop}
use Rattle.forest.specs.Compare.{order_of}
use Rattle.forest.proofs.levels.compare.Given as goal

abbrev pub invariant-loop-i : goal.invariant-loop-i
invariant-loop-i l = (order_of (drop l.i l.a) (drop l.i l.b) ≡ order_of l.a l.b) × (l.i ≤ l.both)
