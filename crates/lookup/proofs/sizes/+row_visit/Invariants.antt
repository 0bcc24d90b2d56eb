-- `lookup::sizes::visit` and `lookup::sizes::row`, which call each other, meet their contracts: the depth left falls. Assumes nothing.
use Rattle.level.specs.Places.{levels_at}
use Rattle.lookup.specs.Turns.{Ready}
use Rattle.lookup.specs.Sizes.{RowTo}
use Prim.Native.Nat.{◌+◌, ◌-◌, ◌*◌}
use Rattle.lookup.proofs.sizes.+row_visit.Given as goal

abbrev pub decreases-row : goal.decreases-row
decreases-row l = 2 * l.left + 1

abbrev pub decreases-visit : goal.decreases-visit
decreases-visit l = 2 * l.left

abbrev pub invariant-row-loop-i : goal.invariant-row-loop-i
invariant-row-loop-i l = Ready l.base l.s l.left l.end l.filter l.from l.next l.size × RowTo l.query l.initial.sum l.barred (levels_at l.filter l.from) l.base l.s l.left l.initial.i l.end l.i l.size l.sum

abbrev pub decreases-row-loop-i : goal.decreases-row-loop-i
decreases-row-loop-i l = l.end - l.i
