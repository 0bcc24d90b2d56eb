-- `pages::writing::visit` and `pages::writing::row`, which call each other, meet their contracts: the depth left falls. Assumes nothing.
use Rattle.level.specs.Places.{levels_at}
use Rattle.lookup.specs.Turns.{Ready}
use Rattle.pages.specs.Paths.{Trail}
use Rattle.pages.specs.Written.{query_of, RowTo}
use Prim.Native.Nat.{◌+◌, ◌-◌, ◌*◌, ◌≤◌}
use Rattle.pages.proofs.writing.+row_visit.Given as goal

abbrev pub decreases-row : goal.decreases-row
decreases-row l = 2 * l.left + 1

abbrev pub decreases-visit : goal.decreases-visit
decreases-visit l = 2 * l.left

abbrev pub invariant-row-loop-i : goal.invariant-row-loop-i
invariant-row-loop-i l = Ready l.base l.s l.left l.end l.filter l.from l.next l.size × Trail l.base l.s l.ask.n l.path l.left l.size × (l.end ≤ l.ask.n) × RowTo (query_of l.ask) l.barred (levels_at l.filter l.from) l.base l.s l.ask.n l.left l.initial.i l.end l.i l.initial.path l.path l.initial.out l.out l.initial.sum l.sum

abbrev pub decreases-row-loop-i : goal.decreases-row-loop-i
decreases-row-loop-i l = l.end - l.i
