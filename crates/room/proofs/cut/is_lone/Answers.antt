-- `room::cut::is_lone` meets its contract. Assumes nothing.
use Rattle.room.proofs.StayLaws.{lone_past, lone_end, lone_own}
use borrow.Author.Rules.{rules}
use Rattle.room.proofs.cut.is_lone.Goals as goal

-- src/cut.rt:18:13
pub returns-then-parent-k : goal.returns-then-parent-k
returns-then-parent-k c = search (rules, lone_past)

-- src/cut.rt:10:1
pub returns-else-parent-k : goal.returns-else-parent-k
returns-else-parent-k c = search (rules, lone_end)

-- src/cut.rt:10:1
pub returns-else-parent-eq0 : goal.returns-else-parent-eq0
returns-else-parent-eq0 c = search (rules, lone_own)
