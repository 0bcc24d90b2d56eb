-- `edit::taking::is_alone` meets its contract. Assumes nothing.
use Rattle.edit.proofs.TakeLaws.{alone_is, alone-not}
use borrow.Author.Rules.{rules}
use Rattle.edit.proofs.taking.is_alone.Goals as goal

-- src/taking.rt:18:9
pub returns-then-row-eq1 : goal.returns-then-row-eq1
returns-then-row-eq1 c = search (rules, alone_is)

-- src/taking.rt:12:1
pub returns : goal.returns
returns c = search (rules, alone-not)
