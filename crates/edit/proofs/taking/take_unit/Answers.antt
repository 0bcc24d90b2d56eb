-- `edit::taking::take_unit` meets its contract. Assumes nothing.
use Rattle.edit.proofs.TakeLaws.{unit_out, unit-less}
use borrow.Author.Rules.{rules}
use Rattle.edit.proofs.taking.take_unit.Goals as goal

pub returns-then-n-at : goal.returns-then-n-at
returns-then-n-at c = search (rules, unit_out)

-- src/taking.rt:50:1
pub returns : goal.returns
returns c = search (rules, unit-less)
