-- `audit::placed::may_hold` meets its contract. Assumes nothing.
use borrow.Author.Rules.{rules}
use Rattle.audit.proofs.RowLaws.{first_level, later_level}
use Rattle.audit.proofs.placed.may_hold.Goals as goal

pub returns-then-d-eq1 : goal.returns-then-d-eq1
returns-then-d-eq1 c = search (rules, first_level)

pub returns : goal.returns
returns c = search (rules, later_level)
