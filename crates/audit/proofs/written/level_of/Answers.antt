-- `audit::written::level_of` meets its contract. Assumes nothing.
use borrow.Author.Rules.{rules}
use Rattle.audit.proofs.RowLaws.{level_of_row}
use Rattle.audit.proofs.written.level_of.Goals as goal

pub returns : goal.returns
returns c = search (rules, level_of_row)
