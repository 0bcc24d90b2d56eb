-- `sweep::row::move_row` meets its contract. Assumes nothing.
use Rattle.sweep.proofs.RowLaws.{row-moved}
use borrow.Author.Rules.{rules}
use Rattle.sweep.proofs.row.move_row.Goals as goal

pub returns : goal.returns
returns c = search (rules, row-moved)
