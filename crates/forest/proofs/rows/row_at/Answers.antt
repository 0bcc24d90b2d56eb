-- `forest::rows::row_at` meets its contract. Assumes nothing.
use borrow.Author.Rules.{rules}
use Rattle.forest.proofs.RowLaws.{row_is}
use Rattle.forest.proofs.rows.row_at.Goals as goal

pub returns : goal.returns
returns c = search (rules, row_is)
