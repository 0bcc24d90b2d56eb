-- `forest::rows::level_at` meets its contract. Assumes nothing.
use borrow.Author.Rules.{rules}
use Rattle.forest.proofs.RowLaws.{level_is}
use Rattle.forest.proofs.rows.level_at.Goals as goal

pub returns : goal.returns
returns c = search (rules, level_is)
