-- `sweep::row::put_head` meets its contract. Assumes nothing.
use Rattle.sweep.proofs.RowLaws.{head-put}
use borrow.Author.Rules.{rules}
use Rattle.sweep.proofs.row.put_head.Goals as goal

pub returns : goal.returns
returns c = search (rules, head-put)
