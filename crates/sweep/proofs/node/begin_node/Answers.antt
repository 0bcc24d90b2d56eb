-- `sweep::node::begin_node` meets its contract. Assumes nothing.
use Rattle.sweep.proofs.RowLaws.{row_begun}
use borrow.Author.Rules.{rules}
use Rattle.sweep.proofs.node.begin_node.Goals as goal

pub returns : goal.returns
returns c = search (rules, row_begun)
