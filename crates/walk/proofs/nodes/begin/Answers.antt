-- `walk::nodes::begin` meets its contract. Assumes nothing.
use borrow.Author.Rules.{rules}
use Rattle.walk.proofs.StartLaws.{start_top, start-dollar}
use Rattle.walk.proofs.nodes.begin.Goals as goal

pub returns-then-is_metadata : goal.returns-then-is_metadata
returns-then-is_metadata c = search (rules, start-dollar)

pub returns : goal.returns
returns c = search (rules, start_top)
