-- `walk::nodes::level_stop` meets its contract. Assumes nothing.
use borrow.Author.Rules.{rules}
use Rattle.walk.proofs.NextLevel.{next_level}
use Rattle.walk.proofs.nodes.level_stop.Goals as goal

pub returns : goal.returns
returns c = search (rules, next_level)
