-- `sweep::node::end_node` meets its contract. Assumes nothing.
use Rattle.sweep.proofs.RowLaws.{ended-gone, ended-on}
use borrow.Author.Rules.{rules}
use Rattle.sweep.proofs.node.end_node.Goals as goal

pub returns-then-own-under-eq0 : goal.returns-then-own-under-eq0
returns-then-own-under-eq0 c = (search rules, search (rules, ended-gone))

pub returns : goal.returns
returns c = (search rules, search (rules, ended-on))
