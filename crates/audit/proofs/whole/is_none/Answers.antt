-- `audit::whole::is_none` meets its contract. Assumes nothing.
use borrow.Author.Rules.{rules}
use Rattle.audit.proofs.WholeLaws.{none_nodes, none_pairs, none_cells}
use Rattle.audit.proofs.whole.is_none.Goals as goal

pub returns-then-left-eq0-2 : goal.returns-then-left-eq0-2
returns-then-left-eq0-2 c = search (rules, none_cells)

pub returns-else-left-eq0-2 : goal.returns-else-left-eq0-2
returns-else-left-eq0-2 c = search (rules, none_pairs)

pub returns-else-left-eq0 : goal.returns-else-left-eq0
returns-else-left-eq0 c = search (rules, none_nodes)
