-- `audit::rows::take_node` meets its contract. Assumes nothing.
use borrow.Author.Rules.{rules}
use Rattle.audit.proofs.RowLaws.{take_nodes, take_pairs, take_cells, take_all}
use Rattle.audit.proofs.rows.take_node.Goals as goal

pub returns-then-left-lt1 : goal.returns-then-left-lt1
returns-then-left-lt1 c = search (rules, take_nodes)

pub returns-then-left-own : goal.returns-then-left-own
returns-then-left-own c = search (rules, take_pairs)

pub returns-then-left-cells : goal.returns-then-left-cells
returns-then-left-cells c = search (rules, take_cells)

pub returns : goal.returns
returns c = search (rules, take_all)
