-- `lookup::sizes::visit` and `lookup::sizes::row`, which call each other, meet their contracts: the depth left falls. Assumes nothing.
use Rattle.lookup.proofs.TurnLaws.{row_ready, node_in}
use Rattle.lookup.proofs.SizeLaws.{node_shut, node-told, row_begin, row_hidden, row_visited, row_told}
use borrow.Author.Rules.{rules}
use Rattle.lookup.proofs.sizes.+row_visit.Goals as goal

pub row-loop-i-init : goal.row-loop-i-init
row-loop-i-init t c = (search (rules, row_ready), search (rules, row_begin))

pub row-loop-i-preserved-then-is_hidden : goal.row-loop-i-preserved-then-is_hidden
row-loop-i-preserved-then-is_hidden t c = (search rules, search (rules, row_hidden))

pub row-visit-sum-requires : goal.row-visit-sum-requires
row-visit-sum-requires t c = (search rules, (search (rules, node_in), search rules, search rules, search rules, search rules, search rules))

pub row-loop-i-preserved : goal.row-loop-i-preserved
row-loop-i-preserved t c = (search rules, search (rules, row_visited))

pub row-returns : goal.row-returns
row-returns t c = search (rules, row_told)

pub visit-returns-then-left-eq0 : goal.visit-returns-then-left-eq0
visit-returns-then-left-eq0 t c = search (rules, node_shut)

pub visit-returns : goal.visit-returns
visit-returns t c = search (rules, node-told)
