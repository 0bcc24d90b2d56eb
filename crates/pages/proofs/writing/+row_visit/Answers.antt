-- `pages::writing::visit` and `pages::writing::row`, which call each other, meet their contracts: the depth left falls. Assumes nothing.
use Rattle.pages.proofs.PathLaws.{trail_kept}
use Rattle.pages.proofs.NodeLaws.{trail_down, node_written, node_shut, node_below}
use Rattle.pages.proofs.RowLaws.{row_begin, row_hidden, row_visited, row_written}
use Rattle.lookup.proofs.TurnLaws.{row_ready, node_in}
use borrow.Author.Rules.{rules}
use Rattle.pages.proofs.writing.+row_visit.Goals as goal

pub row-loop-i-init : goal.row-loop-i-init
row-loop-i-init t c = (search (rules, row_ready), search rules, search rules, search (rules, row_begin))

pub row-loop-i-preserved-then-is_hidden : goal.row-loop-i-preserved-then-is_hidden
row-loop-i-preserved-then-is_hidden t c = (search rules, search rules, search rules, search (rules, row_hidden))

pub row-visit-sum-requires : goal.row-visit-sum-requires
row-visit-sum-requires t c = (search rules, (search (rules, node_in), search rules, search rules, search rules, search rules, search rules))

pub row-loop-i-preserved : goal.row-loop-i-preserved
row-loop-i-preserved t c = (search rules, search (rules, trail_kept), search rules, search (rules, row_visited))

pub row-returns : goal.row-returns
row-returns t c = search (rules, row_written)

pub visit-returns-then-left-eq0 : goal.visit-returns-then-left-eq0
visit-returns-then-left-eq0 t c = search (rules, node_shut)

pub visit-write_own-own-requires : goal.visit-write_own-own-requires
visit-write_own-own-requires t c = (search (rules, trail_down), search rules, search rules, search rules)

pub visit-row-requires : goal.visit-row-requires
visit-row-requires t c = (search rules, (search (rules, node_below), search rules, search rules, search rules, search (rules, trail_down), search rules, search rules))

pub visit-returns : goal.visit-returns
visit-returns t c =
    let p = c.requires in
    node_written _ _ _ _ _ _ _ _ p.3 (search rules) p.0 p.1 _ c.args.filter.now c.args.next _ (search rules) _ _ _ _ _ _ _ (search rules) c.write_own-own.ensures c.row.ensures
