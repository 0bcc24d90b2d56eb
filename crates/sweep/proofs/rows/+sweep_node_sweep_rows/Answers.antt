-- `sweep::rows::sweep_node` and `sweep::rows::sweep_rows`, which call each other, meet their contracts: the depth grows up to
use Rattle.sweep.proofs.NodeLaws.{node_swept}
use Rattle.sweep.proofs.TurnLaws.{rows_begin, rows_step, rows_deep, rows_end}
use borrow.Author.Rules.{rules}
use Rattle.sweep.proofs.rows.+sweep_node_sweep_rows.Goals as goal

pub sweep_node-returns : goal.sweep_node-returns
sweep_node-returns t c =
    let a = c.args in
    let pre = c.requires in
    node_swept a.clock a.base a.depth a.i a.hi a.s.now a.row a.kept pre.0 pre.1 pre.2 pre.6 pre.7
    c.begin_node-stay.result c.begin_node-stay.new.s c.sweep_rows-below.new.s c.end_node.new.s c.begin_node-stay.ensures
    c.sweep_rows-below.result c.sweep_rows-below.ensures c.end_node.ensures.0 c.end_node.ensures.1

pub sweep_rows-returns-then-depth-gt-DEEPEST : goal.sweep_rows-returns-then-depth-gt-DEEPEST
sweep_rows-returns-then-depth-gt-DEEPEST t c = search (rules, rows_deep)

pub sweep_rows-loop-i-init : goal.sweep_rows-loop-i-init
sweep_rows-loop-i-init t c = search (rules, rows_begin)

pub sweep_rows-loop-i-preserved : goal.sweep_rows-loop-i-preserved
sweep_rows-loop-i-preserved t c = search (rules, rows_step)

pub sweep_rows-returns : goal.sweep_rows-returns
sweep_rows-returns t c = search (rules, rows_end)
