-- `room::chain::put_rows` meets its contract. Assumes nothing.
use Rattle.std.proofs.Common.{arith}
use Rattle.room.proofs.RunLaws.{level_short, rows_begin, row_within, row_fits, rows_step, rows_end}
use Rattle.room.proofs.chain.put_rows.Goals as goal

pub loop-level-init : goal.loop-level-init
loop-level-init c =
    let a = c.args in
    rw c.into_iter-level-iterator.ensures.into_iter_gives (rows_begin a.base a.at a.unit.now a.text.now a.from _ a.units c.requires.1 c.requires.2)

pub overflow_sub-left : goal.overflow_sub-left
overflow_sub-left c = omega (arith, row_within c.loop-level.invariant c.in-Some.ensures.steps)

pub put_row-requires : goal.put_row-requires
put_row-requires c =
    let l = c.loop-level in
    let e = c.in-Some.ensures.steps in
    (row_fits l.invariant e c.requires.0, level_short l.invariant e)

pub loop-level-preserved : goal.loop-level-preserved
loop-level-preserved c = rows_step c.loop-level.invariant c.in-Some.ensures.steps c.from-own.ensures c.requires.0 c.requires.3 c.put_row.ensures

pub returns : goal.returns
returns c = rows_end c.loop-level.invariant c.in-None.ensures.steps.0 c.requires.0 c.requires.3 c.copy_in.ensures
