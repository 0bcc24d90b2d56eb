-- `room::chain::put_marks` meets its contract. Assumes nothing.
use Rattle.std.proofs.Common.{arith}
use Rattle.level.specs.Places.{levels_at}
use Rattle.room.proofs.RunLaws.{marks_begin, marks_fit, depth_small, marks_step, marks_end}
use borrow.Author.Rules.{rules}
use Rattle.room.proofs.chain.put_marks.Goals as goal

pub loop-level-init : goal.loop-level-init
loop-level-init c =
    let a = c.args in
    rw c.into_iter-level-iterator.ensures.into_iter_gives (marks_begin a.at a.d (levels_at a.text.now a.from) _ a.units c.requires.1)

pub mark_row-requires : goal.mark_row-requires
mark_row-requires c =
    let l = c.loop-level in
    let e = c.in-Some.ensures.steps in
    (search rules, marks_fit l.invariant e c.requires.0, depth_small l.invariant e c.requires.3)

pub overflow_add-depth : goal.overflow_add-depth
overflow_add-depth c = omega (arith, depth_small c.loop-level.invariant c.in-Some.ensures.steps c.requires.3)

pub loop-level-preserved : goal.loop-level-preserved
loop-level-preserved c = marks_step c.loop-level.invariant c.in-Some.ensures.steps c.requires.0 c.mark_row.ensures

pub returns : goal.returns
returns c = marks_end c.loop-level.invariant c.in-None.ensures.steps.0 c.requires.0 c.fill.ensures
