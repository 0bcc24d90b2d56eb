-- `room::chain::wanted_for` meets its contract. Assumes nothing.
use Rattle.room.proofs.RunLaws.{wanted_begin, wanted_step, wanted_end, wanted_small}
use Rattle.room.proofs.chain.wanted_for.Goals as goal

pub loop-level-init : goal.loop-level-init
loop-level-init c = rw c.into_iter-level-iterator.ensures.into_iter_gives (wanted_begin c.args.text.now c.args.from)

pub loop-level-preserved : goal.loop-level-preserved
loop-level-preserved c = wanted_step c.loop-level.invariant c.in-Some.ensures.steps c.cells_of-cells.ensures.0

pub returns : goal.returns
returns c =
    let left = c.loop-level.invariant in
    (wanted_end left c.in-None.ensures.steps.0, wanted_small left c.requires)
