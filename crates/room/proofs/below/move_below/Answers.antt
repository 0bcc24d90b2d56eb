-- `room::below::move_below` meets its contract. Assumes nothing.
use Rattle.room.proofs.BelowLaws.{node_below, below_begin, below_step, below_end}
use borrow.Author.Rules.{rules}
use Rattle.room.proofs.below.move_below.Goals as goal

-- src/below.rt:34:5
pub loop-j-init : goal.loop-j-init
loop-j-init c = search (rules, below_begin)

-- src/below.rt:36:9
pub move_one-requires : goal.move_one-requires
move_one-requires c = search (rules, node_below)

-- src/below.rt:34:5
pub loop-j-preserved : goal.loop-j-preserved
loop-j-preserved c = search (rules, below_step)

-- src/below.rt:29:1
pub returns : goal.returns
returns c = search (rules, below_end)
