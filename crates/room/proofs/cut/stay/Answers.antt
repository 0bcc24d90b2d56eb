-- `room::cut::stay` meets its contract. Assumes nothing.
use Rattle.room.proofs.BelowLaws.{node_below}
use Rattle.room.proofs.StayLaws.{stay_begin, stay_again, stay_stop, stay_end}
use borrow.Author.Rules.{rules}
use Rattle.room.proofs.cut.stay.Goals as goal

pub loop-c-init : goal.loop-c-init
loop-c-init c = search (rules, stay_begin)

pub is_lone-requires : goal.is_lone-requires
is_lone-requires c = search (rules, node_below)

pub returns-then-not-is_lone : goal.returns-then-not-is_lone
returns-then-not-is_lone c = search (rules, stay_stop)

pub loop-c-preserved : goal.loop-c-preserved
loop-c-preserved c = search (rules, stay_again)

pub returns : goal.returns
returns c = search (rules, stay_end)
