-- `room::counts::move_count` meets its contract. Assumes nothing.
use Rattle.room.proofs.BelowLaws.{count-moved}
use borrow.Author.Rules.{rules}
use Rattle.room.proofs.counts.move_count.Goals as goal

-- src/counts.rt:16:1
pub returns : goal.returns
returns c = search (rules, count-moved)
