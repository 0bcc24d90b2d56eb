-- `room::counts::move_counts` meets its contract. Assumes nothing.
use Rattle.room.proofs.BelowLaws.{counts-moved}
use borrow.Author.Rules.{rules}
use Rattle.room.proofs.counts.move_counts.Goals as goal

-- src/counts.rt:25:1
pub returns : goal.returns
returns c = search (rules, counts-moved)
