-- `room::below::move_one` meets its contract. Assumes nothing.
use Rattle.room.proofs.BelowLaws.{one-moved}
use borrow.Author.Rules.{rules}
use Rattle.room.proofs.below.move_one.Goals as goal

-- src/below.rt:11:1
pub returns : goal.returns
returns c = search (rules, one-moved)
