-- `room::chain::mark_row` meets its contract. Assumes nothing.
use Rattle.room.proofs.RunLaws.{row_marked}
use borrow.Author.Rules.{rules}
use Rattle.room.proofs.chain.mark_row.Goals as goal

-- src/chain.rt:57:1
pub returns : goal.returns
returns c = search (rules, row_marked)
