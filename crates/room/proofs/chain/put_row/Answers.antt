-- `room::chain::put_row` meets its contract. Assumes nothing.
use Rattle.room.proofs.RunLaws.{row_put}
use borrow.Author.Rules.{rules}
use Rattle.room.proofs.chain.put_row.Goals as goal

-- src/chain.rt:13:1
pub returns : goal.returns
returns c = search (rules, row_put)
