-- `room::take::take_chain` meets its contract. Assumes nothing.
use Rattle.room.proofs.MakeLaws.{chain-taken}
use borrow.Author.Rules.{rules}
use Rattle.room.proofs.take.take_chain.Goals as goal

-- src/take.rt:22:1
pub returns : goal.returns
returns c = search (rules, chain-taken)
