-- `room::make::make_chain` meets its contract. Assumes nothing.
use Rattle.room.proofs.MakeLaws.{chain_made}
use borrow.Author.Rules.{rules}
use Rattle.room.proofs.make.make_chain.Goals as goal

-- src/make.rt:40:1
pub returns : goal.returns
returns c = search (rules, chain_made)
