-- `trie::inserting::insert_in` meets its contract. Assumes nothing.
use Rattle.trie.proofs.KnownLaws.{accepted_size}
use Rattle.trie.proofs.InsertLaws.{chain_does}
use borrow.Author.Rules.{rules}
use Rattle.trie.proofs.inserting.insert_in.Goals as goal

-- src/inserting.rt:58:5
pub add_chain-requires : goal.add_chain-requires
add_chain-requires c = search (rules, accepted_size)

-- src/inserting.rt:49:1
pub returns : goal.returns
returns c = search (rules, chain_does, accepted_size)
