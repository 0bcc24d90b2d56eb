-- `retain::setting::set_in` meets its contract. Assumes nothing.
use Rattle.retain.proofs.KnownLaws.{accepted_size}
use Rattle.retain.proofs.SetLaws.{chain_does}
use borrow.Author.Rules.{rules}
use Rattle.retain.proofs.setting.set_in.Goals as goal

-- src/setting.rt:69:5
pub add_chain-requires : goal.add_chain-requires
add_chain-requires c = search (rules, accepted_size)

-- src/setting.rt:52:1
pub returns : goal.returns
returns c = search (rules, chain_does, accepted_size)
