-- `retain::asking::look_accepted` meets its contract. Assumes nothing.
use Rattle.edit.proofs.KnownPath.{units-told}
use Rattle.retain.proofs.LookLaws.{look_none}
use borrow.Author.Rules.{rules}
use Rattle.retain.proofs.asking.look_accepted.Goals as goal

-- src/asking.rt:50:9
pub returns-in_default : goal.returns-in_default
returns-in_default c = search (rules, look_none)

-- src/asking.rt:52:5
pub look_in-requires : goal.look_in-requires
look_in-requires c = search (rules, units-told)
