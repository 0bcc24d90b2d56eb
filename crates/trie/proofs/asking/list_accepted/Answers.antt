-- `trie::asking::list_accepted` meets its contract. Assumes nothing.
use Rattle.edit.proofs.KnownPath.{units-told}
use Rattle.trie.proofs.AskLaws.{list-none}
use borrow.Author.Rules.{rules}
use Rattle.trie.proofs.asking.list_accepted.Goals as goal

-- src/asking.rt:86:9
pub returns-in_default : goal.returns-in_default
returns-in_default c = search (rules, list-none)

-- src/asking.rt:88:5
pub list_in-requires : goal.list_in-requires
list_in-requires c = search (rules, units-told)
