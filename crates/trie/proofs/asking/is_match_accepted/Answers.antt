-- `trie::asking::is_match_accepted` meets its contract. Assumes nothing.
use Rattle.edit.proofs.KnownPath.{units-told}
use Rattle.trie.proofs.AskLaws.{ask-none}
use borrow.Author.Rules.{rules}
use Rattle.trie.proofs.asking.is_match_accepted.Goals as goal

-- src/asking.rt:38:9
pub returns-in_default : goal.returns-in_default
returns-in_default c = search (rules, ask-none)

-- src/asking.rt:40:5
pub is_match_in-requires : goal.is_match_in-requires
is_match_in-requires c = search (rules, units-told)
