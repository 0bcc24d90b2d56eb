-- `trie::asking::list_in` meets its contract. Assumes nothing.
use Rattle.trie.proofs.AskLaws.{list_at_once}
use borrow.Author.Rules.{rules}
use Rattle.trie.proofs.asking.list_in.Goals as goal

-- src/asking.rt:92:1
pub returns : goal.returns
returns c = search (rules, list_at_once)
