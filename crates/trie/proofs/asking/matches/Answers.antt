-- `trie::asking::matches` meets its contract. Assumes nothing.
use Rattle.trie.proofs.AskLaws.{list_other, list_store}
use borrow.Author.Rules.{rules}
use Rattle.trie.proofs.asking.matches.Goals as goal

-- src/asking.rt:96:9
pub returns-then-not-is_store : goal.returns-then-not-is_store
returns-then-not-is_store c = search (rules, list_other)

-- src/asking.rt:92:1
pub returns : goal.returns
returns c = search (rules, list_store)
