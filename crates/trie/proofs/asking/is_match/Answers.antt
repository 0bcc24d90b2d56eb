-- `trie::asking::is_match` meets its contract. Assumes nothing.
use Rattle.trie.proofs.AskLaws.{ask_other, ask_store}
use borrow.Author.Rules.{rules}
use Rattle.trie.proofs.asking.is_match.Goals as goal

-- src/asking.rt:48:9
pub returns-then-not-is_store : goal.returns-then-not-is_store
returns-then-not-is_store c = search (rules, ask_other)

-- src/asking.rt:44:1
pub returns : goal.returns
returns c = search (rules, ask_store)
