-- `trie::calls::remove` meets its contract. Assumes nothing.
use Rattle.trie.specs.Calls.{subscription_store}
use Rattle.edit.proofs.CallLaws.{not_a_store, store_does}
use borrow.Author.Rules.{rules}
use Rattle.trie.proofs.calls.remove.Goals as goal

-- src/calls.rt:41:9
pub returns-then-not-is_store : goal.returns-then-not-is_store
returns-then-not-is_store c = search (rules, not_a_store subscription_store)

-- src/calls.rt:37:1
pub returns : goal.returns
returns c = search (rules, store_does subscription_store)
