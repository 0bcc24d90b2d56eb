-- `retain::calls::remove_expired` meets its contract. Assumes nothing.
use Rattle.retain.specs.Calls.{retained_store}
use Rattle.edit.proofs.CallLaws.{not_a_store, store_does}
use borrow.Author.Rules.{rules}
use Rattle.retain.proofs.calls.remove_expired.Goals as goal

-- src/calls.rt:53:9
pub returns-then-not-is_store : goal.returns-then-not-is_store
returns-then-not-is_store c = search (rules, not_a_store retained_store)

-- src/calls.rt:49:1
pub returns : goal.returns
returns c = search (rules, store_does retained_store)
