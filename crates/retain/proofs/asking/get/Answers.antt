-- `retain::asking::get` meets its contract. Assumes nothing.
use Rattle.retain.proofs.LookLaws.{look_other, look_store}
use borrow.Author.Rules.{rules}
use Rattle.retain.proofs.asking.get.Goals as goal

-- src/asking.rt:60:9
pub returns-then-not-is_store : goal.returns-then-not-is_store
returns-then-not-is_store c = search (rules, look_other)

-- src/asking.rt:56:1
pub returns : goal.returns
returns c = search (rules, look_store)
