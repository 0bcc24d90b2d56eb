-- `retain::counting::count` meets its contract. Assumes nothing.
use Rattle.edit.proofs.CountLaws.{no_count}
use Rattle.retain.proofs.NamesCounted.{names-counted}
use borrow.Author.Rules.{rules}
use Rattle.retain.proofs.counting.count.Goals as goal

-- src/counting.rt:15:9
pub returns-then-not-is_store : goal.returns-then-not-is_store
returns-then-not-is_store c = search (rules, no_count)

-- src/counting.rt:11:1
pub returns : goal.returns
returns c = search (rules, names-counted)
