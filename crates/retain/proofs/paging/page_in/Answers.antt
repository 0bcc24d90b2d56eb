-- `retain::paging::page_in` meets its contract. Assumes nothing.
use Rattle.retain.proofs.KnownLaws.{lent_units}
use Rattle.retain.proofs.LookLaws.{page_short, page_given}
use borrow.Author.Rules.{rules}
use Rattle.retain.proofs.paging.page_in.Goals as goal

-- src/paging.rt:38:9
pub measure-found-requires : goal.measure-found-requires
measure-found-requires c = search (rules, lent_units)

-- src/paging.rt:43:9
pub returns-then-out-bytes : goal.returns-then-out-bytes
returns-then-out-bytes c = search (rules, page_short)

-- src/paging.rt:45:5
pub write_all-requires : goal.write_all-requires
write_all-requires c = search (rules, lent_units)

-- src/paging.rt:25:1
pub returns : goal.returns
returns c = search (rules, page_given)
