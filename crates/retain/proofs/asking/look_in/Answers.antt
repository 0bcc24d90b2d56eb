-- `retain::asking::look_in` meets its contract. Assumes nothing.
use Rattle.retain.proofs.KnownLaws.{lent_units}
use Rattle.retain.proofs.LookLaws.{look_short, look_given}
use borrow.Author.Rules.{rules}
use Rattle.retain.proofs.asking.look_in.Goals as goal

pub measure-found-requires : goal.measure-found-requires
measure-found-requires c = search (rules, lent_units)

-- src/asking.rt:37:9
pub returns-then-out-bytes : goal.returns-then-out-bytes
returns-then-out-bytes c = search (rules, look_short)

-- src/asking.rt:39:5
pub write_all-requires : goal.write_all-requires
write_all-requires c = search (rules, lent_units)

-- src/asking.rt:21:1
pub returns : goal.returns
returns c = search (rules, look_given)
