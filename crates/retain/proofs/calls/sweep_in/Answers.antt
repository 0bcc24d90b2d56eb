-- `retain::calls::sweep_in` meets its contract. Assumes nothing.
use Rattle.retain.proofs.KnownLaws.{lent_units, swept}
use borrow.Author.Rules.{rules}
use Rattle.retain.proofs.calls.sweep_in.Goals as goal

pub remove_expired-gone-requires : goal.remove_expired-gone-requires
remove_expired-gone-requires c = search (rules, lent_units)

-- src/calls.rt:50:1
pub returns : goal.returns
returns c = search (rules, swept)
