-- `retain::calls::remove_expired_known` meets its contract. Assumes nothing.
use Rattle.edit.proofs.KnownPath.{units-told}
use Rattle.retain.proofs.KnownLaws.{no_units}
use borrow.Author.Rules.{rules}
use Rattle.retain.proofs.calls.remove_expired_known.Goals as goal

-- src/calls.rt:74:9
pub returns-in_default : goal.returns-in_default
returns-in_default c = search (rules, no_units)

-- src/calls.rt:76:5
pub sweep_in-requires : goal.sweep_in-requires
sweep_in-requires c = search (rules, units-told)
