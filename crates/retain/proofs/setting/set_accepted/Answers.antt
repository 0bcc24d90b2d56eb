-- `retain::setting::set_accepted` meets its contract. Assumes nothing.
use Rattle.edit.proofs.KnownPath.{units-told}
use Rattle.retain.proofs.KnownLaws.{too_deep, no_units}
use borrow.Author.Rules.{rules}
use Rattle.retain.proofs.setting.set_accepted.Goals as goal

-- src/setting.rt:78:9
pub returns-then-level_count-gt128 : goal.returns-then-level_count-gt128
returns-then-level_count-gt128 c = search (rules, too_deep)

-- src/setting.rt:82:9
pub returns-in_default : goal.returns-in_default
returns-in_default c = search (rules, no_units)

-- src/setting.rt:84:5
pub set_in-requires : goal.set_in-requires
set_in-requires c = search (rules, units-told)
