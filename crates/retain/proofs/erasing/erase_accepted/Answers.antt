-- `retain::erasing::erase_accepted` meets its contract. Assumes nothing.
use Rattle.edit.proofs.KnownPath.{units-told}
use Rattle.retain.proofs.KnownLaws.{deep_absent, no_units_erases, accepted_size}
use borrow.Author.Rules.{rules}
use Rattle.retain.proofs.erasing.erase_accepted.Goals as goal

-- src/erasing.rt:62:9
pub returns-then-level_count-gt128 : goal.returns-then-level_count-gt128
returns-then-level_count-gt128 c = search (rules, deep_absent)

-- src/erasing.rt:66:9
pub returns-in_default : goal.returns-in_default
returns-in_default c = search (rules, no_units_erases)

-- src/erasing.rt:68:5
pub erase_in-requires : goal.erase_in-requires
erase_in-requires c = search (rules, units-told, accepted_size)
