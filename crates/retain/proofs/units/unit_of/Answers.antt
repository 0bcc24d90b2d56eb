-- `retain::units::unit_of` meets its contract. Assumes nothing.
use Rattle.retain.proofs.UnitLaws.{unit_never, unit-at}
use borrow.Author.Rules.{rules}
use Rattle.retain.proofs.units.unit_of.Goals as goal

-- src/units.rt:10:1
pub returns-in-Some : goal.returns-in-Some
returns-in-Some c = search (rules, unit-at)

-- src/units.rt:10:1
pub returns-in_default : goal.returns-in_default
returns-in_default c = search (rules, unit_never)
