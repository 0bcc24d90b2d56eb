-- `room::make::make_unit` meets its contract. Assumes nothing.
use Rattle.room.proofs.MakeLaws.{unit_made}
use borrow.Author.Rules.{rules}
use Rattle.room.proofs.make.make_unit.Goals as goal

-- src/make.rt:79:1
pub returns : goal.returns
returns c = search (rules, unit_made)
