-- `room::take::take_unit` meets its contract. Assumes nothing.
use Rattle.room.proofs.MakeLaws.{unit-taken}
use borrow.Author.Rules.{rules}
use Rattle.room.proofs.take.take_unit.Goals as goal

-- src/take.rt:38:1
pub returns : goal.returns
returns c = search (rules, unit-taken)
