-- `room::make::put_between` meets its contract. Assumes nothing.
use Rattle.room.proofs.MakeLaws.{unit-between}
use borrow.Author.Rules.{rules}
use Rattle.room.proofs.make.put_between.Goals as goal

-- src/make.rt:68:1
pub returns : goal.returns
returns c = search (rules, unit-between)
