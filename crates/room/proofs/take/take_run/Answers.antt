-- `room::take::take_run` meets its contract. Assumes nothing.
use Rattle.room.proofs.MakeLaws.{run-taken}
use borrow.Author.Rules.{rules}
use Rattle.room.proofs.take.take_run.Goals as goal

-- src/take.rt:12:1
pub returns : goal.returns
returns c = search (rules, run-taken)
