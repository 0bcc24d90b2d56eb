-- `room::make::make_run` meets its contract. Assumes nothing.
use Rattle.room.proofs.MakeLaws.{run_made}
use borrow.Author.Rules.{rules}
use Rattle.room.proofs.make.make_run.Goals as goal

-- src/make.rt:16:1
pub returns : goal.returns
returns c = search (rules, run_made)
