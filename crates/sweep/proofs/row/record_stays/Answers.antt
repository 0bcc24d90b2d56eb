-- `sweep::row::record_stays` meets its contract. Assumes nothing.
use Rattle.sweep.proofs.RowLaws.{stays-not, stays_yet}
use borrow.Author.Rules.{rules}
use Rattle.sweep.proofs.row.record_stays.Goals as goal

pub returns-in_default : goal.returns-in_default
returns-in_default c = search (rules, stays-not)

pub returns : goal.returns
returns c = search (rules, stays_yet)
