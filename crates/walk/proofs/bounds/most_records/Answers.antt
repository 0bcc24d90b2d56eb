-- `walk::bounds::most_records` meets its contract. Assumes nothing.
use borrow.Author.Rules.{rules}
use Rattle.walk.proofs.BoundLaws.{doubled-none, doubled_step, doubled_early, doubled_units, doubled_levels}
use Rattle.walk.proofs.bounds.most_records.Goals as goal

pub loop-init : goal.loop-init
loop-init c = search (rules, doubled-none)

pub returns-then-n-most : goal.returns-then-n-most
returns-then-n-most c = search (rules, doubled_early)

pub loop-preserved : goal.loop-preserved
loop-preserved c = search (rules, doubled_step)

pub returns : goal.returns
returns c = search (rules, doubled_units)
