-- `listing::records::write_units` meets its contract. Assumes nothing.
use borrow.Author.Rules.{rules}
use Rattle.listing.proofs.ValueLaws.{values-none, values_step, values_done}
use Rattle.listing.proofs.records.write_units.Goals as goal

pub loop-j-init : goal.loop-j-init
loop-j-init c = search (rules, values-none)

pub loop-j-preserved : goal.loop-j-preserved
loop-j-preserved c = search (rules, values_step)

pub returns : goal.returns
returns c = search (rules, values_done)
