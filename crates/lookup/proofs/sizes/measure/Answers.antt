-- `lookup::sizes::measure` meets its contract. Assumes nothing.
use Rattle.lookup.proofs.SizeLaws.{measured}
use borrow.Author.Rules.{rules}
use Rattle.lookup.proofs.sizes.measure.Goals as goal

pub returns : goal.returns
returns c = search (rules, measured)
