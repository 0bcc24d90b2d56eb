-- `walk::sizes::measure` meets its contract. Assumes nothing.
use borrow.Author.Rules.{rules}
use Rattle.walk.proofs.SizeLaws.{listed_sizes}
use Rattle.walk.proofs.sizes.measure.Goals as goal

pub returns : goal.returns
returns c = search (rules, listed_sizes)
