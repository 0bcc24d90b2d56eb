-- `region::header::capacities_of` meets its contract. Assumes nothing.
use Rattle.region.proofs.ShapeLaws.{capacities_are}
use borrow.Author.Rules.{rules}
use Rattle.region.proofs.header.capacities_of.Goals as goal

-- src/header.rt:10:1
pub returns : goal.returns
returns c = search (rules, capacities_are)
