-- `region::empty_header` meets its contract. Assumes nothing.
use borrow.Author.Rules.{rules}
use Rattle.region.proofs.Sizes.{header_is}
use Rattle.region.proofs.empty_header.Goals as goal

pub returns : goal.returns
returns c = search (rules, header_is)
