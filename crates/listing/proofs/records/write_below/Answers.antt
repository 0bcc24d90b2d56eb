-- `listing::records::write_below` meets its contract. Assumes nothing.
use borrow.Author.Rules.{rules}
use Rattle.listing.proofs.RecordLaws.{below_written}
use Rattle.listing.proofs.records.write_below.Goals as goal

pub returns : goal.returns
returns c = search (rules, below_written)
