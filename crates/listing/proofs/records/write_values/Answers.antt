-- `listing::records::write_values` meets its contract. Assumes nothing.
use borrow.Author.Rules.{rules}
use Rattle.listing.proofs.RecordLaws.{values_written}
use Rattle.listing.proofs.records.write_values.Goals as goal

pub returns : goal.returns
returns c = search (rules, values_written)
