-- `listing::records::write_end` meets its contract. Assumes nothing.
use borrow.Author.Rules.{rules}
use Rattle.listing.proofs.RecordLaws.{end_written}
use Rattle.listing.proofs.records.write_end.Goals as goal

pub returns : goal.returns
returns c = search (rules, end_written)
