-- `listing::records::write_head` meets its contract. Assumes nothing.
use borrow.Author.Rules.{rules}
use Rattle.listing.proofs.RecordLaws.{head_written}
use Rattle.listing.proofs.records.write_head.Goals as goal

pub returns : goal.returns
returns c = search (rules, head_written)
