-- `listing::records::write_record` meets its contract. Assumes nothing.
use borrow.Author.Rules.{rules}
use Rattle.listing.proofs.RecordLaws.{record_empty, record_short, record_written}
use Rattle.listing.proofs.records.write_record.Goals as goal

pub returns-then-n-eq0 : goal.returns-then-n-eq0
returns-then-n-eq0 c = search (rules, record_empty)

pub returns-then-out-at : goal.returns-then-out-at
returns-then-out-at c = search (rules, record_short)

pub returns : goal.returns
returns c = search (rules, record_written)
