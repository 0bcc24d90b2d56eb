-- `pages::records::write_record` meets its contract. Assumes nothing.
use Rattle.pages.proofs.RecordLaws.{record_short, record_written}
use borrow.Author.Rules.{rules}
use Rattle.pages.proofs.records.write_record.Goals as goal

pub returns-then-out-at : goal.returns-then-out-at
returns-then-out-at c = search (rules, record_short)

pub returns : goal.returns
returns c = search (rules, record_written)
