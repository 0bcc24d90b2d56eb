-- `listing::records::write_hash` meets its contract. Assumes nothing.
use borrow.Author.Rules.{rules}
use Rattle.listing.proofs.RecordLaws.{hash_record, hash_written, hash_absent}
use Rattle.listing.proofs.records.write_hash.Goals as goal

pub write_record-requires : goal.write_record-requires
write_record-requires c = search (rules, hash_record)

pub returns-in-Some : goal.returns-in-Some
returns-in-Some c = search (rules, hash_written)

pub returns-in-None : goal.returns-in-None
returns-in-None c = search (rules, hash_absent)
