-- `listing::records::write_level` meets its contract. Assumes nothing.
use borrow.Author.Rules.{rules}
use Rattle.listing.proofs.TextLaws.{slash_in, level_copied, plus_in, plus_written}
use Rattle.listing.proofs.records.write_level.Goals as goal

pub bounds-out-end : goal.bounds-out-end
bounds-out-end c = search (rules, slash_in)

pub returns-then-mark-eq0 : goal.returns-then-mark-eq0
returns-then-mark-eq0 c = search (rules, level_copied)

pub bounds-out-end-2 : goal.bounds-out-end-2
bounds-out-end-2 c = search (rules, plus_in)

pub returns : goal.returns
returns c = search (rules, plus_written)
