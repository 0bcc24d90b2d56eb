-- `listing::writing::write_all` meets its contract. Assumes nothing.
use borrow.Author.Rules.{rules}
use Rattle.listing.proofs.ListingLaws.{trail_start, listed}
use Rattle.listing.proofs.writing.write_all.Goals as goal

pub write_walk-requires : goal.write_walk-requires
write_walk-requires c = (search rules, search (rules, trail_start), search rules, search rules)

pub returns : goal.returns
returns c = search (rules, listed)
