-- `pages::writing::write_all` meets its contract. Assumes nothing.
use Rattle.pages.proofs.RowLaws.{trail_start, all_written}
use borrow.Author.Rules.{rules}
use Rattle.pages.proofs.writing.write_all.Goals as goal

pub row-requires : goal.row-requires
row-requires c = (search rules, search rules, search rules, search rules, search (rules, trail_start), search rules, search rules)

pub returns : goal.returns
returns c = search (rules, all_written)
