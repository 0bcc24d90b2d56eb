-- `pages::texts::write_level` meets its contract. Assumes nothing.
use Rattle.pages.proofs.TextLaws.{slash_in, level_copied}
use borrow.Author.Rules.{rules}
use Rattle.pages.proofs.texts.write_level.Goals as goal

pub bounds-out-end : goal.bounds-out-end
bounds-out-end c = search (rules, slash_in)

pub returns : goal.returns
returns c = search (rules, level_copied)
