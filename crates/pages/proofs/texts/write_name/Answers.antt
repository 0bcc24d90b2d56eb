-- `pages::texts::write_name` meets its contract. Assumes nothing.
use Rattle.pages.proofs.TextLaws.{name_written}
use borrow.Author.Rules.{rules}
use Rattle.pages.proofs.texts.write_name.Goals as goal

pub returns : goal.returns
returns c = search (rules, name_written)
