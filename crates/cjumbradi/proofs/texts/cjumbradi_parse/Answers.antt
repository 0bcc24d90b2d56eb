-- `cjumbradi::texts::cjumbradi_parse` meets its contract. Assumes nothing.
use borrow.Author.Rules.{rules}
use Rattle.cjumbradi.specs.Calls.{of_parsed}
use Rattle.cjumbradi.proofs.Tellings.{said}
use Rattle.cjumbradi.proofs.texts.cjumbradi_parse.Goals as goal

pub returns : goal.returns
returns c = search (rules, said of_parsed)
