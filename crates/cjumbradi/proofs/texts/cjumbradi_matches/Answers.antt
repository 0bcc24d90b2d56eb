-- `cjumbradi::texts::cjumbradi_matches` meets its contract. Assumes nothing.
use borrow.Author.Rules.{rules}
use Rattle.cjumbradi.specs.Calls.{of_matched}
use Rattle.cjumbradi.proofs.Tellings.{said}
use Rattle.cjumbradi.proofs.texts.cjumbradi_matches.Goals as goal

pub returns : goal.returns
returns c = search (rules, said of_matched)
