-- `cjumbradi::texts::cjumbradi_level_kind` meets its contract. Assumes nothing.
use borrow.Author.Rules.{rules}
use Rattle.cjumbradi.specs.Calls.{of_kind}
use Rattle.cjumbradi.proofs.Tellings.{said}
use Rattle.cjumbradi.proofs.texts.cjumbradi_level_kind.Goals as goal

pub returns : goal.returns
returns c = search (rules, said of_kind)
