-- `cjumbradi::texts::cjumbradi_is_exclusive_subscription` meets its contract. Assumes nothing.
use borrow.Author.Rules.{rules}
use Rattle.cjumbradi.specs.Calls.{of_bool}
use Rattle.cjumbradi.proofs.Tellings.{said}
use Rattle.cjumbradi.proofs.texts.cjumbradi_is_exclusive_subscription.Goals as goal

pub returns : goal.returns
returns c = search (rules, said of_bool)
