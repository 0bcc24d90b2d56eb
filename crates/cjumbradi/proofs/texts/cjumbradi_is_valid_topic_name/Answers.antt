-- `cjumbradi::texts::cjumbradi_is_valid_topic_name` meets its contract. Assumes nothing.
use borrow.Author.Rules.{rules}
use Rattle.cjumbradi.specs.Calls.{of_checked}
use Rattle.cjumbradi.proofs.Tellings.{said}
use Rattle.cjumbradi.proofs.texts.cjumbradi_is_valid_topic_name.Goals as goal

pub returns : goal.returns
returns c = search (rules, said of_checked)
