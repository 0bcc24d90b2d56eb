-- `retain::erasing::erase_in` meets its contract. Assumes nothing.
use Rattle.retain.proofs.KnownLaws.{missing_absent}
use borrow.Author.Rules.{rules}
use Rattle.retain.proofs.erasing.erase_in.Goals as goal

-- src/erasing.rt:45:1
pub returns : goal.returns
returns c = search (rules, missing_absent)
