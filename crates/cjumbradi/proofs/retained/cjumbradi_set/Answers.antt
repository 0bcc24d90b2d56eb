-- `cjumbradi::retained::cjumbradi_set` meets its contract. Assumes nothing.
use Rattle.cjumbradi.proofs.Moments.{set_told}
use borrow.Author.Rules.{rules}
use Rattle.cjumbradi.proofs.retained.cjumbradi_set.Goals as goal

-- src/retained.rt:26:1
pub returns : goal.returns
returns c = search (rules, set_told)
