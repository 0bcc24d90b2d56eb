-- `known::retained::cjumbradi_known_set` meets its contract. Assumes nothing.
use Rattle.known.proofs.Moments.{known-set-told}
use borrow.Author.Rules.{rules}
use Rattle.known.proofs.retained.cjumbradi_known_set.Goals as goal

-- src/retained.rt:14:1
pub returns : goal.returns
returns c = search (rules, known-set-told)
