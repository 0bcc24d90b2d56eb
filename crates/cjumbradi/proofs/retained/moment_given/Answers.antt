-- `cjumbradi::retained::moment_given` meets its contract. Assumes nothing.
use Rattle.cjumbradi.proofs.Moments.{given_never, given_at}
use borrow.Author.Rules.{rules}
use Rattle.cjumbradi.proofs.retained.moment_given.Goals as goal

pub returns-then-expires-eq0 : goal.returns-then-expires-eq0
returns-then-expires-eq0 c = search (rules, given_never)

-- src/retained.rt:17:1
pub returns-else-expires-eq0 : goal.returns-else-expires-eq0
returns-else-expires-eq0 c = search (rules, given_at)
