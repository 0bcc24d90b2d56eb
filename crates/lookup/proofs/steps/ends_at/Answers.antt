-- `lookup::steps::ends_at` meets its contract. Assumes nothing.
use Rattle.lookup.proofs.StepLaws.{ends-none, ends_some}
use borrow.Author.Rules.{rules}
use Rattle.lookup.proofs.steps.ends_at.Goals as goal

pub returns-then-filter-from : goal.returns-then-filter-from
returns-then-filter-from c = search (rules, ends-none)

pub returns : goal.returns
returns c = search (rules, ends_some)
