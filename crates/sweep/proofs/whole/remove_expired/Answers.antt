-- `sweep::whole::remove_expired` meets its contract. Assumes nothing.
use Rattle.sweep.proofs.WholeLaws.{removed-all}
use borrow.Author.Rules.{rules}
use Rattle.sweep.proofs.whole.remove_expired.Goals as goal

pub returns : goal.returns
returns c = search (rules, removed-all)
