-- `sweep::whole::put_counts` meets its contract. Assumes nothing.
use Rattle.sweep.proofs.CountLaws.{counts-put}
use borrow.Author.Rules.{rules}
use Rattle.sweep.proofs.whole.put_counts.Goals as goal

pub returns : goal.returns
returns c = search (rules, counts-put)
