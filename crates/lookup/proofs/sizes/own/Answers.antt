-- `lookup::sizes::own` meets its contract. Assumes nothing.
use Rattle.lookup.proofs.SizeLaws.{own-none, own-more, own_live}
use borrow.Author.Rules.{rules}
use Rattle.lookup.proofs.sizes.own.Goals as goal

pub returns-then-end-at : goal.returns-then-end-at
returns-then-end-at c = search (rules, own-none)

pub returns-then-ends_at : goal.returns-then-ends_at
returns-then-ends_at c = search (rules, own_live)

pub returns : goal.returns
returns c = search (rules, own-more)
