-- `pages::records::write_own` meets its contract. Assumes nothing.
use Rattle.pages.proofs.RecordLaws.{own-none, own-more, own_live}
use borrow.Author.Rules.{rules}
use Rattle.pages.proofs.records.write_own.Goals as goal

pub returns-then-end-unit : goal.returns-then-end-unit
returns-then-end-unit c = search (rules, own-none)

pub returns-then-ends_at : goal.returns-then-ends_at
returns-then-ends_at c = search (rules, own_live)

pub returns : goal.returns
returns c = search (rules, own-more)
