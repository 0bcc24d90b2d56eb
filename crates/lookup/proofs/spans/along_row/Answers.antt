-- `lookup::spans::along_row` meets its contract. Assumes nothing.
use Rattle.lookup.proofs.SpanLaws.{along-none, along_some}
use borrow.Author.Rules.{rules}
use Rattle.lookup.proofs.spans.along_row.Goals as goal

pub returns-then-filter-from : goal.returns-then-filter-from
returns-then-filter-from c = search (rules, along-none)

pub returns : goal.returns
returns c = search (rules, along_some)
