-- `lookup::spans::span_of` meets its contract. Assumes nothing.
use Rattle.lookup.proofs.SpanLaws.{span-all, span_one, span_none}
use borrow.Author.Rules.{rules}
use Rattle.lookup.proofs.spans.span_of.Goals as goal

pub returns-then-step : goal.returns-then-step
returns-then-step c = search (rules, span-all)

pub returns-in-Ok : goal.returns-in-Ok
returns-in-Ok c = search (rules, span_one)

pub returns-in-Err : goal.returns-in-Err
returns-in-Err c = search (rules, span_none)
