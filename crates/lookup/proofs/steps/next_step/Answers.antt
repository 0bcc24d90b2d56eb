-- `lookup::steps::next_step` meets its contract. Assumes nothing.
use Rattle.lookup.proofs.StepLaws.{step-hash, step_level}
use borrow.Author.Rules.{rules}
use Rattle.lookup.proofs.steps.next_step.Goals as goal

pub returns-then-is_only : goal.returns-then-is_only
returns-then-is_only c = search (rules, step-hash)

pub returns : goal.returns
returns c = search (rules, step_level)
