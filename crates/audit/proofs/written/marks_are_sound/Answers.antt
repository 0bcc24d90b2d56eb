-- `audit::written::marks_are_sound` meets its contract. Assumes nothing.
use borrow.Author.Rules.{rules}
use Rattle.audit.proofs.RowLaws.{mark_wrong, mark_right}
use Rattle.audit.proofs.written.marks_are_sound.Goals as goal

pub returns-then-from-d : goal.returns-then-from-d
returns-then-from-d c = search (rules, mark_wrong)

pub returns : goal.returns
returns c = search (rules, mark_right)
