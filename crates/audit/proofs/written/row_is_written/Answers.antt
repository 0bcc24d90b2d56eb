-- `audit::written::row_is_written` meets its contract. Assumes nothing.
use borrow.Author.Rules.{rules}
use Rattle.audit.proofs.RowLaws.{written_spare, written_marks, written_last}
use Rattle.audit.proofs.written.row_is_written.Goals as goal

pub returns-then-head-ne0 : goal.returns-then-head-ne0
returns-then-head-ne0 c = search (rules, written_spare)

pub returns-then-not-marks_are_sound : goal.returns-then-not-marks_are_sound
returns-then-not-marks_are_sound c = search (rules, written_marks)

pub returns : goal.returns
returns c = search (rules, written_last)
