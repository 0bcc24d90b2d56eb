-- `audit::rows::row_is_sound` meets its contract. Assumes nothing.
use borrow.Author.Rules.{rules}
use Rattle.audit.proofs.RowLaws.{row_written, row_text, row_last}
use Rattle.audit.proofs.rows.row_is_sound.Goals as goal

pub returns-then-not-row_is_written : goal.returns-then-not-row_is_written
returns-then-not-row_is_written c = search (rules, row_written)

pub returns-then-not-text_is_sound : goal.returns-then-not-text_is_sound
returns-then-not-text_is_sound c = search (rules, row_text)

pub returns : goal.returns
returns c = search (rules, row_last)
