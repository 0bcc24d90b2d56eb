-- `audit::written::text_is_sound` meets its contract. Assumes nothing.
use borrow.Author.Rules.{rules}
use Rattle.audit.proofs.RowLaws.{text-plain, text_fill, text_last}
use Rattle.audit.proofs.written.text_is_sound.Goals as goal

pub returns-then-is_short_plain : goal.returns-then-is_short_plain
returns-then-is_short_plain c = search (rules, text-plain)

pub returns-then-not-all_are : goal.returns-then-not-all_are
returns-then-not-all_are c = search (rules, text_fill)

pub returns : goal.returns
returns c = search (rules, text_last)
