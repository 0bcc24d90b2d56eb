-- `audit::whole::header_is_sound` meets its contract. Assumes nothing.
use borrow.Author.Rules.{rules}
use Rattle.audit.proofs.WholeLaws.{header_range, header_short, header_mark, header_last}
use Rattle.audit.proofs.whole.header_is_sound.Goals as goal

pub returns-in_default : goal.returns-in_default
returns-in_default c = search (rules, header_range)

pub returns-then-s-needed : goal.returns-then-s-needed
returns-then-s-needed c = search (rules, header_short)

pub returns-then-get32-mark_of : goal.returns-then-get32-mark_of
returns-then-get32-mark_of c = search (rules, header_mark)

pub returns : goal.returns
returns c = search (rules, header_last)
