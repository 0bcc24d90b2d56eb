-- `audit::whole::is_sound` meets its contract. Assumes nothing.
use borrow.Author.Rules.{rules}
use Rattle.audit.proofs.WholeLaws.{whole_short, whole_header, whole-fits, whole_last}
use mathlib.Core.Path.{ap}
use mathlib.Core.Bool.{not}
use Rattle.audit.proofs.whole.is_sound.Goals as goal

pub returns-then-s-lt-HEADER : goal.returns-then-s-lt-HEADER
returns-then-s-lt-HEADER c = search (rules, whole_short)

pub returns-then-not-header_is_sound : goal.returns-then-not-header_is_sound
returns-then-not-header_is_sound c = search (rules, whole_header)

pub audit_rows-found-requires : goal.audit_rows-found-requires
audit_rows-found-requires c =
    whole-fits c.args.kind c.args.s.now c.if-s-lt-HEADER.false c.header_is_sound.ensures (ap not c.if-not-header_is_sound.false) c.unit_room_at.ensures.0 c.get16-units.ensures.0

pub returns : goal.returns
returns c = search (rules, whole_last)
