-- `utf8::next_due` meets its contract: the rules of the two tables. Assumes nothing.
use native.Mathlib.Omega.{arith}
use Rattle.utf8.proofs.Turns.{entry-within, entry_right, entry_small}
use Rattle.utf8.proofs.next_due.Goals as goal

pub overflow_add-result : goal.overflow_add-result
overflow_add-result c =
    let a = c.args in
    record {
      fits = rw (c.from-2.ensures, c.from-class.ensures, c.from.ensures)
          (omega (arith, entry-within c.requires.0 c.requires.1 a.due a.octet c.requires.2 c.ranges.octet.fits));
    }

pub returns : goal.returns
returns c =
    let p = c.requires in
    let a = c.args in
    rw (c.from-2.ensures, c.from-class.ensures, c.from.ensures)
    (entry_right p.0 p.1 a.due a.octet p.2 c.ranges.octet.fits, entry_small p.0 p.1 a.due a.octet p.2 c.ranges.octet.fits)
