-- `utf8::is_followed` meets its contract. Assumes nothing.
use mathlib.Core.Path.{◌≡◌}
use Prim.Native.Nat.{◌<◌}
use lib.ListN.{drop}
use Rattle.utf8.specs.Utf8.{octets, is_utf8}
use Rattle.utf8.specs.Classes.{due as dueOf}
use Rattle.utf8.proofs.is_followed.Given as goal

abbrev pub invariant-loop-octet : goal.invariant-loop-octet
invariant-loop-octet l = (octets (drop l.octet-index l.text) (dueOf l.due) ≡ is_utf8 l.text) × (l.due < 8)
