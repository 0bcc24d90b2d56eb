-- `content::units::values_are_sound` meets its contract. Assumes nothing.
use mathlib.Core.Path.{◌≡◌}
use Prim.Native.Nat.{◌+◌, ◌*◌}
use lib.ListN.{drop}
use Rattle.content.specs.Contents.{values_fine}
use Rattle.content.proofs.units.values_are_sound.Given as goal

abbrev pub invariant-loop-left : goal.invariant-loop-left
invariant-loop-left l = (values_fine l.left (drop l.p l.s) ≡ values_fine l.own (drop l.at l.s)) × (l.p + l.left * 16 ≡ l.at + l.own * 16)
