-- `pages::texts::write_text` meets its contract. Assumes nothing.
use Rattle.pages.proofs.TextLaws.{SoFar}
use Prim.Native.Nat.{◌-◌}
use Rattle.pages.proofs.texts.write_text.Given as goal

abbrev pub invariant-loop-j : goal.invariant-loop-j
invariant-loop-j l = SoFar l.base l.s l.n l.path l.depth l.at l.initial.out l.out l.j l.next
