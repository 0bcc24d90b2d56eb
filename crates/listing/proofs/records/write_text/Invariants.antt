-- `listing::records::write_text` meets its contract. Assumes nothing.
use Prim.Native.Nat.{◌-◌}
use Rattle.listing.proofs.TextLaws.{SoFar}
use Rattle.listing.proofs.records.write_text.Given as goal

abbrev pub invariant-loop-j : goal.invariant-loop-j
invariant-loop-j l = SoFar l.name l.marks l.depth l.at l.initial.out l.out l.j l.from l.next
