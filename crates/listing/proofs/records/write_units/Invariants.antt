-- `listing::records::write_units` meets its contract. Assumes nothing.
use Prim.Native.Nat.{◌-◌}
use Rattle.listing.proofs.ValueLaws.{ValuesSoFar}
use Rattle.listing.proofs.records.write_units.Given as goal

abbrev pub invariant-loop-j : goal.invariant-loop-j
invariant-loop-j l = ValuesSoFar l.base l.s l.values l.n l.at l.initial.out l.out l.j
