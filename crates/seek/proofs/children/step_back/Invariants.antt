-- `seek::children::step_back` meets its contract. Assumes nothing.
use Prim.Native.Nat.{◌≤◌, ◌-◌}
use Rattle.seek.proofs.StepLaws.{Passed}
use Rattle.seek.proofs.children.step_back.Given as goal

abbrev pub invariant-loop-m : goal.invariant-loop-m
invariant-loop-m l = (l.a ≤ l.m) × (l.m ≤ l.mid) × Passed l.s l.d l.mid l.m

abbrev pub decreases-loop-m : goal.decreases-loop-m
decreases-loop-m l = l.m - l.a
