-- `seek::children::step_back` meets its contract. Assumes nothing.
use borrow.Author.Rules.{rules}
use Prim.Native.Nat.{◌+◌}
use native.Mathlib.Omega.{arith}
use Rattle.seek.proofs.StepLaws.{passed_none, passed_next, probe_here, probe_end, probe-first}
use Rattle.seek.proofs.children.step_back.Goals as goal

pub loop-m-init : goal.loop-m-init
loop-m-init c = search (rules, passed_none)

pub overflow_cast-s : goal.overflow_cast-s
overflow_cast-s c = omega (arith, c.shared_slice_known-1.given (64 + c.loop-m.m))

pub returns-then-s-m : goal.returns-then-s-m
returns-then-s-m c = search (rules, probe_here)

pub returns-then-left-eq0 : goal.returns-then-left-eq0
returns-then-left-eq0 c = search (rules, probe-first)

pub loop-m-preserved : goal.loop-m-preserved
loop-m-preserved c = search (rules, passed_next)

pub returns : goal.returns
returns c = search (rules, probe_end)
