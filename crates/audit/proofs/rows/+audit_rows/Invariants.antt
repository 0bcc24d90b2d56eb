-- `audit::rows::audit_rows`, which calls itself for what is below a node: the levels left fall. Assumes nothing.
use Rattle.std.proofs.Common.{◌≡◌, ◌-◌}
use Rattle.audit.specs.Tally.{tally}
use Rattle.audit.proofs.rows.+audit_rows.Given as goal

abbrev pub decreases-audit_rows : goal.decreases-audit_rows
decreases-audit_rows l = 129 - l.d

abbrev pub invariant-loop-i : goal.invariant-loop-i
invariant-loop-i l = tally l.kind l.base l.s l.d l.room l.i l.n l.left ≡ tally l.kind l.base l.s l.d l.room l.lo l.n l.initial.left

abbrev pub decreases-loop-i : goal.decreases-loop-i
decreases-loop-i l = l.n - l.i
