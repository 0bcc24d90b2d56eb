-- `audit::rows::audit_rows`, which calls itself for what is below a node, meets its contract. Assumes nothing.
use borrow.Author.Rules.{rules}
use mathlib.Core.Path.{ap, ◌∙◌}
use mathlib.Core.Bool.{not}
use Rattle.audit.proofs.Passes.{pass_end, pass_cut, pass_deep, pass_wide, pass_row, passed}
use Rattle.audit.proofs.rows.+audit_rows.Goals as goal

pub returns-then-n-past : goal.returns-then-n-past
returns-then-n-past t c = search (rules, pass_cut)

pub returns-then-d-gt-DEEPEST : goal.returns-then-d-gt-DEEPEST
returns-then-d-gt-DEEPEST t c = search (rules, pass_deep)

pub returns-then-room-head : goal.returns-then-room-head
returns-then-room-head t c = search (rules, pass_wide)

pub returns-then-not-row_is_sound : goal.returns-then-not-row_is_sound
returns-then-not-row_is_sound t c = search (rules, pass_row)

pub returns-in_err-rest : goal.returns-in_err-rest
returns-in_err-rest t c =
    let a = c.args in
    c.from_residual.ensures ∙ (passed a.kind a.base a.s.now a.d a.room c.loop-i.i a.n c.loop-i.left c.loop-i.invariant c.loop-i-test.true c.requires.0
    c.head_at-head.ensures c.if-n-past.false c.if-d-gt-DEEPEST.false c.if-room-head.false c.row_is_sound.ensures (ap not c.if-not-row_is_sound.false) c.level_of-level.ensures c.take_node.ensures).taken c.in_err-rest.was

pub loop-i-preserved-then-head-eq0 : goal.loop-i-preserved-then-head-eq0
loop-i-preserved-then-head-eq0 t c =
    let a = c.args in
    (passed a.kind a.base a.s.now a.d a.room c.loop-i.i a.n c.loop-i.left c.loop-i.invariant c.loop-i-test.true c.requires.0
    c.head_at-head.ensures c.if-n-past.false c.if-d-gt-DEEPEST.false c.if-room-head.false c.row_is_sound.ensures (ap not c.if-not-row_is_sound.false) c.level_of-level.ensures c.take_node.ensures).leaf c.in_ok-rest.was c.if-head-eq0.true

pub returns-in_err-left : goal.returns-in_err-left
returns-in_err-left t c =
    let a = c.args in
    c.from_residual-in_err-left.ensures ∙ (passed a.kind a.base a.s.now a.d a.room c.loop-i.i a.n c.loop-i.left c.loop-i.invariant c.loop-i-test.true c.requires.0
    c.head_at-head.ensures c.if-n-past.false c.if-d-gt-DEEPEST.false c.if-room-head.false c.row_is_sound.ensures (ap not c.if-not-row_is_sound.false) c.level_of-level.ensures c.take_node.ensures).below c.in_ok-rest.was c.audit_rows.ensures c.in_err-left.was

pub loop-i-preserved : goal.loop-i-preserved
loop-i-preserved t c =
    let a = c.args in
    (passed a.kind a.base a.s.now a.d a.room c.loop-i.i a.n c.loop-i.left c.loop-i.invariant c.loop-i-test.true c.requires.0
    c.head_at-head.ensures c.if-n-past.false c.if-d-gt-DEEPEST.false c.if-room-head.false c.row_is_sound.ensures (ap not c.if-not-row_is_sound.false) c.level_of-level.ensures c.take_node.ensures).on c.in_ok-rest.was c.audit_rows.ensures c.in_ok-left.was

pub returns : goal.returns
returns t c = search (rules, pass_end)
