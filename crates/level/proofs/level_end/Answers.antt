-- `level::level_end` meets its contract: the level's end is the same seen from each byte passed. Assumes nothing.
use Rattle.std.proofs.Common.{◌≡◌, sym, ◌∙◌, arith}
use Rattle.level.proofs.Split.{end_here, end_next, end_past}
use Rattle.level.proofs.level_end.Goals as goal

pub returns-then-text-i-eq47 : goal.returns-then-text-i-eq47
returns-then-text-i-eq47 c = sym (end_here _ _ c.loop-i-test.true c.if-text-i-eq47.true) ∙ c.loop-i.invariant.0

pub loop-i-preserved : goal.loop-i-preserved
loop-i-preserved c = (end_next _ _ c.loop-i-test.true c.if-text-i-eq47.false ∙ c.loop-i.invariant.0, omega arith)

pub returns : goal.returns
returns c =
    let i = c.loop-i.i in
    let e : c.max.result ≡ i = omega arith in
    e ∙ sym (end_past c.args.text.now i c.loop-i-test.false) ∙ c.loop-i.invariant.0
