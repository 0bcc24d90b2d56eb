-- `level::level_start` meets its contract: `at` is where level j begins. Assumes nothing.
use mathlib.Core.Path.{◌≡◌, refl, ap, ◌∙◌}
use native.Mathlib.Omega.{arith}
use Rattle.level.specs.Levels.{start_of}
use Rattle.level.proofs.Split.{start_step, start_stop, end-within}
use Rattle.level.proofs.level_start.Goals as goal

pub loop-init : goal.loop-init
loop-init c = (refl, omega arith)

pub returns-then-text-at : goal.returns-then-text-at
returns-then-text-at c =
    let a = c.args in
    start_stop a.text.now a.k c.loop.counter c.loop.invariant.0 c.loop.invariant.1 c.if-text-at.true

pub overflow_add-at : goal.overflow_add-at
overflow_add-at c =
    omega (arith, c.level_end-at.ensures, end-within c.args.text.now c.loop.at c.if-text-at.false)

pub loop-preserved : goal.loop-preserved
loop-preserved c =
    (start_step c.args.text.now c.loop.counter c.loop.invariant.0 c.if-text-at.false c.level_end-at.ensures, omega arith)

pub returns : goal.returns
returns c =
    let e : c.loop.counter ≡ c.args.k = omega arith in
    c.loop.invariant.0 ∙ ap (start_of c.args.text.now) e
