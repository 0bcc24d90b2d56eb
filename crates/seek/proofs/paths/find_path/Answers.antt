-- `seek::paths::find_path` meets its contract. Assumes nothing.
use borrow.Author.Rules.{rules}
use native.Mathlib.Omega.{arith}
use Rattle.seek.proofs.Descent.{end_in, going_top, going_next, path_end, path_full, path-missing}
use Rattle.seek.proofs.paths.find_path.Goals as goal

pub loop-depth-init : goal.loop-depth-init
loop-depth-init c = search (rules, going_top)

pub slice_bounds-find_child-end : goal.slice_bounds-find_child-end
slice_bounds-find_child-end c = search (rules, end_in)

pub overflow_add-from : goal.overflow_add-from
overflow_add-from c =
    omega (arith, end_in c.args.text.now c.loop-depth.from c.if-size-from.false c.level_end-stop.ensures)

pub loop-depth-preserved : goal.loop-depth-preserved
loop-depth-preserved c = search (rules, going_next)

pub returns-in-Err : goal.returns-in-Err
returns-in-Err c = search (rules, path-missing)

pub returns : goal.returns
returns c = search (rules, path_full)

pub returns-then-size-from : goal.returns-then-size-from
returns-then-size-from c = search (rules, path_end)
