-- `level::part_at` meets its contract. Assumes nothing.
use Rattle.std.proofs.Common.{arith}
use Rattle.level.proofs.Split.{part-first, end-within}
use Rattle.level.proofs.part_at.Goals as goal

pub slice_bounds-result-end-2 : goal.slice_bounds-result-end-2
slice_bounds-result-end-2 c =
    let a = c.args in
    omega (arith, c.level_end.ensures, end-within a.text.now a.at c.if-text-at.false)

pub returns : goal.returns
returns c =
    let a = c.args in
    rw c.level_end.ensures (part-first a.text.now a.at)
