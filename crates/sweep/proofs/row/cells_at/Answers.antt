-- `sweep::row::cells_at` meets its contract. Assumes nothing.
use Rattle.sweep.proofs.RowLaws.{level_few, cells_level}
use borrow.Author.Rules.{rules}
use Rattle.sweep.proofs.row.cells_at.Goals as goal

pub returns : goal.returns
returns c =
    let a = c.args in
    cells_level a.base a.i a.n a.s.now c.level_at-level.ensures c.cells_of.ensures.0 (c.cells_of.ensures.1 (search (rules, level_few)))
