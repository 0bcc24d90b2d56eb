-- `audit::placed::row_is_placed` meets its contract. Assumes nothing.
use borrow.Author.Rules.{rules}
use Rattle.audit.proofs.RowLaws.{placed_shape, placed_last}
use Rattle.audit.proofs.placed.row_is_placed.Goals as goal

pub returns-then-not-shape_is_sound : goal.returns-then-not-shape_is_sound
returns-then-not-shape_is_sound c = search (rules, placed_shape)

pub returns : goal.returns
returns c = search (rules, placed_last)
