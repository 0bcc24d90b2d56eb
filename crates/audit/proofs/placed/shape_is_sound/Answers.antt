-- `audit::placed::shape_is_sound` meets its contract. Assumes nothing.
use borrow.Author.Rules.{rules}
use Rattle.audit.proofs.RowLaws.{shape_bare, shape_leaf, shape-hash, shape_way, shape_both}
use Rattle.audit.proofs.placed.shape_is_sound.Goals as goal

pub returns-then-own-eq0 : goal.returns-then-own-eq0
returns-then-own-eq0 c = search (rules, shape_bare)

pub returns-then-below-eq0 : goal.returns-then-below-eq0
returns-then-below-eq0 c = search (rules, shape_leaf)

pub returns-then-is_only : goal.returns-then-is_only
returns-then-is_only c = search (rules, shape-hash)

pub returns-then-own-eq0-2 : goal.returns-then-own-eq0-2
returns-then-own-eq0-2 c = search (rules, shape_way)

pub returns : goal.returns
returns c = search (rules, shape_both)
