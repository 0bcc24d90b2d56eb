-- `seek::children::find_child` meets its contract. Assumes nothing.
use borrow.Author.Rules.{rules}
use Rattle.seek.proofs.Halving.{narrow-all, narrow-less, narrow_greater, narrow-equal, narrow-none}
use Rattle.seek.proofs.children.find_child.Goals as goal

pub loop-a-init : goal.loop-a-init
loop-a-init c = search (rules, narrow-all)

pub loop-a-preserved-in-Less : goal.loop-a-preserved-in-Less
loop-a-preserved-in-Less c = (
  search rules,
  search rules,
  search rules,
  narrow-less _ _ _ _ _ _ _ _ c.probe-p.result _ _ c.loop-a.invariant.3
      c.probe-p.ensures c.level_at.ensures c.compare.ensures c.row_at-r.result c.row_at-r.ensures _ c.max-a.ensures (search rules),
)

pub returns-in-Equal : goal.returns-in-Equal
returns-in-Equal c = search (rules, narrow-equal)

pub loop-a-preserved : goal.loop-a-preserved
loop-a-preserved c = search (rules, narrow_greater)

pub returns : goal.returns
returns c = search (rules, narrow-none)
