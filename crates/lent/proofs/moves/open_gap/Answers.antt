-- `lent::moves::open_gap` meets its contract. Assumes nothing.
use Rattle.std.proofs.Common.{rules}
use native.Mathlib.Omega.{arith}
use borrow.Author.Tests.{leb-true}
use Rattle.lent.proofs.Anywhere.{nothing_opened, open_none, open_end}
use Rattle.lent.proofs.Turns.{moved_none, open_step}
use Rattle.lent.proofs.moves.open_gap.Goals as goal

pub loop-i-init : goal.loop-i-init
loop-i-init c = search (rules, moved_none)

pub loop-i-preserved : goal.loop-i-preserved
loop-i-preserved c = search (rules, leb-true, open_step)

pub returns-after-loop-i : goal.returns-after-loop-i
returns-after-loop-i c = open_end c.args.at c.args.end c.args.by c.args.s.now c.loop-i.invariant.1 c.loop-i.invariant.0 (omega arith) c.loop-i.invariant.2

pub returns-else-at-end : goal.returns-else-at-end
returns-else-at-end c = search (rules, nothing_opened, open_none)
