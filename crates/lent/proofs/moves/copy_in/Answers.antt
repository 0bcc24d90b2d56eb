-- `lent::moves::copy_in` meets its contract. Assumes nothing.
use Rattle.std.proofs.Common.{rules}
use borrow.Author.Tests.{leb-true}
use Rattle.lent.proofs.Anywhere.{copied, nothing_written}
use Rattle.lent.proofs.Turns.{copied_none, copy_step}
use Rattle.lent.proofs.moves.copy_in.Goals as goal

pub loop-i-init : goal.loop-i-init
loop-i-init c = search (rules, copied_none)

pub loop-i-preserved : goal.loop-i-preserved
loop-i-preserved c = search (rules, leb-true, copy_step)

pub returns-after-loop-i : goal.returns-after-loop-i
returns-after-loop-i c = search (rules, copied)

pub returns-else-fits : goal.returns-else-fits
returns-else-fits c = search (rules, nothing_written)
