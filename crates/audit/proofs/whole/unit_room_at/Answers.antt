-- `audit::whole::unit_room_at` meets its contract. Assumes nothing.
use borrow.Author.Rules.{rules}
use native.Mathlib.Omega.{arith}
use Rattle.audit.proofs.WholeLaws.{sum_is}
use Rattle.audit.proofs.whole.unit_room_at.Goals as goal

pub returns : goal.returns
returns c = (search (rules, sum_is), omega arith)
