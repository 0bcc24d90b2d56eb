-- `audit::placed::is_in_order` meets its contract. Assumes nothing.
use borrow.Author.Rules.{rules}
use Rattle.audit.proofs.RowLaws.{follows-none, follows_some}
use Rattle.audit.proofs.placed.is_in_order.Goals as goal

pub returns-then-n-past : goal.returns-then-n-past
returns-then-n-past c = search (rules, follows-none)

pub returns : goal.returns
returns c = search (rules, follows_some)
