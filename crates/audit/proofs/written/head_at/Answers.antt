-- `audit::written::head_at` meets its contract. Assumes nothing.
use borrow.Author.Rules.{rules}
use Rattle.audit.proofs.RowLaws.{head_is}
use Rattle.audit.proofs.written.head_at.Goals as goal

pub returns : goal.returns
returns c = search (rules, head_is)
