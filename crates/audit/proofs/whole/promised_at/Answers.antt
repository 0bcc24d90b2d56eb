-- `audit::whole::promised_at` meets its contract. Assumes nothing.
use borrow.Author.Rules.{rules}
use Rattle.audit.proofs.WholeLaws.{left_is}
use Rattle.audit.proofs.whole.promised_at.Goals as goal

pub returns : goal.returns
returns c = search (rules, left_is)
