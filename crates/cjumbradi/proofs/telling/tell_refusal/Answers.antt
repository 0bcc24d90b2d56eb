-- `cjumbradi::telling::tell_refusal` meets its contract. Assumes nothing.
use borrow.Author.Rules.{rules}
use Rattle.cjumbradi.proofs.Tellings.{told_is}
use Rattle.cjumbradi.proofs.telling.tell_refusal.Goals as goal

pub returns : goal.returns
returns c = search (rules, told_is)
