-- `retain::calls::set_known` meets its contract. Assumes nothing.
use Rattle.edit.proofs.StepLaws.{text-accepted}
use Rattle.retain.proofs.KnownLaws.{name_refused, sets, erases}
use borrow.Author.Rules.{rules}
use Rattle.std.proofs.lemmas.Result.{err_from_is_err_and}
use Rattle.retain.proofs.calls.set_known.Goals as goal

-- src/calls.rt:40:9
pub returns-in_err-is_valid_topic_name : goal.returns-in_err-is_valid_topic_name
returns-in_err-is_valid_topic_name c =
    let p = err_from_is_err_and c.from_residual.result c.from_residual.ensures.1 in
    rw (p.1, p.2) (search (rules, name_refused))

-- src/calls.rt:43:9
pub erase_accepted-requires : goal.erase_accepted-requires
erase_accepted-requires c = search (rules, text-accepted)

-- src/calls.rt:43:9
pub returns-then-payload-eq0 : goal.returns-then-payload-eq0
returns-then-payload-eq0 c = search (rules, erases)

-- src/calls.rt:45:5
pub set_accepted-requires : goal.set_accepted-requires
set_accepted-requires c = search (rules, text-accepted)

-- src/calls.rt:29:1
pub returns : goal.returns
returns c = search (rules, sets)
