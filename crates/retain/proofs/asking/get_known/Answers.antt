-- `retain::asking::get_known` meets its contract. Assumes nothing.
use Rattle.edit.proofs.StepLaws.{text-accepted}
use Rattle.retain.proofs.LookLaws.{look_refused}
use borrow.Author.Rules.{rules}
use Rattle.std.proofs.lemmas.Result.{err_from_is_err_and}
use Rattle.retain.proofs.asking.get_known.Goals as goal

-- src/asking.rt:71:9
pub returns-in_err-is_valid_topic_filter : goal.returns-in_err-is_valid_topic_filter
returns-in_err-is_valid_topic_filter c =
    let p = err_from_is_err_and c.from_residual.result c.from_residual.ensures.1 in
    rw (p.1, p.2) (look_refused c.args.region.now c.args.filter.now c.args.clock c.is_valid_topic_filter.ensures c.args.out.now c.in_err-is_valid_topic_filter.was)

-- src/asking.rt:73:5
pub look_accepted-requires : goal.look_accepted-requires
look_accepted-requires c = search (rules, text-accepted)
