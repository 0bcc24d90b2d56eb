-- `topic::validity::is_valid_topic_filter` meets its contract. Assumes nothing.
use Rattle.std.proofs.lemmas.Result.{err_from_is_err_and}
use Rattle.topic.specs.Rules.{text_rules, level_rules}
use Rattle.topic.proofs.RuleLaws.{rules_refused}
use Rattle.topic.proofs.validity.is_valid_topic_filter.Goals as goal

pub returns-in_err-check_text : goal.returns-in_err-check_text
returns-in_err-check_text c =
    let p = err_from_is_err_and c.from_residual.result c.from_residual.ensures.1 in
    rw (p.1, p.2) (rules_refused (text_rules c.args.text.now) (level_rules c.args.text.now) c.check_text.ensures c.in_err-check_text.was)
