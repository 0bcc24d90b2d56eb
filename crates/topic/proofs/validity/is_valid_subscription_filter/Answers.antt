-- `topic::validity::is_valid_subscription_filter` meets its contract. Assumes nothing.
use Rattle.std.proofs.lemmas.Result.{err_from_is_err_and}
use Rattle.topic.specs.Rules.{text_rules, plain_or_shared}
use Rattle.topic.proofs.RuleLaws.{rules_refused, rules-accepted, is_shared, is_plain}
use Rattle.topic.proofs.validity.is_valid_subscription_filter.Goals as goal

pub returns-in_err-check_text : goal.returns-in_err-check_text
returns-in_err-check_text c =
    let p = err_from_is_err_and c.from_residual.result c.from_residual.ensures.1 in
    rw (p.1, p.2) (rules_refused (text_rules c.args.text.now) (plain_or_shared c.args.text.now) c.check_text.ensures c.in_err-check_text.was)

pub returns-then-is_shared_subscription : goal.returns-then-is_shared_subscription
returns-then-is_shared_subscription c =
    let s = c.args.text.now in
    rules-accepted (text_rules s) (plain_or_shared s) c.check_text.ensures c.in_ok-check_text.was
    (is_shared s c.is_shared_subscription.ensures c.if-is_shared_subscription.true c.text_from.ensures c.check_shared.ensures)

pub returns : goal.returns
returns c =
    let s = c.args.text.now in
    rules-accepted (text_rules s) (plain_or_shared s) c.check_text.ensures c.in_ok-check_text.was
    (is_plain s c.is_shared_subscription.ensures c.if-is_shared_subscription.false c.check_levels.ensures)
