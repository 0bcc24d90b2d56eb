-- `topic::validity::is_valid_topic_name` meets its contract. Assumes nothing.
use Rattle.std.specs.Prelude.{[], ◌∷◌}
use Rattle.std.proofs.lemmas.Result.{err_from_is_err_and}
use Rattle.level.specs.Kinds.{wild}
use Rattle.refusal.specs.declared.Refusal.TheVariants.{HasWildcard}
use Rattle.topic.specs.Rules.{text_rules, ◌gives◌}
use Rattle.topic.proofs.RuleLaws.{rules_refused}
use Rattle.topic.proofs.validity.is_valid_topic_name.Goals as goal

pub returns-in_err-check_text : goal.returns-in_err-check_text
returns-in_err-check_text c =
    let p = err_from_is_err_and c.from_residual.result c.from_residual.ensures.1 in
    rw (p.1, p.2) (rules_refused (text_rules c.args.text.now) ((wild c.args.text.now gives HasWildcard) ∷ []) c.check_text.ensures c.in_err-check_text.was)
