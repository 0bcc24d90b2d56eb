-- `topic::validity::check_shared` meets its contract. Assumes nothing.
use Rattle.std.proofs.Common.{rules}
use Rattle.std.proofs.lemmas.Result.{err_from_is_err_and}
use Rattle.topic.proofs.RuleLaws.{shared-none, shared_refused, shared_group, shared_fine}
use Rattle.topic.proofs.validity.check_shared.Goals as goal

pub returns-then-inner-eq0 : goal.returns-then-inner-eq0
returns-then-inner-eq0 c = search (rules, shared-none)

pub returns-in_err-check_levels : goal.returns-in_err-check_levels
returns-in_err-check_levels c =
    let p = err_from_is_err_and c.from_residual.result c.from_residual.ensures.1 in
    rw (p.1, p.2) (shared_refused c.args.rest.now c.part_at-group.ensures c.text_from-inner.ensures c.if-inner-eq0.false c.check_levels.ensures c.in_err-check_levels.was)

pub returns-then-has_wildcard : goal.returns-then-has_wildcard
returns-then-has_wildcard c =
    shared_group c.args.rest.now c.part_at-group.ensures c.text_from-inner.ensures c.if-inner-eq0.false c.check_levels.ensures c.in_ok-check_levels.was c.has_wildcard.ensures c.if-has_wildcard.true

pub returns : goal.returns
returns c =
    shared_fine c.args.rest.now c.part_at-group.ensures c.text_from-inner.ensures c.if-inner-eq0.false c.check_levels.ensures c.in_ok-check_levels.was c.has_wildcard.ensures c.if-has_wildcard.false
