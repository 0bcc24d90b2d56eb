-- `topic::faults::check_levels` meets its contract. Assumes nothing.
use Rattle.std.proofs.Common.{rules, arith, sym, ◌∙◌, ◌<◌}
use Rattle.level.proofs.Split.{split_fits}
use Rattle.topic.proofs.FaultLaws.{none_passed, bad_here, hash_here, no_hash, hash_known, hash_refused, hash_last, hash_nowhere}
use Rattle.topic.proofs.faults.check_levels.Goals as goal
use Rattle.topic.proofs.faults.check_levels.Goals.{then-is_none+then-is_only, else-is_none, else-is_none-via-then-is_none+else-is_only, else-is_none-via-else-is_none}

pub loop-level-init : goal.loop-level-init
loop-level-init c = search (rules, none_passed)

pub returns-then-is_bad : goal.returns-then-is_bad
returns-then-is_bad c = search (rules, bad_here)

pub overflow_add-k : goal.overflow_add-k
overflow_add-k c = omega (arith, c.loop-level.invariant.count, split_fits c.args.text.now)

pub loop-level-preserved : goal.loop-level-preserved
loop-level-preserved c =
    let s = c.args.text.now in
    let l = c.loop-level in
    let e = c.in-Some.ensures.steps in
    let b = sym c.is_bad.ensures ∙ c.if-is_bad.false in
    elim c.if-is_none.branch [
      | then-is_none+then-is_only w ↦ hash_here s l.k e b l.hash w.if-is_none.ensures l.invariant (sym w.is_only.ensures ∙ w.if-is_only.true) w.hash-is
      | else-is_none w ↦
          elim w.else-is_none.branch [
            | else-is_none-via-then-is_none+else-is_only v ↦ no_hash s l.k e b l.hash v.if-is_none.ensures l.invariant (sym v.is_only.ensures ∙ v.if-is_only.false) w.hash-is
            | else-is_none-via-else-is_none v ↦ hash_known s l.k e b l.hash v.if-is_none.ensures l.invariant w.hash-is
          ]
    ]

pub overflow_add-place : goal.overflow_add-place
overflow_add-place c =
    let d : c.in-Some-hash.place < c.loop-level.k = rw c.in-Some-hash.is at c.loop-level.invariant.before in
    omega (arith, c.loop-level.invariant.count, split_fits c.args.text.now)

pub returns-in-Some-hash : goal.returns-in-Some-hash
returns-in-Some-hash c = search (rules, hash_refused)

pub returns-in_default : goal.returns-in_default
returns-in_default c = search (rules, hash_last)

pub returns-in_default-2 : goal.returns-in_default-2
returns-in_default-2 c = search (rules, hash_nowhere)
