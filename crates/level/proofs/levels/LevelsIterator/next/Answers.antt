-- `Levels` gives the levels in turn. Assumes nothing.
use Rattle.std.proofs.Common.{rules, length, List, ℕ, arith, ap}
use Rattle.level.proofs.Split.{levels-none, next_level}
use Rattle.level.proofs.levels.LevelsIterator.next.Goals as goal

pub returns-then-self-clause-steps : goal.returns-then-self-clause-steps
returns-then-self-clause-steps c =
    let a = c.args.self.now in
    (levels-none a.text.now a.at c.if-self.true, levels-none a.text.now a.at c.if-self.true)

pub returns-clause-steps : goal.returns-clause-steps
returns-clause-steps c =
    let a = c.args.self.now in
    next_level a.text.now a.at c.if-self.false c.part_at-level.ensures

pub returns-clause-goes : goal.returns-clause-goes
returns-clause-goes c =
    let a = c.args.self.now in
    let e = ap (length {A = List ℕ}) (next_level a.text.now a.at c.if-self.false c.part_at-level.ensures) in
    record { on = λ f. (search rules, search rules, omega arith); keeps = search rules; rests = λ f. search rules }
