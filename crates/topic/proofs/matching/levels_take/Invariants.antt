-- `topic::matching::levels_take` meets its contract: each turn takes a level of both. Assumes nothing.
use Rattle.std.proofs.Common.{◌≡◌}
use Rattle.level.specs.Levels.{split}
use Rattle.level.specs.Places.{levels_at}
use Rattle.topic.specs.Match.{takes}
use Rattle.topic.proofs.matching.levels_take.Given as goal

abbrev pub invariant-loop-f : goal.invariant-loop-f
invariant-loop-f l = takes (levels_at l.f-iterator.text.now l.f-iterator.at) (levels_at l.others.text.now l.others.at) ≡ takes (split l.filter) (split l.name)
