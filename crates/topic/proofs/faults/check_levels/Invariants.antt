-- `topic::faults::check_levels` meets its contract: of the levels passed none is bad, and the first '#' is noted. Assumes nothing.
use Rattle.level.specs.Places.{levels_at}
use Rattle.topic.proofs.FaultLaws.{Passed}
use Rattle.topic.proofs.faults.check_levels.Given as goal

abbrev pub invariant-loop-level : goal.invariant-loop-level
invariant-loop-level l = Passed l.text l.k l.hash (levels_at l.level-iterator.text.now l.level-iterator.at)
