-- `room::chain::wanted_for` meets its contract. Assumes nothing.
use Rattle.level.specs.Places.{levels_at}
use Rattle.room.proofs.RunLaws.{WantedLeft}
use Rattle.room.proofs.chain.wanted_for.Given as goal

abbrev pub invariant-loop-level : goal.invariant-loop-level
invariant-loop-level l = WantedLeft l.text l.from l.nodes l.cells l.units (levels_at l.level-iterator.text.now l.level-iterator.at)
