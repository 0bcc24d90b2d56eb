-- `room::chain::put_marks` meets its contract. Assumes nothing.
use Rattle.level.specs.Places.{levels_at}
use Rattle.room.proofs.RunLaws.{MarksLeft}
use Rattle.room.proofs.chain.put_marks.Given as goal

abbrev pub invariant-loop-level : goal.invariant-loop-level
invariant-loop-level l =
    MarksLeft l.at l.d (levels_at l.text l.from) l.initial.s l.units l.i l.depth (levels_at l.level-iterator.text.now l.level-iterator.at) l.s
