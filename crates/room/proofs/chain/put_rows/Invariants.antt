-- `room::chain::put_rows` meets its contract. Assumes nothing.
use Rattle.level.specs.Places.{levels_at}
use Rattle.room.proofs.RunLaws.{RowsLeft}
use Rattle.room.proofs.chain.put_rows.Given as goal

abbrev pub invariant-loop-level : goal.invariant-loop-level
invariant-loop-level l =
    RowsLeft l.base l.at l.unit (levels_at l.text l.from) l.initial.s l.units l.i l.left (levels_at l.level-iterator.text.now l.level-iterator.at) l.s
