-- `level::level_end` meets its contract: the level's end is the same seen from each byte passed. Assumes nothing.
use Rattle.std.proofs.Common.{◌≡◌, ◌≤◌, max, length}
use Rattle.level.specs.Places.{end_of}
use Rattle.level.proofs.level_end.Given as goal

abbrev pub invariant-loop-i : goal.invariant-loop-i
invariant-loop-i l = (end_of l.text l.i ≡ end_of l.text l.from) × (l.i ≤ max l.from (length l.text))
