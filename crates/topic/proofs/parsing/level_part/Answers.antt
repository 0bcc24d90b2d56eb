-- `topic::parsing::level_part` meets its contract. Assumes nothing.
use Rattle.std.proofs.Common.{rules}
use Rattle.topic.proofs.LevelLaws.{part_here}
use Rattle.topic.proofs.parsing.level_part.Goals as goal

pub returns-in-Some : goal.returns-in-Some
returns-in-Some c = search (rules, part_here)
