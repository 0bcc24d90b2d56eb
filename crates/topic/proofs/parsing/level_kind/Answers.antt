-- `topic::parsing::level_kind` meets its contract. Assumes nothing.
use Rattle.topic.proofs.LevelLaws.{kind_here}
use Rattle.topic.proofs.parsing.level_kind.Goals as goal

pub returns : goal.returns
returns c = kind_here c.args.text.now c.args.k c.level_at.ensures c.in_ok-at.was c.part_at.ensures c.kind_of.ensures
