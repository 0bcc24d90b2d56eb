-- `region::header::shape_of` meets its contract. Assumes nothing.
use Rattle.std.proofs.Common.{rules}
use Rattle.region.proofs.ShapeLaws.{shape_short, shape_over, shape_units}
use Rattle.region.proofs.header.shape_of.Goals as goal
use Rattle.region.proofs.header.shape_of.Goals.{then-region-room-via-then-region-room, then-region-room-via-else-region-room+then-room-used}

pub returns-then-region-room : goal.returns-then-region-room
returns-then-region-room c =
    elim c.then-region-room.branch [
      | then-region-room-via-then-region-room w ↦ search (rules, shape_short)
      | then-region-room-via-else-region-room+then-room-used w ↦ search (rules, shape_over)
    ]

pub returns : goal.returns
returns c = search (rules, shape_units)
