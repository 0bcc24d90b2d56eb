-- FOR THE CODE. What the header of a region says, whatever its bytes are. Assumes nothing.
use Rattle.std.specs.Prelude.{Some, None, Option}
use Rattle.std.specs.Prelude.{◌≡◌, ℕ, ◌+◌, ◌*◌, ◌≤◌, ◌<◌, List, length}
use Rattle.lent.specs.Numbers.{be}
use Rattle.lent.specs.Parts.{part}
use Rattle.region.specs.declared.Capacities.{Capacities}
use Rattle.region.specs.declared.Shape.{Shape}
use Rattle.region.specs.Layout.{unit_room, needed_bytes}
use Rattle.region.specs.Opening.{room_of}
use Rattle.region.specs.Store.{room_at}

pub record CapacitiesOf (s : List ℕ) (c : Capacities) : Type 0 where
  pub room_is : 10 ≤ length s → room_of c ≡ room_at s
  pub nodes_small : c.nodes.0 < 65536
  pub pairs_small : c.pairs.0 < 65536
  pub cells_small : c.cells.0 < 65536

pub record UnitsOf (s : List ℕ) (base used room : ℕ) : Type 0 where
  pub room_is : room ≡ unit_room (room_at s)
  pub base_is : base ≡ 64 + room
  pub used_is : used ≡ be (part 16 2 s)
  pub within : used ≤ room
  pub long : 64 + 17 * room ≤ length s
  pub small : room < 196608

pub record NoUnits (s : List ℕ) : Type 0 where
  pub none : needed_bytes (room_at s) ≤ length s → be (part 16 2 s) ≤ unit_room (room_at s) → ⊥

abbrev pub ShapeOf : List ℕ → Option Shape → Type 0
ShapeOf s (Some u) = UnitsOf s u.base u.used u.room
ShapeOf s None = NoUnits s
