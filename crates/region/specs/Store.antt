-- TO BELIEVE. When a region is a store of each kind (document 01, 'Store rules': "docs/ states when a region is a store").
-- A region is a store exactly when it is what the forest that it decodes to is written down as, that forest is well formed,
-- and what it holds is accepted and fits. Assumes nothing.
use Rattle.std.specs.Prelude.{Ok}
use Rattle.std.specs.Prelude.{◌≡◌, ℕ, ◌+◌, ◌*◌, ◌≤◌, true, List, length}
use Rattle.lent.specs.Numbers.{be}
use Rattle.lent.specs.Parts.{part}
use Rattle.level.specs.Levels.{split}
use Rattle.topic.specs.Rules.{Rule, filter_rules, name_rules}
use Rattle.topic.specs.Answers.{checked}
use Rattle.held.specs.Order.{Filter}
use Rattle.held.specs.Ascending.{All}
use Rattle.held.specs.Room.{Room, in_range, node_count, cell_count}
use Rattle.held.specs.Retained.{Stored}
use Rattle.held.specs.Forest.{Forest, held, WellFormed, WellNamed}
use Rattle.region.specs.Layout.{unit_room, needed_bytes, units_f, unit_bytes, marks_of, Used, header_bytes}
use Rattle.region.specs.Units.{value_bytes, value_of, stored_bytes, stored_of}
use Rattle.region.specs.Decode.{decode}

-- what a region says of itself: its capacities, and the forest in its units
abbrev pub room_at : List ℕ → Room
room_at s = record { nodes = be (part 4 2 s); pairs = be (part 6 2 s); cells = be (part 8 2 s) }

abbrev pub forest_at : {X : Type 0} → (read : List ℕ → X) → List ℕ → Forest X
forest_at read s = decode read (part (64 + unit_room (room_at s)) (be (part 16 2 s) * 16) s)

-- "In use are": nodes, pairs and cells, counted from what is held; and the units that they take
abbrev pub used_by : {X : Type 0} → Forest X → Used
used_by F = record { nodes = node_count (held F); pairs = length (held F); cells = cell_count (held F); units = units_f F }

-- a forest is written down in a region
pub record WrittenIn {X : Type 0} (kind : ℕ) (write : X → List ℕ) (F : Forest X) (s : List ℕ) : Type 0 where
  pub range : in_range (room_at s) ≡ true
  pub long : needed_bytes (room_at s) ≤ length s
  pub header : part 0 18 s ≡ header_bytes kind (room_at s) (used_by F)
  pub marks : part 64 (units_f F) s ≡ marks_of 1 F
  pub units : part (64 + unit_room (room_at s)) (units_f F * 16) s ≡ unit_bytes write F
  pub nodes_fit : node_count (held F) ≤ (room_at s).nodes
  pub pairs_fit : length (held F) ≤ (room_at s).pairs
  pub cells_fit : cell_count (held F) ≤ (room_at s).cells

-- each of what is held stands under the levels of a text that is accepted, at most 128 of them
pub record Accepts (rules : List ℕ → List Rule) (f : Filter) : Type 0 where
  pub text : List ℕ
  pub levels : split text ≡ f
  pub fine : checked (rules text) ≡ Ok tt
  pub depth : length f ≤ 128

pub record SubscriptionStore (s : List ℕ) : Type 0 where
  pub written : WrittenIn 1 value_bytes (forest_at value_of s) s
  pub well : WellFormed (forest_at value_of s)
  pub texts : All (λ (e : Filter × ℕ). Accepts filter_rules e.0) (held (forest_at value_of s))

pub record RetainedStore (s : List ℕ) : Type 0 where
  pub written : WrittenIn 2 stored_bytes (forest_at stored_of s) s
  pub well : WellNamed (forest_at stored_of s)
  pub texts : All (λ (e : Filter × Stored). Accepts name_rules e.0) (held (forest_at stored_of s))
