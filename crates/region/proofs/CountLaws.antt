-- The counts in the header of a store are those of what it holds. Assumes nothing.
use mathlib.Core.Path.{◌≡◌, ap, ◌∙◌}
use mathlib.Core.List.{List}
use Prim.Native.Nat.{ℕ, ◌+◌, ◌≤◌, ◌<◌}
use native.Mathlib.Omega.{arith}
use lib.ListN.{length}
use Rattle.lent.specs.Numbers.{bytes, be}
use Rattle.lent.specs.Parts.{part}
use Rattle.lent.specs.Total.{read}
use Rattle.lent.proofs.Digits.{be-bytes}
use Rattle.lent.proofs.Anywhere.{read_in}
use Rattle.held.specs.Room.{Room, node_count, cell_count}
use Rattle.held.specs.Forest.{Forest, held}
use Rattle.held.proofs.Bounds.{in-range}
use Rattle.region.specs.Layout.{Used, header_bytes}
use Rattle.region.specs.Store.{room_at, used_by, WrittenIn}
use Rattle.region.proofs.Stores.{header_field}

-- the header's counts
module _ (kind : ℕ) (r : Room) (u : Used) where
  nodes-at : u.nodes < 65536 → be (part 10 2 (header_bytes kind r u)) ≡ u.nodes
  unfolding header_bytes bytes part
  nodes-at h = be-bytes 2 u.nodes h

  pairs_at : u.pairs < 65536 → be (part 12 2 (header_bytes kind r u)) ≡ u.pairs
  unfolding header_bytes bytes part
  pairs_at h = be-bytes 2 u.pairs h

  cells_at : u.cells < 65536 → be (part 14 2 (header_bytes kind r u)) ≡ u.cells
  unfolding header_bytes bytes part
  cells_at h = be-bytes 2 u.cells h

-- "In use are", counted from what is held: what the calls read where a forest is written down
module _ {X : Type 0} {kind : ℕ} {write : X → List ℕ} (F : Forest X) (s : List ℕ) (w : WrittenIn kind write F s) where
  count_at : (o : ℕ) → o + 2 ≤ 18 → read 2 o s ≡ be (part o 2 (header_bytes kind (room_at s) (used_by F)))
  count_at o h =
      read_in 2 o s (omega (arith, w.long))
      ∙ ap be (header_field kind (room_at s) (used_by F) s w.header o h)

  pub nodes_kept : read 2 10 s ≡ node_count (held F)
  nodes_kept = count_at 10 (omega arith) ∙ nodes-at kind (room_at s) (used_by F) (omega (arith, w.nodes_fit, (in-range (room_at s) w.range).nodes.1))

  pub pairs_kept : read 2 12 s ≡ length (held F)
  pairs_kept = count_at 12 (omega arith) ∙ pairs_at kind (room_at s) (used_by F) (omega (arith, w.pairs_fit, (in-range (room_at s) w.range).pairs.1))

  pub cells_kept : read 2 14 s ≡ cell_count (held F)
  cells_kept = count_at 14 (omega arith) ∙ cells_at kind (room_at s) (used_by F) (omega (arith, w.cells_fit, (in-range (room_at s) w.range).cells.1))
