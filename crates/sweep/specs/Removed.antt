-- FOR THE CODE. What the removal of all expired records promises of a whole region. Assumes nothing.
use Rattle.std.specs.Prelude.{◌≡◌, ℕ, ◌+◌, ◌≤◌, not, List, length}
use Rattle.lent.specs.Numbers.{bytes, be}
use Rattle.lent.specs.Parts.{part}
use Rattle.lent.specs.Total.{Framed, write}
use Rattle.held.specs.Order.{Filter}
use Rattle.held.specs.Ascending.{keep}
use Rattle.held.specs.Retained.{Stored, unexpired, sweep_held}
use Rattle.held.specs.Forest.{Forest, held, Single, Owns}
use Rattle.held.specs.Edit.{sweep_f}
use Rattle.region.specs.Layout.{unit_room, needed_bytes}
use Rattle.region.specs.Units.{stored_of}
use Rattle.region.specs.Store.{room_at, forest_at, RetainedStore}
use Rattle.region.proofs.Instances.{records}
use Rattle.forest.specs.Places.{unit_at}
use Rattle.walk.specs.Height.{height_f}
use Rattle.change.specs.Holds.{Holds}
use Rattle.sweep.specs.declared.Kept.{Kept}

-- the header's numbers of what is in use
unfoldable pub counts_put : Kept → List ℕ → List ℕ
counts_put k s = write 16 (bytes 2 k.to) (write 14 (bytes 2 k.cells) (write 12 (bytes 2 k.pairs) (write 10 (bytes 2 k.nodes) s)))

-- what a region held that holds F: every expired record is gone, and so is every node that was left empty
pub record RemovedFrom (clock : ℕ) (s t : List ℕ) (r : ℕ) (F : Forest Stored) : Type 0 where
  pub holds : Holds records 2 t (sweep_f (unexpired clock) F)
  pub room : room_at t ≡ room_at s
  pub count : r ≡ length (keep (λ (e : Filter × Stored). not (unexpired clock e.1)) (held F))

-- no byte is another but the header's counts, the marks and the units in use; and what a store held is swept
pub record Removed (clock base n : ℕ) (s t : List ℕ) (r : ℕ) : Type 0 where
  pub long : length t ≡ length s
  pub start : (q w : ℕ) → q + w ≤ 10 → part q w t ≡ part q w s
  pub spare : (q w : ℕ) → 18 ≤ q → q + w ≤ 64 → part q w t ≡ part q w s
  pub between : (q w : ℕ) → 64 + n ≤ q → q + w ≤ base → part q w t ≡ part q w s
  pub behind : (q w : ℕ) → unit_at base n ≤ q → part q w t ≡ part q w s
  pub swept : (F : Forest Stored) → base ≡ 64 + unit_room (room_at s) → n ≡ be (part 16 2 s) → Holds records 2 s F → Owns Single F → height_f F ≤ 128
      → RemovedFrom clock s t r F

-- a store of retained names that is swept: it is a store, it holds what had not expired, and the answer is how many went
-- (`store_swept` of proofs/StoreLaws.antt)
pub record StoreSwept (clock : ℕ) (s t : List ℕ) (r : ℕ) : Type 0 where
  pub store : RetainedStore t
  pub held_is : held (forest_at stored_of t) ≡ sweep_held clock (held (forest_at stored_of s))
  pub room : room_at t ≡ room_at s
  pub count : r ≡ length (keep (λ (e : Filter × Stored). not (unexpired clock e.1)) (held (forest_at stored_of s)))
  pub framed : Framed 0 (needed_bytes (room_at s)) s t
