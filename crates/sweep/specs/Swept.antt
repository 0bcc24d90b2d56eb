-- FOR THE CODE. What the pass over some rows promises: of all bytes, where it writes and what its numbers are at most; of a
-- forest that stands there, that what stays of it stands from a unit on. Assumes nothing.
use Rattle.std.specs.Prelude.{◌≡◌, ℕ, ◌+◌, ◌-◌, ◌*◌, ◌≤◌, List, ◌++◌, length}
use Rattle.lent.specs.Parts.{part}
use Rattle.held.specs.Order.{Level}
use Rattle.held.specs.Ascending.{keep}
use Rattle.held.specs.Retained.{Stored, unexpired}
use Rattle.held.specs.Sized.{SmallStored}
use Rattle.held.specs.Forest.{Forest, fork, held, Single, Owns}
use Rattle.held.specs.Edit.{pruned, sweep_f, size_f, cells_f}
use Rattle.region.specs.Layout.{unit_bytes, marks_of, units_f}
use Rattle.region.specs.Units.{stored_bytes}
use Rattle.forest.specs.Places.{unit_at}
use Rattle.forest.specs.Stands.{Stands}
use Rattle.walk.specs.Height.{height_f}
use Rattle.sweep.specs.declared.Kept.{Kept}
use Rattle.sweep.specs.Touched.{Touched}

-- records that stand, a node at most one, no deeper than 128
pub record Sweepable (base : ℕ) (s : List ℕ) (d lo hi : ℕ) (F : Forest Stored) : Type 0 where
  pub stands : Stands stored_bytes SmallStored base s d lo hi F
  pub single : Owns Single F
  pub low : height_f F + d ≤ 129

-- a is what was kept before, b what is kept now: what stands between the two, with G behind it, is F; and so are the counts
pub record Grown (base : ℕ) (t : List ℕ) (d : ℕ) (a b : Kept) (G F : Forest Stored) : Type 0 where
  pub units : part (unit_at base a.to) ((b.to - a.to) * 16) t ++ unit_bytes stored_bytes G ≡ unit_bytes stored_bytes F
  pub marks : part (64 + a.to) (b.to - a.to) t ++ marks_of d G ≡ marks_of d F
  pub nodes : b.nodes + size_f G ≡ a.nodes + size_f F
  pub pairs : b.pairs + length (held G) ≡ a.pairs + length (held F)
  pub cells : b.cells + cells_f G ≡ a.cells + cells_f F

-- the node at unit i, with all below it up to unit `past`: a is what was kept of the rows before it, b is what is kept with it
pub record NodeSwept (clock base d i hi past : ℕ) (s t : List ℕ) (a b : Kept) : Type 0 where
  pub onward : a.to ≤ b.to
  pub most : b.to + i ≤ a.to + past
  pub nodes_most : b.nodes + i ≤ a.nodes + past
  pub pairs_most : b.pairs + i ≤ a.pairs + past
  pub cells_most : b.cells + 4096 * i ≤ a.cells + 4096 * past
  pub touched : Touched base a.to past s t
  pub swept : (l : Level) (v : List Stored) (k n : Forest Stored) → Sweepable base s d i hi (fork l v k n) → (m : Forest Stored)
      → Grown base t d a b m (pruned l (keep (unexpired clock) v) (sweep_f (unexpired clock) k) m)

-- nothing kept yet
abbrev pub none_to : ℕ → Kept
none_to to = record { to = to; nodes = 0; pairs = 0; cells = 0 }

-- a pass that has come to unit i: what is left of the forest F, and that what is kept, with what a sweep leaves of the rest, is what it leaves of F
pub record Rest (clock base : ℕ) (t : List ℕ) (d i hi to : ℕ) (b : Kept) (F : Forest Stored) : Type 0 where
  pub rest : Forest Stored
  pub left : Sweepable base t d i hi rest
  pub grown : Grown base t d (none_to to) b (sweep_f (unexpired clock) rest) (sweep_f (unexpired clock) F)

-- the rows from unit lo up to unit i, of those up to unit hi: what stays is written from unit `to` on
pub record SweptTo (clock base d lo hi to : ℕ) (s : List ℕ) (i : ℕ) (t : List ℕ) (b : Kept) : Type 0 where
  pub begun : lo ≤ i
  pub within : i ≤ hi
  pub onward : to ≤ b.to
  pub most : b.to + lo ≤ to + i
  pub nodes_most : b.nodes + lo ≤ i
  pub pairs_most : b.pairs + lo ≤ i
  pub cells_most : b.cells + 4096 * lo ≤ 4096 * i
  pub touched : Touched base to i s t
  pub swept : (F : Forest Stored) → Sweepable base s d lo hi F → Rest clock base t d i hi to b F

-- all the rows: what stays is what a sweep of the forest leaves
pub record Wholly (clock base : ℕ) (t : List ℕ) (d to : ℕ) (b : Kept) (F : Forest Stored) : Type 0 where
  pub size : b.to ≡ to + units_f (sweep_f (unexpired clock) F)
  pub units : part (unit_at base to) (units_f (sweep_f (unexpired clock) F) * 16) t ≡ unit_bytes stored_bytes (sweep_f (unexpired clock) F)
  pub marks : part (64 + to) (units_f (sweep_f (unexpired clock) F)) t ≡ marks_of d (sweep_f (unexpired clock) F)
  pub nodes : b.nodes ≡ size_f (sweep_f (unexpired clock) F)
  pub pairs : b.pairs ≡ length (held (sweep_f (unexpired clock) F))
  pub cells : b.cells ≡ cells_f (sweep_f (unexpired clock) F)

pub record RowsSwept (clock base d lo hi to : ℕ) (s t : List ℕ) (b : Kept) : Type 0 where
  pub onward : to ≤ b.to
  pub most : b.to + lo ≤ to + hi
  pub nodes_most : b.nodes + lo ≤ hi
  pub pairs_most : b.pairs + lo ≤ hi
  pub cells_most : b.cells + 4096 * lo ≤ 4096 * hi
  pub touched : Touched base to hi s t
  pub swept : (F : Forest Stored) → Sweepable base s d lo hi F → Wholly clock base t d to b F
