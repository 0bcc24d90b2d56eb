-- FOR THE CODE. The changes of a region's bytes. Assumes nothing.
use Rattle.std.specs.Prelude.{ℕ, ◌+◌, ◌-◌, ◌*◌, ◌<◌, List, [], ◌∷◌}
use Rattle.lent.specs.Numbers.{bytes}
use Rattle.lent.specs.Parts.{patch}
use Rattle.lent.specs.Total.{read, write, opened, closed}
use Rattle.held.specs.Order.{Filter}
use Rattle.forest.specs.Places.{unit_at}
use Rattle.room.specs.declared.Load.{Load}
use Rattle.room.specs.Runs.{run_bytes, run_marks}

-- a number of two bytes at a place: so many more, and so many less
abbrev pub moved : (more less : ℕ) → ℕ → ℕ
moved more less x = x + more - less

unfoldable pub counted : (at more less : ℕ) → List ℕ → List ℕ
counted at more less s = write at (bytes 2 (moved more less (read 2 at s))) s

-- the units below each of some nodes
unfoldable pub belows : (more less base : ℕ) → List ℕ → List ℕ → List ℕ
belows more less base [] s = s
belows more less base (i ∷ is) s = belows more less base is (counted (unit_at base i + 4) more less s)

-- the header's counts
unfoldable pub counts_moved : (more less : Load) → List ℕ → List ℕ
counts_moved a b s =
    counted 16 a.units b.units (counted 14 a.cells b.cells (counted 12 a.pairs b.pairs (counted 10 a.nodes b.nodes s)))

-- nothing, and a pair with its unit
abbrev pub no_load : Load
no_load = record { nodes = 0; pairs = 0; cells = 0; units = 0 }

abbrev pub one_load : Load
one_load = record { nodes = 0; pairs = 1; cells = 0; units = 1 }

-- small enough to be added up
pub record SmallLoad (l : Load) : Type 0 where
  pub nodes_small : l.nodes < 4294967296
  pub pairs_small : l.pairs < 4294967296
  pub cells_small : l.cells < 4294967296
  pub units_small : l.units < 4294967296

-- units that lie below unit n
pub data Under (n : ℕ) : List ℕ → Type 0 where
  none_under : Under n []
  more_under : {i : ℕ} {is : List ℕ} → i < n → Under n is → Under n (i ∷ is)

-- new nodes for the levels gs before unit `place` of n, c units in all, below some nodes, of which the last holds the unit x:
-- their rows, and their marks from depth d on
unfoldable pub made_run : (base n : ℕ) (nodes : List ℕ) (place d : ℕ) (x : List ℕ) (gs : Filter) (c : ℕ) → List ℕ → List ℕ
made_run base n nodes place d x gs c s =
    patch (64 + place) (run_marks d gs)
    (opened (64 + place) (64 + n) c
    (patch (unit_at base place) (run_bytes x gs)
    (opened (unit_at base place) (unit_at base n) (c * 16) (belows c 0 base nodes s))))

-- and the counts
unfoldable pub made_chain : (base n : ℕ) (nodes : List ℕ) (place d : ℕ) (x : List ℕ) (gs : Filter) (load : Load) → List ℕ → List ℕ
made_chain base n nodes place d x gs load s = counts_moved load no_load (made_run base n nodes place d x gs load.units s)

-- the unit x before unit `at`, with its mark; for a node below some nodes; and the counts
unfoldable pub between : (base n at : ℕ) (x : List ℕ) → List ℕ → List ℕ
between base n at x s =
    patch (64 + at) (255 ∷ []) (opened (64 + at) (64 + n) 1 (patch (unit_at base at) x (opened (unit_at base at) (unit_at base n) 16 s)))

unfoldable pub put_unit : (base n : ℕ) (nodes : List ℕ) (node at : ℕ) (x : List ℕ) → List ℕ → List ℕ
put_unit base n nodes node at x s = between base n at x (counted (unit_at base node + 2) 1 0 (belows 1 0 base nodes s))

unfoldable pub made_unit : (base n : ℕ) (nodes : List ℕ) (node at : ℕ) (x : List ℕ) → List ℕ → List ℕ
made_unit base n nodes node at x s = counts_moved one_load no_load (put_unit base n nodes node at x s)

-- c units and their marks taken away from unit `at` on, below some nodes; and the counts
unfoldable pub taken_run : (base n : ℕ) (nodes : List ℕ) (at c : ℕ) → List ℕ → List ℕ
taken_run base n nodes at c s =
    closed (64 + at) (64 + (n - c)) c (closed (unit_at base at) (unit_at base (n - c)) (c * 16) (belows 0 c base nodes s))

unfoldable pub taken_chain : (base n : ℕ) (nodes : List ℕ) (at : ℕ) (load : Load) → List ℕ → List ℕ
taken_chain base n nodes at load s = counts_moved no_load load (taken_run base n nodes at load.units s)

-- unit `at` of a node taken away; and the counts
unfoldable pub cut_unit : (base n : ℕ) (nodes : List ℕ) (node at : ℕ) → List ℕ → List ℕ
cut_unit base n nodes node at s = taken_run base n nodes at 1 (counted (unit_at base node + 2) 0 1 s)

unfoldable pub taken_unit : (base n : ℕ) (nodes : List ℕ) (node at : ℕ) → List ℕ → List ℕ
taken_unit base n nodes node at s = counts_moved no_load one_load (cut_unit base n nodes node at s)
