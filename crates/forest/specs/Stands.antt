-- FOR THE PROOFS. A forest that stands in some units of a region, with its marks: what the code's promises of a store rest
-- on. The raw forest is the one whose nodes hold units as they stand, whatever the kind of store. Assumes nothing.
use Rattle.std.specs.Prelude.{◌≡◌, ℕ, ◌+◌, ◌*◌, List, map}
use Rattle.lent.specs.Parts.{part}
use Rattle.held.specs.Forest.{Forest, leaf, fork, Rows}
use Rattle.region.specs.Layout.{units_f, unit_bytes, marks_of}
use Rattle.region.specs.Forms.{Fits, whole, Whole}
use Rattle.forest.specs.Places.{unit_at, forest_in}

-- F stands in the units from lo up to hi, its rows at depth d
pub record Stands {X : Type 0} (write : X → List ℕ) (Small : X → Type 0) (base : ℕ) (s : List ℕ) (d lo hi : ℕ) (F : Forest X) : Type 0 where
  pub size : hi ≡ lo + units_f F
  pub units : part (unit_at base lo) (units_f F * 16) s ≡ unit_bytes write F
  pub marks : part (64 + lo) (units_f F) s ≡ marks_of d F
  pub rows : Rows F
  pub fits : Fits Small F

-- the raw forest in the units from lo up to hi, and that it stands there
abbrev pub raw_in : (base : ℕ) → List ℕ → (lo hi : ℕ) → Forest (List ℕ)
raw_in base s lo hi = forest_in (λ w. w) base s lo hi

abbrev pub RawStands : (base : ℕ) → List ℕ → (d lo hi : ℕ) → Type 0
RawStands base s d lo hi = Stands whole Whole base s d lo hi (raw_in base s lo hi)

-- a forest with a function done to all that its nodes hold
unfoldable pub map_f : {X Y : Type 0} → (X → Y) → Forest X → Forest Y
map_f f leaf = leaf
map_f f (fork t v k n) = fork t (map f v) (map_f f k) (map_f f n)
