-- FOR THE CODE. The records of names that stand in some units, and a node of them. Assumes nothing.
use Rattle.std.specs.Prelude.{◌≡◌, List, ℕ, ◌+◌, ◌-◌, ◌*◌, ◌≤◌, ◌<◌, length}
use Rattle.lent.specs.Parts.{part}
use Rattle.held.specs.Order.{Level}
use Rattle.held.specs.Ascending.{All}
use Rattle.held.specs.Bytes.{each}
use Rattle.held.specs.Retained.{Stored}
use Rattle.held.specs.Sized.{SmallStored}
use Rattle.held.specs.Forest.{Forest, Owns, Single}
use Rattle.region.specs.Layout.{level_units}
use Rattle.region.specs.Units.{stored_bytes, stored_of}
use Rattle.forest.specs.declared.Row.{Row}
use Rattle.forest.specs.Places.{unit_at, len_at, level_in, forest_in}
use Rattle.forest.specs.Stands.{Stands}
use Rattle.walk.specs.Height.{height_f}

-- the forest of the units from 0 up to n
abbrev pub stored_in : (base : ℕ) → List ℕ → (n : ℕ) → Forest Stored
stored_in base s n = forest_in stored_of base s 0 n

-- a forest of records stands in the units from lo up to hi, a node holds at most one, and it is no deeper than what is left of 128
pub record Standing (base : ℕ) (s : List ℕ) (left lo hi : ℕ) (F : Forest Stored) : Type 0 where
  pub stands : Stands stored_bytes SmallStored base s (129 - left) lo hi F
  pub single : Owns Single F
  pub low : height_f F ≤ left

-- as a lookup needs it
abbrev pub Looked : (base : ℕ) → List ℕ → (n : ℕ) → Type 0
Looked base s n = Standing base s 128 0 n (stored_in base s n)

-- whatever the bytes are, a node at unit i lies within the units
pub record NodeIn (base : ℕ) (s : List ℕ) (i : ℕ) (r : Row) : Type 0 where
  pub len_is : r.len ≡ len_at base s i
  pub on : i < r.end
  pub within : r.end ≤ r.past
  pub units : unit_at base r.past ≤ length s
  pub marks : 64 + r.past ≤ base
  pub few : r.past < 4294967296
  pub short : r.len < 65536

-- what a node holds stands from unit `at` up to unit `end`
pub record OwnHolds (base : ℕ) (s : List ℕ) (at end : ℕ) (v : List Stored) : Type 0 where
  pub count : end ≡ at + length v
  pub units : part (unit_at base at) (length v * 16) s ≡ each stored_bytes v
  pub small : All SmallStored v
  pub single : Single v

-- the node at unit i has the level t, holds v, and has the children k
pub record NodeHas (base : ℕ) (s : List ℕ) (left i : ℕ) (r : Row) (t : Level) (v : List Stored) (k : Forest Stored) : Type 0 where
  pub deep : 0 < left
  pub len : r.len ≡ length t
  pub text : (m : ℕ) → r.end ≤ m → level_in base s i m ≡ t
  pub holds : OwnHolds base s (i + level_units t) r.end v
  pub kids : Standing base s (left - 1) r.end r.past k
