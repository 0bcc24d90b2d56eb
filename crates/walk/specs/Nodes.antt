-- FOR THE CODE. A node that a walk has come to, by its units. Assumes nothing.
use Rattle.std.specs.Prelude.{Some, None, Option}
use Rattle.std.specs.Prelude.{◌≡◌, ℕ, ◌+◌, ◌*◌, ◌^◌, ◌≤◌, ◌<◌, List, length}
use Rattle.lent.specs.Parts.{part}
use Rattle.held.specs.Order.{Level}
use Rattle.held.specs.Ascending.{All}
use Rattle.held.specs.Bytes.{each}
use Rattle.held.specs.Forest.{Forest}
use Rattle.held.specs.Walks.{Hit, miss, hit, kid}
use Rattle.region.specs.Units.{value_bytes, value_of}
use Rattle.forest.specs.Places.{unit_at, forest_in}
use Rattle.forest.specs.Stands.{Stands}
use Rattle.walk.specs.declared.Node.{Node}
use Rattle.walk.specs.Height.{height_f}

-- a forest of values stands in the units from lo up to hi, its rows at depth d
abbrev pub ValuesStand : (base : ℕ) → List ℕ → (d lo hi : ℕ) → Forest ℕ → Type 0
ValuesStand base s d lo hi F = Stands value_bytes (λ v. v < 256 ^ 4) base s d lo hi F

-- the forest of the units from 0 up to n, as a walk needs it: it stands there, at most 128 deep
abbrev pub values_in : (base : ℕ) → List ℕ → (n : ℕ) → Forest ℕ
values_in base s n = forest_in value_of base s 0 n

pub record Listed (base : ℕ) (s : List ℕ) (n : ℕ) : Type 0 where
  pub stands : ValuesStand base s 1 0 n (values_in base s n)
  pub shallow : height_f (values_in base s n) ≤ 128

-- one whose values stand from unit v up to unit e, and its children from there up to unit p
abbrev pub node_at : (v e p : ℕ) → Option Node
node_at v e p = Some (record { values = v; end = e; past = p })

-- whatever the bytes are, a node lies within the units
abbrev pub NodeIn : (base : ℕ) → List ℕ → Option Node → Type 0
NodeIn base s (Some n) = (n.values ≤ n.end) × (n.end ≤ n.past) × (unit_at base n.past ≤ length s) × (64 + n.past ≤ base)
NodeIn base s None = Unit

-- units from lo up to hi that lie in the region, and have their marks
pub record Below (base : ℕ) (s : List ℕ) (lo hi : ℕ) : Type 0 where
  pub low : lo ≤ hi
  pub within : unit_at base hi ≤ length s
  pub marks : 64 + hi ≤ base

-- values stand from the unit v up to the unit e, children from there up to the unit p, one deeper than d
pub record NodeHolds (base : ℕ) (s : List ℕ) (d v e p : ℕ) (own : List ℕ) (kids : Forest ℕ) : Type 0 where
  pub count : e ≡ v + length own
  pub few : length own < 65536
  pub values : part (unit_at base v) (length own * 16) s ≡ each value_bytes own
  pub small : All (λ x. x < 256 ^ 4) own
  pub stands : ValuesStand base s (d + 1) e p kids
  pub shallow : d + height_f kids ≤ 128

-- a node at depth d of a region that is this node of a forest
abbrev pub NodeIs : (base : ℕ) → List ℕ → (d : ℕ) → Option Node → Hit ℕ → Type 0
NodeIs base s d (Some n) miss = ⊥
NodeIs base s d (Some n) (hit own kids) = NodeHolds base s d n.values n.end n.past own kids
NodeIs base s d None miss = Unit
NodeIs base s d None (hit own kids) = ⊥

-- the child with the level g of a node at depth d, whose children stand from lo up to hi
pub record Kid (base : ℕ) (s : List ℕ) (d lo hi : ℕ) (g : Level) (v : Option Node) : Type 0 where
  pub inside : NodeIn base s v
  pub is : (F : Forest ℕ) → ValuesStand base s (d + 1) lo hi F → d + height_f F ≤ 128 → NodeIs base s (d + 1) v (kid g F)
