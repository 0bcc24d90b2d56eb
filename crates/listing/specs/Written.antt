-- FOR THE CODE. What is written into a buffer from a place on. Assumes nothing.
use Rattle.std.specs.Prelude.{Option, ◌≡◌, List, [], ◌∷◌, ◌++◌, ℕ, zero, suc, ◌+◌, ◌*◌, ◌^◌, ◌≤◌, ◌<◌, length, take}
use Rattle.lent.specs.Numbers.{be}
use Rattle.lent.specs.Parts.{part, patch}
use Rattle.level.specs.Levels.{split, join, width}
use Rattle.level.specs.Places.{levels_at}
use Rattle.held.specs.Order.{Filter}
use Rattle.held.specs.Ascending.{All}
use Rattle.held.specs.Bytes.{each}
use Rattle.held.specs.Forest.{Forest}
use Rattle.held.specs.Walks.{Hit, hash, kid}
use Rattle.held.specs.Stream.{one_of, record_at, hash_bytes, hash_count, walk_bytes, walk_count}
use Rattle.region.specs.Units.{value_bytes}
use Rattle.forest.specs.Places.{unit_at}
use Rattle.walk.specs.declared.Node.{Node}
use Rattle.walk.specs.declared.Measured.{Measured}
use Rattle.walk.specs.Height.{height_f}
use Rattle.walk.specs.Nodes.{ValuesStand, NodeHolds, NodeIs}
use Rattle.listing.specs.Trails.{path_at, whole_text}

-- ws is written from `at` on, where there is room, and `next` is the place after it
pub record Wrote (old new : List ℕ) (at : ℕ) (ws : List ℕ) (next : ℕ) : Type 0 where
  pub stored : at + length ws ≤ length old → new ≡ patch at ws old
  pub place : at + length ws ≤ length old → next ≡ at + length ws

-- so many records, which are these bytes, are written behind what was written before
pub record Added (old new : List ℕ) (a : Measured) (bs : List ℕ) (count : ℕ) (b : Measured) : Type 0 where
  pub wrote : Wrote old new a.bytes bs b.bytes
  pub records_are : a.bytes + length bs ≤ length old → b.records ≡ a.records + count

-- a level and the '/' after it
pub record WroteLevel (old new : List ℕ) (at : ℕ) (l : List ℕ) (next : ℕ) : Type 0 where
  pub stored : new ≡ patch at (l ++ 47 ∷ []) old
  pub place : next ≡ at + length l + 1

-- so many values, each in its unit
unfoldable pub unit_values : (base : ℕ) → List ℕ → (v n : ℕ) → List ℕ
unit_values base s v zero = []
unit_values base s v (suc n) = unit_values base s v n ++ be (part (unit_at base (v + n)) 4 s) ∷ []

-- the values that stand in the units from v up to e
pub record Values (base : ℕ) (s : List ℕ) (v e : ℕ) (own : List ℕ) : Type 0 where
  pub count : e ≡ v + length own
  pub few : length own < 65536
  pub units : part (unit_at base v) (length own * 16) s ≡ each value_bytes own
  pub small : All (λ x. x < 256 ^ 4) own

-- what the writing of a record needs, whatever the bytes are
pub record RecordRoom (base : ℕ) (s : List ℕ) (e text : ℕ) (name marks : List ℕ) (depth : ℕ) : Type 0 where
  pub units : unit_at base e ≤ length s
  pub short : text ≤ 4294967296
  pub deep : depth ≤ 128
  pub marked : length marks ≡ 128
  pub some : depth ≤ length (split name)
  pub text_fits : width (path_at marks depth name) ≤ text + 1

pub record HashRoom (size : ℕ) (name marks : List ℕ) (depth : ℕ) : Type 0 where
  pub short : size < 4294967296
  pub deep : depth ≤ 128
  pub marked : length marks ≡ 128
  pub some : depth ≤ length (split name)
  pub size_is : width (path_at marks depth name) ≡ size

-- their record, under a filter whose text is the first bytes of a whole text
pub record RecordWritten (base : ℕ) (s : List ℕ) (v e text : ℕ) (p : Filter) (old new : List ℕ) (a b : Measured) : Type 0 where
  pub within : b.bytes ≤ length old
  pub few : b.records ≤ b.bytes
  pub is : (own : List ℕ) → Values base s v e own → (f : Filter) → join f ≡ take text (whole_text p) → length (join f) ≡ text → Added old new a (record_at f own) (one_of own) b

-- the record of a '#' below a path
pub record HashWritten (base : ℕ) (s : List ℕ) (n : Option Node) (p : Filter) (old new : List ℕ) (a b : Measured) : Type 0 where
  pub within : b.bytes ≤ length old
  pub few : b.records ≤ b.bytes
  pub is : (d : ℕ) (h : Hit ℕ) → NodeIs base s d n h → Added old new a (hash_bytes p h) (hash_count h) b

-- the record of the '#' among the children of a node at a depth, which stand from lo up to hi
pub record BelowWritten (base : ℕ) (s : List ℕ) (lo hi depth : ℕ) (p : Filter) (old new : List ℕ) (a b : Measured) : Type 0 where
  pub within : b.bytes ≤ length old
  pub few : b.records ≤ b.bytes
  pub is : (F : Forest ℕ) → ValuesStand base s (depth + 1) lo hi F → depth + height_f F ≤ 128 → Added old new a (hash_bytes p (kid hash F)) (hash_count (kid hash F)) b

-- and before it the node's own
pub record EndWritten (base : ℕ) (s : List ℕ) (v e q depth : ℕ) (p : Filter) (old new : List ℕ) (a b : Measured) : Type 0 where
  pub within : b.bytes ≤ length old
  pub few : b.records ≤ b.bytes
  pub is : (own : List ℕ) (kids : Forest ℕ) → NodeHolds base s depth v e q own kids → Added old new a (record_at p own ++ hash_bytes p (kid hash kids)) (one_of own + hash_count (kid hash kids)) b

-- a walk from a node at a depth, with the name's levels from a place on; it may change the marks that are deeper
pub record Walked (base : ℕ) (s : List ℕ) (n : Option Node) (name marks kept : List ℕ) (depth from : ℕ) (old new : List ℕ) (a b : Measured) : Type 0 where
  pub within : b.bytes ≤ length old
  pub few : b.records ≤ b.bytes
  pub same : take depth kept ≡ take depth marks
  pub is : (h : Hit ℕ) → NodeIs base s depth n h → Added old new a (walk_bytes (path_at marks depth name) (levels_at name from) h) (walk_count (levels_at name from) h) b
