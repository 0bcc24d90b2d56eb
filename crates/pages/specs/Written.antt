-- FOR THE CODE. What of a lookup is written into a buffer from a place on. Assumes nothing.
use Rattle.std.specs.Prelude.{◌≡◌, Bool, List, [], ◌∷◌, ◌++◌, ℕ, ◌+◌, ◌-◌, ◌≤◌, length, take}
use Rattle.lent.specs.Parts.{part}
use Rattle.held.specs.Order.{Level, Filter}
use Rattle.held.specs.Retained.{Stored, left, name_record}
use Rattle.held.specs.Forest.{Forest}
use Rattle.held.specs.Stream.{own_count, own_bytes, row_count}
use Rattle.region.specs.Units.{stored_of}
use Rattle.forest.specs.declared.Row.{Row}
use Rattle.forest.specs.Places.{unit_at}
use Rattle.listing.specs.Written.{Wrote}
use Rattle.lookup.specs.declared.Query.{Query}
use Rattle.lookup.specs.Standing.{Standing, OwnHolds, NodeHas}
use Rattle.lookup.specs.Spans.{Taken, barred_at}
use Rattle.lookup.specs.Turns.{row_asked, own_number, own_asked, node_number, node_asked, Rest}
use Rattle.pages.specs.declared.Ask.{Ask}
use Rattle.pages.specs.declared.Spot.{Spot}
use Rattle.pages.specs.Paths.{path_at}

-- the query of what is asked
abbrev pub query_of : Ask → Query
query_of a = record { clock = a.clock; offset = a.offset; limit = a.limit }

-- the record in a unit, with `ms` left, under the name p
pub record RecordWritten (base : ℕ) (s : List ℕ) (unit : ℕ) (p : Filter) (ms : ℕ) (old new : List ℕ) (at next : ℕ) : Type 0 where
  pub within : next ≤ length old
  pub is : (clock : ℕ) (x : Stored) → stored_of (part (unit_at base unit) 16 s) ≡ x → ms ≡ left clock x.moment → Wrote old new at (name_record clock (p, x)) next

-- these records, which are so many
pub record Given (old new : List ℕ) (a : Spot) (bs : List ℕ) (count : ℕ) (b : Spot) : Type 0 where
  pub wrote : Wrote old new a.at bs b.at
  pub number_is : b.number ≡ a.number + count

-- the record in a unit
pub record LiveWritten (q : Query) (base : ℕ) (s : List ℕ) (unit : ℕ) (p : Filter) (old new : List ℕ) (a b : Spot) : Type 0 where
  pub within : b.at ≤ length old
  pub most : b.number ≤ a.number + 1
  pub is : (x : Stored) → stored_of (part (unit_at base unit) 16 s) ≡ x → Given old new a (own_bytes q.clock q.offset q.limit a.number p (x ∷ [])) (own_count q.clock (x ∷ [])) b

-- what a node holds, with the levels gs left of the filter
pub record OwnWritten (q : Query) (base : ℕ) (s : List ℕ) (unit end : ℕ) (p gs : Filter) (old new : List ℕ) (a b : Spot) : Type 0 where
  pub within : b.at ≤ length old
  pub most : b.number ≤ a.number + 1
  pub is : (v : List Stored) → OwnHolds base s unit end v → Given old new a (own_asked q a.number p gs v) (own_number q gs v) b

-- a node and all below it; the rows of the path above it stay
pub record NodeWritten (q : Query) (base : ℕ) (s : List ℕ) (n left i : ℕ) (node : Row) (gs : Filter) (path kept old new : List ℕ) (a b : Spot) : Type 0 where
  pub within : b.at ≤ length old
  pub most : b.number ≤ node.past
  pub rows : length kept ≡ 128
  pub same : take (128 - left) kept ≡ take (128 - left) path
  pub is : (t : Level) (v : List Stored) (k : Forest Stored) → NodeHas base s left i node t v k
      → Given old new a (node_asked q a.number (path_at base s n path (128 - left) ++ t ∷ []) gs v k) (node_number q gs v k) b

-- along a row that has come to unit i
pub record Passed (q : Query) (b : Bool) (fs : Filter) (base : ℕ) (s : List ℕ) (left i hi : ℕ) (p : Filter) (G : Forest Stored) (old new : List ℕ) (first sum : Spot) : Type 0 where
  pub done : List ℕ
  pub rest : Rest q b fs base s left i hi p G first.number done sum.number
  pub wrote : Wrote old new first.at done sum.at

pub record RowTo (q : Query) (b : Bool) (fs : Filter) (base : ℕ) (s : List ℕ) (n left lo hi i : ℕ) (path kept old new : List ℕ) (first sum : Spot) : Type 0 where
  pub begun : lo ≤ i
  pub inside : i ≤ hi
  pub long : length new ≡ length old
  pub within : sum.at ≤ length old
  pub most : sum.number ≤ i
  pub same : take (128 - left) kept ≡ take (128 - left) path
  pub passed : (G : Forest Stored) → Standing base s left lo hi G → Taken fs G → Passed q b fs base s left i hi (path_at base s n path (128 - left)) G old new first sum

-- a row
pub record RowWritten (q : Query) (base : ℕ) (s : List ℕ) (n left lo hi : ℕ) (fs : Filter) (path kept old new : List ℕ) (a b : Spot) : Type 0 where
  pub within : b.at ≤ length old
  pub most : b.number ≤ hi
  pub rows : length kept ≡ 128
  pub same : take (128 - left) kept ≡ take (128 - left) path
  pub is : (F : Forest Stored) → Standing base s left lo hi F
      → Given old new a (row_asked q a.number (path_at base s n path (128 - left)) (barred_at left fs) fs F) (row_count q.clock (barred_at left fs) fs F) b
