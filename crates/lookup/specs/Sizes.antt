-- FOR THE CODE. What the records of a lookup take. A record takes at most 8388624 bytes, 16 and 65536 for each of 128 levels, and
-- each stands in a unit of its own: so no sum passes 64 bits. Assumes nothing.
use Rattle.std.specs.Prelude.{◌≡◌, Bool, List, [], ◌∷◌, ◌++◌, ℕ, ◌+◌, ◌-◌, ◌*◌, ◌≤◌, min, length}
use Rattle.lent.specs.Parts.{part}
use Rattle.level.specs.Levels.{join, width}
use Rattle.topic.specs.Match.{lead_wild}
use Rattle.held.specs.Order.{Level, Filter}
use Rattle.held.specs.Retained.{Stored}
use Rattle.held.specs.Forest.{Forest}
use Rattle.held.specs.Stream.{own_count, own_bytes, row_count, row_bytes}
use Rattle.region.specs.Units.{stored_of}
use Rattle.forest.specs.declared.Row.{Row}
use Rattle.forest.specs.Places.{unit_at}
use Rattle.lookup.specs.declared.Query.{Query}
use Rattle.lookup.specs.declared.Tally.{Tally}
use Rattle.lookup.specs.declared.Found.{Found}
use Rattle.lookup.specs.Standing.{stored_in, Looked, Standing, OwnHolds, NodeHas}
use Rattle.lookup.specs.Spans.{Taken, barred_at}
use Rattle.lookup.specs.Turns.{row_asked, own_number, own_asked, node_number, node_asked, Rest}

-- what was passed before, and these bytes and so many records more
pub record Told (before : Tally) (bytes : List ℕ) (count : ℕ) (r : Tally) : Type 0 where
  pub bytes_are : r.bytes ≡ before.bytes + length bytes
  pub total_is : r.total ≡ before.total + count

-- with the record in unit `at`, under a name of `text` bytes
pub record LiveTold (q : Query) (before : Tally) (base : ℕ) (s : List ℕ) (at text : ℕ) (r : Tally) : Type 0 where
  pub total_most : r.total ≤ before.total + 1
  pub bytes_most : r.bytes ≤ before.bytes + 16 + text
  pub told : (p : Filter) → length (join p) ≡ text → (x : Stored) → stored_of (part (unit_at base at) 16 s) ≡ x
      → Told before (own_bytes q.clock q.offset q.limit before.total p (x ∷ [])) (own_count q.clock (x ∷ [])) r

-- with what a node holds, which stands from unit `at` up to unit `end`, under a name of `text` bytes
pub record OwnTold (q : Query) (before : Tally) (base : ℕ) (s : List ℕ) (at end : ℕ) (gs : Filter) (text : ℕ) (r : Tally) : Type 0 where
  pub total_most : r.total ≤ before.total + 1
  pub bytes_most : r.bytes ≤ before.bytes + 16 + text
  pub told : (v : List Stored) → OwnHolds base s at end v → (p : Filter) → length (join p) ≡ text → Told before (own_asked q before.total p gs v) (own_number q gs v) r

-- with the node at unit i and all below it; its path, but for its own level, takes `size` bytes
pub record NodeTold (q : Query) (before : Tally) (base : ℕ) (s : List ℕ) (left i : ℕ) (node : Row) (gs : Filter) (size : ℕ) (r : Tally) : Type 0 where
  pub total_most : r.total ≤ node.past
  pub bytes_most : r.bytes ≤ 8388624 * node.past
  pub told : (t : Level) (v : List Stored) (k : Forest Stored) → NodeHas base s left i node t v k → (p : Filter) → width p ≡ size
      → Told before (node_asked q before.total (p ++ t ∷ []) gs v k) (node_number q gs v k) r

-- along a row that has come to unit i
pub record Passed (q : Query) (b : Bool) (fs : Filter) (base : ℕ) (s : List ℕ) (left i hi : ℕ) (p : Filter) (G : Forest Stored) (before sum : Tally) : Type 0 where
  pub done : List ℕ
  pub rest : Rest q b fs base s left i hi p G before.total done sum.total
  pub bytes_are : sum.bytes ≡ before.bytes + length done

pub record RowTo (q : Query) (before : Tally) (b : Bool) (fs : Filter) (base : ℕ) (s : List ℕ) (left lo hi i size : ℕ) (sum : Tally) : Type 0 where
  pub begun : lo ≤ i
  pub within : i ≤ hi
  pub total_most : sum.total ≤ i
  pub bytes_most : sum.bytes ≤ 8388624 * i
  pub passed : (G : Forest Stored) → Standing base s left lo hi G → Taken fs G → (p : Filter) → width p ≡ size → Passed q b fs base s left i hi p G before sum

-- with a row, below a path whose levels take `size` bytes
pub record RowTold (q : Query) (before : Tally) (base : ℕ) (s : List ℕ) (left lo hi : ℕ) (fs : Filter) (size : ℕ) (r : Tally) : Type 0 where
  pub total_most : r.total ≤ hi
  pub bytes_most : r.bytes ≤ 8388624 * hi
  pub told : (F : Forest Stored) → Standing base s left lo hi F → (p : Filter) → width p ≡ size
      → Told before (row_asked q before.total p (barred_at left fs) fs F) (row_count q.clock (barred_at left fs) fs F) r

-- what a lookup of the filter f takes in the units from 0 up to n, if a forest stands there as it must
pub record Measured (clock offset limit base : ℕ) (s : List ℕ) (n : ℕ) (f : Filter) (r : Found) : Type 0 where
  pub bytes_are : Looked base s n → r.bytes ≡ length (row_bytes clock offset limit 0 [] (lead_wild f) f (stored_in base s n))
  pub total_is : Looked base s n → r.total ≡ row_count clock (lead_wild f) f (stored_in base s n)
  pub records_are : r.records ≡ min limit (r.total - offset)
  pub few : r.total ≤ n
