-- FOR THE PROOFS. A walk along a row that has come to a unit: what it has passed and what is left. Assumes nothing.
use Rattle.std.specs.Prelude.{◌≡◌, Bool, false, cond, List, [], ◌++◌, ℕ, ◌+◌, ◌-◌, ◌*◌, ◌≤◌, ◌<◌, length}
use Rattle.level.specs.Places.{levels_at}
use Rattle.topic.specs.Match.{takes}
use Rattle.held.specs.Order.{Filter}
use Rattle.held.specs.Retained.{Stored}
use Rattle.held.specs.Forest.{Forest}
use Rattle.held.specs.Walks.{onward}
use Rattle.held.specs.Stream.{own_count, own_bytes, row_count, row_bytes}
use Rattle.forest.specs.Places.{unit_at}
use Rattle.lookup.specs.declared.Query.{Query}
use Rattle.lookup.specs.Standing.{Standing}
use Rattle.lookup.specs.Spans.{Taken}

-- the records of a row below the path p, of which the first has the number i
abbrev pub row_asked : Query → (i : ℕ) → (p : Filter) → Bool → (fs : Filter) → Forest Stored → List ℕ
row_asked q i p b fs F = row_bytes q.clock q.offset q.limit i p b fs F

-- a node's own record, where the levels gs are left of the filter
unfoldable pub own_number : Query → (gs : Filter) → List Stored → ℕ
own_number q gs v = cond (takes gs []) (own_count q.clock v) 0

unfoldable pub own_asked : Query → (i : ℕ) → (p gs : Filter) → List Stored → List ℕ
own_asked q i p gs v = cond (takes gs []) (own_bytes q.clock q.offset q.limit i p v) []

-- a node at the path p: its own record, then those below it
unfoldable pub node_number : Query → (gs : Filter) → List Stored → Forest Stored → ℕ
node_number q gs v k = own_number q gs v + row_count q.clock false gs k

unfoldable pub node_asked : Query → (i : ℕ) → (p gs : Filter) → List Stored → Forest Stored → List ℕ
node_asked q i p gs v k = own_asked q i p gs v ++ row_asked q (i + own_number q gs v) p false gs k

-- whatever the bytes are, what a walk along the siblings before unit hi needs for its visits
pub record Ready (base : ℕ) (s : List ℕ) (left hi : ℕ) (filter : List ℕ) (from next size : ℕ) : Type 0 where
  pub units : unit_at base hi ≤ length s
  pub marks : 64 + hi ≤ base
  pub few : hi < 4294967296
  pub deep : left ≤ 128
  pub goes : levels_at filter next ≡ onward (levels_at filter from)
  pub within : next ≤ length filter + 1
  pub small : size ≤ 65536 * (128 - left)

-- of the row G, whose first record has the number `first`, the records `done` were passed; the next has the number i
pub record Rest (q : Query) (b : Bool) (fs : Filter) (base : ℕ) (s : List ℕ) (left unit hi : ℕ) (p : Filter) (G : Forest Stored) (first : ℕ) (done : List ℕ) (i : ℕ) : Type 0 where
  pub rest : Forest Stored
  pub stands : Standing base s left unit hi rest
  pub taken : Taken fs rest
  pub parts : row_asked q first p b fs G ≡ done ++ row_asked q i p b fs rest
  pub numbers : first + row_count q.clock b fs G ≡ i + row_count q.clock b fs rest
