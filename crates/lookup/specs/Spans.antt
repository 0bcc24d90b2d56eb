-- FOR THE CODE. The siblings of a row that a filter's level may take. Assumes nothing.
use Rattle.std.specs.Prelude.{◌≡◌, Bool, true, ◌&&◌, List, ℕ, ◌+◌, ◌≤◌, eqb, length}
use Rattle.level.specs.Places.{levels_at}
use Rattle.topic.specs.Match.{lead_wild}
use Rattle.held.specs.Order.{Filter}
use Rattle.held.specs.Retained.{Stored}
use Rattle.held.specs.Forest.{Forest, leaf, fork}
use Rattle.held.specs.Walks.{fits, onward}
use Rattle.held.specs.Stream.{row_count, row_bytes}
use Rattle.lookup.specs.declared.Span.{Span}
use Rattle.lookup.specs.declared.Along.{Along}
use Rattle.lookup.specs.Standing.{Standing}

-- the filter's first level takes every node of a row
abbrev pub Taken : Filter → Forest Stored → Type 0
Taken fs leaf = Unit {0}
Taken fs (fork t v k n) = (fits fs t ≡ true) × Taken fs n

-- a walk over the row F is one over these of its nodes, which stand in the units from lo up to hi
pub record SpanOf (base : ℕ) (s : List ℕ) (left : ℕ) (fs : Filter) (F : Forest Stored) (lo hi : ℕ) : Type 0 where
  pub nodes : Forest Stored
  pub stands : Standing base s left lo hi nodes
  pub taken : Taken fs nodes
  pub count_is : (now : ℕ) (b : Bool) → row_count now b fs F ≡ row_count now b fs nodes
  pub bytes_are : (now o l i : ℕ) (p : Filter) (b : Bool) → row_bytes now o l i p b fs F ≡ row_bytes now o l i p b fs nodes

pub record Spanned (base : ℕ) (s : List ℕ) (left lo hi : ℕ) (fs : Filter) (r : Span) : Type 0 where
  pub begun : lo ≤ r.lo
  pub on : r.lo ≤ r.hi
  pub within : r.hi ≤ hi
  pub is : (F : Forest Stored) → Standing base s left lo hi F → SpanOf base s left fs F r.lo r.hi

-- names with a leading '$' are barred in the first row, under a wildcard
abbrev pub barred_at : (left : ℕ) → Filter → Bool
barred_at left fs = eqb left 128 && lead_wild fs

-- how a row is walked, with the levels of the filter from a place on
pub record AlongOf (base : ℕ) (s : List ℕ) (left lo hi : ℕ) (filter : List ℕ) (from : ℕ) (r : Along) : Type 0 where
  pub begun : lo ≤ r.lo
  pub on : r.lo ≤ r.hi
  pub within : r.hi ≤ hi
  pub goes : levels_at filter r.next ≡ onward (levels_at filter from)
  pub next_in : r.next ≤ length filter + 1
  pub barred_is : r.barred ≡ barred_at left (levels_at filter from)
  pub is : (F : Forest Stored) → Standing base s left lo hi F → SpanOf base s left (levels_at filter from) F r.lo r.hi
