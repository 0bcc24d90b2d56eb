-- FOR THE CODE. One row of a sweep: whether its record stays, its units moved down, and the node counted. Assumes nothing.
use Rattle.std.specs.Prelude.{◌≡◌, ℕ, ◌+◌, ◌-◌, ◌*◌, ◌/◌, ◌≤◌, ◌<◌, min, Bool, cond, List, ◌∷◌, eqb, length, replicate}
use Rattle.lent.specs.Parts.{part, patch}
use Rattle.held.specs.Room.{level_cells}
use Rattle.held.specs.Retained.{unexpired}
use Rattle.region.specs.Units.{stored_of}
use Rattle.forest.specs.declared.Row.{Row}
use Rattle.forest.specs.Places.{unit_at, level_in}
use Rattle.sweep.specs.declared.Kept.{Kept}
use Rattle.sweep.specs.declared.Stay.{Stay}

abbrev pub one_if : Bool → ℕ
one_if b = cond b 1 0

-- how many records stay of the one in unit `at`, which is there if that is before unit `end`
pub record StaysAt (clock base : ℕ) (s : List ℕ) (at end r : ℕ) : Type 0 where
  pub within : at + r ≤ end
  pub one : r ≤ 1
  pub stays : at < end → r ≡ one_if (unexpired clock (stored_of (part (unit_at base at) 16 s)))

-- `row` units moved down from unit i to unit `to`, with the marks of a row at depth d
unfoldable pub row_moved : (base i to row d : ℕ) → List ℕ → List ℕ
row_moved base i to row d s = patch (64 + to) (d ∷ replicate (row - 1) 255) (patch (unit_at base to) (part (unit_at base i) (row * 16) s) s)

-- a node whose row is moved down to unit `to`
pub record Begun (clock base d i hi : ℕ) (row : Row) (to : ℕ) (s t : List ℕ) (r : Stay) : Type 0 where
  pub units_are : r.units ≡ min ((row.len + 23) / 16) (row.end - i)
  pub stays : StaysAt clock base s (i + r.units) row.end r.own
  pub cells_are : r.cells ≡ level_cells (level_in base s i hi)
  pub cells_few : r.cells ≤ 4096
  pub moved : t ≡ row_moved base i to (r.units + r.own) d s
  pub long : length t ≡ length s
  pub some : 0 < r.units
  pub fits : i + r.units + r.own ≤ row.end
  pub one : r.own ≤ 1

-- what stays with a node, if it holds a record or has a child
unfoldable pub ended : (kept : Kept) (stay : Stay) (below : Kept) → Kept
ended a r b =
    cond (eqb (r.own + (b.to - (a.to + r.units + r.own))) 0) a
    (record { to = b.to; nodes = a.nodes + b.nodes + 1; pairs = a.pairs + b.pairs + r.own; cells = a.cells + b.cells + r.cells })
