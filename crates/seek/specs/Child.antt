-- FOR THE CODE. The child of a row with a level, by its units: where it stands, or where it would. Assumes nothing.
use Rattle.std.specs.Prelude.{ℕ, ◌+◌, ◌≤◌, ◌<◌, max, Result, Ok, Err}
use Rattle.held.specs.Order.{Level}
use Rattle.held.specs.Forest.{Forest}
use Rattle.held.specs.Walks.{kid}
use Rattle.region.specs.Layout.{row_units, units_f}
use Rattle.forest.specs.Paths.{seek_at, on_hit}
use Rattle.seek.specs.declared.Child.{Child}

-- one whose first unit is i, with the unit behind its row, and the unit behind all below it
abbrev pub child_at : (i e p : ℕ) → Result Child ℕ
child_at i e p = Ok (record { node = i; end = e; past = p })

-- in a row whose units begin at a unit
unfoldable pub child_of : {X : Type 0} → Level → ℕ → Forest X → Result Child ℕ
child_of g at F =
    on_hit (kid g F) (Err (seek_at g at F))
    (λ v k. child_at (seek_at g at F) (seek_at g at F + row_units g v) (seek_at g at F + row_units g v + units_f k))

-- whatever the bytes are, the answer stays in the units from lo up to hi
abbrev pub Inside : (lo hi : ℕ) → Result Child ℕ → Type 0
Inside lo hi (Ok c) = (lo ≤ c.node) × (c.node < c.end) × (c.end ≤ c.past) × (c.past ≤ hi)
Inside lo hi (Err i) = (lo ≤ i) × (i ≤ max lo hi)
