-- FOR THE CODE. The rows of a region by the numbers of their units, which begin at a base. Assumes nothing.
use Rattle.std.specs.Prelude.{◌≡◌, ℕ, ◌+◌, ◌-◌, ◌*◌, ◌<◌, ◌≤◌, min, List}
use Rattle.lent.specs.Numbers.{be}
use Rattle.lent.specs.Parts.{part}
use Rattle.held.specs.Forest.{Forest}
use Rattle.region.specs.Layout.{units_for}
use Rattle.region.specs.Decode.{units_to, decode}
use Rattle.forest.specs.declared.Row.{Row}

-- where unit i stands
abbrev pub unit_at : (base i : ℕ) → ℕ
unit_at base i = base + i * 16

-- the forest in the units from i up to n
unfoldable pub forest_in : {X : Type 0} → (read : List ℕ → X) → (base : ℕ) → List ℕ → (i n : ℕ) → Forest X
forest_in read base s i n = decode read (part (unit_at base i) ((n - i) * 16) s)

-- the numbers of the head at unit i
abbrev pub len_at : (base : ℕ) → List ℕ → ℕ → ℕ
len_at base s i = be (part (unit_at base i) 2 s)

abbrev pub own_at : (base : ℕ) → List ℕ → ℕ → ℕ
own_at base s i = be (part (unit_at base i + 2) 2 s)

abbrev pub below_at : (base : ℕ) → List ℕ → ℕ → ℕ
below_at base s i = be (part (unit_at base i + 4) 2 s)

-- the units of the head and the level; the unit behind the row, and the unit behind all below it: none past n
abbrev pub level_units_at : (base : ℕ) → List ℕ → ℕ → ℕ
level_units_at base s i = units_for (len_at base s i)

unfoldable pub row_end : (base : ℕ) → List ℕ → (i n : ℕ) → ℕ
row_end base s i n = min (i + level_units_at base s i + own_at base s i) n

unfoldable pub kids_end : (base : ℕ) → List ℕ → (i n : ℕ) → ℕ
kids_end base s i n = min (row_end base s i n + below_at base s i) n

-- the level, and what the node holds, of the row at unit i: nothing past unit n
unfoldable pub level_in : (base : ℕ) → List ℕ → (i n : ℕ) → List ℕ
level_in base s i n = part (unit_at base i + 8) (min (len_at base s i) ((n - i) * 16 - 8)) s

unfoldable pub own_in : {X : Type 0} → (read : List ℕ → X) → (base : ℕ) → List ℕ → (i n : ℕ) → List X
own_in read base s i n = units_to read (own_at base s i) (part (unit_at base (i + level_units_at base s i)) ((n - (i + level_units_at base s i)) * 16) s)

-- a row as the code has it
pub record RowAt (base : ℕ) (s : List ℕ) (i n : ℕ) (r : Row) : Type 0 where
  pub len_is : r.len ≡ len_at base s i
  pub own_is : r.own ≡ own_at base s i
  pub end_is : r.end ≡ row_end base s i n
  pub past_is : r.past ≡ kids_end base s i n
  pub on : i < r.end
  pub within : r.end ≤ r.past
  pub last : r.past ≤ n
  pub short : r.len < 65536
