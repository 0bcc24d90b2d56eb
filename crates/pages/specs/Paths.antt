-- FOR THE CODE. The path of a walk by the first units of its rows: a name's levels stand there. Assumes nothing.
use Rattle.std.specs.Prelude.{◌≡◌, List, [], ◌∷◌, ℕ, ◌-◌, ◌*◌, ◌≤◌, ◌<◌, length, take, get_or}
use Rattle.level.specs.Levels.{width}
use Rattle.held.specs.Order.{Filter}
use Rattle.forest.specs.Places.{unit_at, level_in}

-- the levels of rows in the units before unit n
unfoldable pub levels_of : (base : ℕ) → List ℕ → (n : ℕ) → List ℕ → Filter
levels_of base s n [] = []
levels_of base s n (u ∷ us) = level_in base s u n ∷ levels_of base s n us

abbrev pub path_at : (base : ℕ) → List ℕ → (n : ℕ) → (path : List ℕ) (depth : ℕ) → Filter
path_at base s n path depth = levels_of base s n (take depth path)

-- its rows begin before unit n
pub record PathIn (base : ℕ) (s : List ℕ) (n : ℕ) (path : List ℕ) (depth : ℕ) : Type 0 where
  pub deep : depth ≤ 128
  pub long : length path ≡ 128
  pub units : unit_at base n ≤ length s
  pub rows : (j : ℕ) → j < depth → get_or path j 0 < n

-- a walk with so much left of 128 levels; the levels of its path take `size` bytes, each with the '/' after it
pub record Trail (base : ℕ) (s : List ℕ) (n : ℕ) (path : List ℕ) (left size : ℕ) : Type 0 where
  pub within : left ≤ 128
  pub path_in : PathIn base s n path (128 - left)
  pub size_is : width (path_at base s n path (128 - left)) ≡ size
  pub small : size ≤ 65536 * (128 - left)
