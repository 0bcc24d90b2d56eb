-- FOR THE CODE. How long a listing can be at most, by the units and by the levels of the name. Assumes nothing.
use Rattle.std.specs.Prelude.{ℕ, zero, suc, ◌+◌, ◌*◌, ◌≤◌, List, length}
use Rattle.level.specs.Levels.{split}
use Rattle.held.specs.Forest.{Forest}
use Rattle.held.specs.Edit.{Plain}
use Rattle.held.specs.Stream.{list_bytes}
use Rattle.region.specs.Layout.{units_f}

-- the most records for a name of so many levels: at its end a node and its '#'; before that a '#', what '+' takes, and what the level
-- takes
abbrev pub most_records : ℕ → ℕ
most_records zero = 2
most_records (suc k) = 2 * most_records k + 1

-- no listing for a name, from at most n units, has more bytes
pub record AtMost (n : ℕ) (name : List ℕ) (bytes : ℕ) : Type 0 where
  pub is : (F : Forest ℕ) → units_f F ≤ n → Plain (split name) → length (list_bytes (split name) F) ≤ bytes
