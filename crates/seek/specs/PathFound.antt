-- FOR THE CODE. The nodes of the levels of a text, as far as a region has them. Assumes nothing.
use Rattle.std.specs.Prelude.{◌≡◌, ℕ, ◌+◌, ◌≤◌, ◌<◌, List, length, take, get_or}
use Rattle.level.specs.Levels.{split}
use Rattle.level.specs.Places.{levels_at}
use Rattle.held.specs.Forest.{Forest}
use Rattle.held.specs.Edit.{missing}
use Rattle.forest.specs.Stands.{raw_in, RawStands}
use Rattle.forest.specs.Paths.{nodes_at, spot_at}
use Rattle.seek.specs.declared.Path.{Path}

-- in a forest whose units begin at unit 0
pub record PathOf {X : Type 0} (F : Forest X) (text : List ℕ) (p : Path) : Type 0 where
  pub nodes_are : take p.depth p.nodes ≡ nodes_at (split text) 0 F
  pub place_is : p.place ≡ spot_at (split text) 0 F
  pub rest_is : levels_at text p.from ≡ missing (split text) F

-- in the units from 0 up to n, whatever their bytes are; and what is so where a forest stands there
pub record PathFound (base : ℕ) (s : List ℕ) (n : ℕ) (text : List ℕ) (p : Path) : Type 0 where
  pub few : p.depth ≤ 128
  pub place_in : p.place ≤ n
  pub from_in : p.from ≤ length text + 1
  pub count : p.depth + length (levels_at text p.from) ≡ length (split text)
  pub nodes_in : (j : ℕ) → j < p.depth → get_or p.nodes j 0 < n
  pub stands : RawStands base s 1 0 n → length (split text) ≤ 128 → PathOf (raw_in base s 0 n) text p
