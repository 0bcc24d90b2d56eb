-- FOR THE CODE. Where a listing's walk begins. Assumes nothing.
use Rattle.std.specs.Prelude.{◌≡◌, ℕ, ◌+◌, ◌≤◌, List, length, take, drop}
use Rattle.level.specs.Levels.{split, width}
use Rattle.level.specs.Places.{levels_at}
use Rattle.held.specs.Walks.{Hit}
use Rattle.held.specs.Stream.{walk_hit, list_hit, walk_count, list_count, walk_bytes, list_bytes}
use Rattle.walk.specs.declared.Start.{Start}
use Rattle.walk.specs.Nodes.{values_in, Listed, NodeIn, NodeIs}

-- the listing is the walk from there, at the path of the name's first levels
pub record Begun (base : ℕ) (s : List ℕ) (n : ℕ) (name : List ℕ) (t : Start) : Type 0 where
  pub at : Hit ℕ
  pub at_is : NodeIs base s t.depth t.node at
  pub hit_is : list_hit (split name) (values_in base s n) ≡ walk_hit (levels_at name t.from) at
  pub count_is : list_count (split name) (values_in base s n) ≡ walk_count (levels_at name t.from) at
  pub bytes_are : list_bytes (split name) (values_in base s n) ≡ walk_bytes (take t.depth (split name)) (levels_at name t.from) at

pub record Started (base : ℕ) (s : List ℕ) (n : ℕ) (name : List ℕ) (t : Start) : Type 0 where
  pub inside : NodeIn base s t.node
  pub few : t.depth ≤ 1
  pub low : t.depth ≤ t.from
  pub high : t.from ≤ length name + 1
  pub some : t.depth ≤ length (split name)
  pub levels : levels_at name t.from ≡ drop t.depth (split name)
  pub size_is : width (take t.depth (split name)) ≡ t.from
  pub begun : Listed base s n → Begun base s n name t
