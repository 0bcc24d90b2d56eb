-- FOR THE CODE. The levels of a name that a walk has before it. Assumes nothing.
use Rattle.std.specs.Prelude.{◌≡◌, List, ◌∷◌, ℕ, ◌+◌, ◌-◌, ◌*◌, ◌≤◌, length, take, drop}
use Rattle.level.specs.Places.{levels_at}
use Rattle.held.specs.Walks.{plus}
use Rattle.walk.specs.declared.Step.{Step}
use Rattle.walk.specs.Nodes.{Kid}

-- at a depth, with the levels from a place on
pub record Steps (name : List ℕ) (depth from : ℕ) : Type 0 where
  pub low : depth ≤ from
  pub high : from ≤ length name + 1

-- a name of at most 65535 bytes, and the bytes that the levels of a path take, each with the '/' after it: a '+' may take more than
-- the name's level
pub record Sizing (name : List ℕ) (from size : ℕ) : Type 0 where
  pub small : size ≤ 2 * from
  pub short : length name ≤ 65535

-- the level that begins at a place ends at another
pub record NextLevel (name : List ℕ) (from stop : ℕ) : Type 0 where
  pub levels : levels_at name from ≡ take (stop - from) (drop from name) ∷ levels_at name (stop + 1)
  pub long : length (take (stop - from) (drop from name)) ≡ stop - from
  pub on : from ≤ stop
  pub within : stop ≤ length name

-- the children of a node at depth d that a walk goes on to: '+', and the name's level
pub record StepTo (base : ℕ) (s : List ℕ) (d lo hi : ℕ) (name : List ℕ) (from : ℕ) (t : Step) : Type 0 where
  pub next : NextLevel name from t.stop
  pub any : Kid base s d lo hi plus t.any
  pub own : Kid base s d lo hi (take (t.stop - from) (drop from name)) t.own
