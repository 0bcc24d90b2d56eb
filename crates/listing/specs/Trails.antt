-- FOR THE CODE. The path of a walk by the name's levels and a mark for each: a level with a mark was taken by '+'. Assumes nothing.
use Rattle.std.specs.Prelude.{◌≡◌, cond, List, [], ◌∷◌, ◌++◌, ℕ, ◌+◌, ◌*◌, ◌≤◌, eqb, length, take, drop}
use Rattle.level.specs.Levels.{split, width}
use Rattle.level.specs.Places.{levels_at}
use Rattle.held.specs.Order.{Level, Filter}
use Rattle.held.specs.Walks.{hash, plus}

-- what was taken of a level of the name
abbrev pub taken : (mark : ℕ) → Level → Level
taken mark l = cond (eqb mark 0) l plus

unfoldable pub path_of : (marks : List ℕ) → Filter → Filter
path_of [] ls = []
path_of (m ∷ ms) [] = []
path_of (m ∷ ms) (l ∷ ls) = taken m l ∷ path_of ms ls

-- the path at a depth
abbrev pub path_at : (marks : List ℕ) (depth : ℕ) (name : List ℕ) → Filter
path_at marks depth name = path_of (take depth marks) (split name)

-- levels, each with a '/' after it
unfoldable pub slashed : Filter → List ℕ
slashed [] = []
slashed (l ∷ ls) = l ++ (47 ∷ slashed ls)

-- a path's text and '/#': the text of its '#', and but for these two bytes its own
abbrev pub whole_text : Filter → List ℕ
whole_text p = slashed p ++ hash

-- a walk at a depth of its path, with the levels of the name from a place on; the path's levels take `size` bytes
pub record Trail (name marks : List ℕ) (depth from size : ℕ) : Type 0 where
  pub deep : depth ≤ 128
  pub some : depth ≤ length (split name)
  pub levels : levels_at name from ≡ drop depth (split name)
  pub size_is : width (path_at marks depth name) ≡ size
  pub marked : length marks ≡ 128
  pub high : from ≤ length name + 1
  pub small : size ≤ 2 * from
  pub short : length name ≤ 65535
