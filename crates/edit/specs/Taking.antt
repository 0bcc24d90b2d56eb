-- FOR THE CODE. What taking away from a region answers and leaves, by its tests. Assumes nothing.
use Rattle.std.specs.Prelude.{Err, Ok, Result}
use Rattle.refusal.specs.declared.Refusal.{Refusal}
use Rattle.std.specs.Prelude.{ℕ, ◌+◌, ◌≤◌, ◌<◌, Bool, ◌&&◌, List, eqb, take, get_or}
use Rattle.refusal.specs.declared.Refusal.TheVariants.{NotAStore}
use Rattle.level.specs.Levels.{start_of}
use Rattle.level.specs.Places.{levels_at}
use Rattle.forest.specs.Places.{own_at, row_end, kids_end}
use Rattle.room.specs.declared.Load.{Load}
use Rattle.room.specs.Runs.{WantedFor}
use Rattle.room.specs.Changes.{taken_chain, taken_unit}
use Rattle.room.specs.Stay.{staying}

-- a node that holds one unit and has no child
abbrev pub alone_in : (base : ℕ) → List ℕ → (n node : ℕ) → Bool
alone_in base s n node = eqb (own_at base s node) 1 && eqb (row_end base s node n) (kids_end base s node n)

-- units taken away, which is answered by a number, or they do not lie in the region
pub data Taken (s : List ℕ) (n end answer : ℕ) (made : List ℕ) : List ℕ → Result ℕ Refusal → Type 0 where
  no_units : n < end → Taken s n end answer made s (Err NotAStore)
  taken : end ≤ n → Taken s n end answer made made (Ok answer)

-- the nodes of a path that go: all but those that stay
abbrev pub stays : (base : ℕ) → List ℕ → ℕ → List ℕ → ℕ → ℕ
stays base s n nodes depth = staying base s n (take depth nodes)

pub record PathTaken (s : List ℕ) (base n : ℕ) (nodes : List ℕ) (depth : ℕ) (f : List ℕ) (answer : ℕ) (t : List ℕ) (r : Result ℕ Refusal) : Type 0 where
  pub load : Load
  pub wanted : WantedFor (levels_at f (start_of f (stays base s n nodes depth))) load
  pub takes : Taken s n (get_or nodes (stays base s n nodes depth) 0 + load.units) answer
      (taken_chain base n (take (stays base s n nodes depth) nodes) (get_or nodes (stays base s n nodes depth) 0) load s) t r

-- one unit of a node
abbrev pub OneLess : List ℕ → (base n : ℕ) → List ℕ → (node at answer : ℕ) → List ℕ → Result ℕ Refusal → Type 0
OneLess s base n nodes node at answer t r = Taken s n (at + 1) answer (taken_unit base n nodes node at s) t r
