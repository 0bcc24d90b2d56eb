-- FOR THE CODE. What adding to a region answers and leaves, by its tests. Assumes nothing.
use Rattle.std.specs.Prelude.{Err, Ok, Result, ⊤}
use Rattle.std.specs.Prelude.{◌≡◌, ℕ, ◌+◌, ◌≤◌, ◌<◌, false, List, take}
use Rattle.refusal.specs.declared.Refusal.{Refusal}
use Rattle.refusal.specs.declared.Refusal.TheVariants.{NotAStore}
use Rattle.lent.specs.Total.{read}
use Rattle.topic.specs.Answers.{checked}
use Rattle.held.specs.Room.{full_rules}
use Rattle.level.specs.Places.{levels_at}
use Rattle.region.specs.Store.{room_at}
use Rattle.seek.specs.declared.Path.{Path}
use Rattle.room.specs.declared.Load.{Load}
use Rattle.room.specs.Runs.{WantedFor}
use Rattle.room.specs.Changes.{made_chain}

-- whether so many nodes, a pair and so many cells more fit, by the counts of the header
abbrev pub fitting : List ℕ → (nodes cells : ℕ) → Result ⊤ Refusal
fitting s nodes cells = checked (full_rules (room_at s) false (read 2 10 s + nodes) (read 2 12 s + 1) (read 2 14 s + cells))

-- a unit, or new nodes with one: refused for room, or because so many units do not fit; or made
pub data Added (s : List ℕ) (n room nodes cells units : ℕ) (made : List ℕ) : List ℕ → Result ℕ Refusal → Type 0 where
  no_fit : {r : Refusal} → fitting s nodes cells ≡ Err r → Added s n room nodes cells units made s (Err r)
  no-room : fitting s nodes cells ≡ Ok tt → room < n + units → Added s n room nodes cells units made s (Err NotAStore)
  added : fitting s nodes cells ≡ Ok tt → n + units ≤ room → Added s n room nodes cells units made made (Ok 1)

-- new nodes for the levels that are missing from a path
pub record ChainAdded (s : List ℕ) (base n room : ℕ) (p : Path) (f unit t : List ℕ) (r : Result ℕ Refusal) : Type 0 where
  pub load : Load
  pub wanted : WantedFor (levels_at f p.from) load
  pub adds : Added s n room load.nodes load.cells load.units
      (made_chain base n (take p.depth p.nodes) p.place (p.depth + 1) (unit) (levels_at f p.from) load s) t r
