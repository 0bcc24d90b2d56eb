-- FOR THE CODE. A level of a filter, and what is left of the filter below it. Assumes nothing.
use Rattle.std.specs.Prelude.{◌≡◌, List, ℕ, ◌+◌, ◌≤◌, length}
use Rattle.level.specs.Places.{levels_at}
use Rattle.topic.specs.Match.{lead_wild}
use Rattle.held.specs.Walks.{onward}
use Rattle.walk.specs.Steps.{NextLevel}
use Rattle.lookup.specs.declared.Step.{Step}

-- the level that begins at a place
pub record StepOf (filter : List ℕ) (from : ℕ) (r : Step) : Type 0 where
  pub level : NextLevel filter from r.stop
  pub goes : levels_at filter r.next ≡ onward (levels_at filter from)
  pub within : r.next ≤ length filter + 1
  pub wild_is : r.wild ≡ lead_wild (levels_at filter from)
