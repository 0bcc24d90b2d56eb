-- TO BELIEVE. What a C caller gives and is told by the calls on regions: capacities, and the bytes needed. Assumes nothing.
use Rattle.std.specs.Prelude.{Err, Ok, Result}
use Rattle.refusal.specs.declared.Refusal.{Refusal}
use Rattle.std.specs.Prelude.{ℕ}
use Rattle.refusal.specs.Refusals.{Told, ◌at◌, told}
use Rattle.held.specs.Room.{Room}

-- the capacities as a caller gives them
abbrev pub room_for : (nodes pairs cells : ℕ) → Room
room_for nodes pairs cells = record { nodes = nodes; pairs = pairs; cells = cells }

abbrev pub of_size : Result ℕ Refusal → Told
of_size (Ok n) = 0 at n
of_size (Err r) = told r
