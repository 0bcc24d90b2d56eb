-- `level::level_start` meets its contract: `at` is where level j begins. Assumes nothing.
use mathlib.Core.Path.{◌≡◌}
use Prim.Native.Nat.{◌≤◌}
use Rattle.level.specs.Levels.{start_of}
use Rattle.level.proofs.level_start.Given as goal

abbrev pub invariant-loop : goal.invariant-loop
invariant-loop l = (l.at ≡ start_of l.text l.counter) × (l.counter ≤ l.k)
