-- FOR THE CODE. The time that a record has left. Assumes nothing.
use Rattle.std.specs.Prelude.{None, Option, Some}
use Rattle.std.specs.Prelude.{ℕ, cond}
use Rattle.held.specs.Retained.{Stored, unexpired, left}

unfoldable pub life_of : (clock : ℕ) → Stored → Option ℕ
life_of clock x = cond (unexpired clock x) (Some (left clock x.moment)) None
