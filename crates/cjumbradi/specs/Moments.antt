-- TO BELIEVE. The moment of a record as a C caller gives it: a number that is 0 for none, and the moment. Assumes nothing.
use Rattle.std.specs.Prelude.{None, Option, Some}
use Rattle.std.specs.Prelude.{ℕ, cond, eqb}

unfoldable pub given_moment : (expires moment : ℕ) → Option ℕ
given_moment expires moment = cond (eqb expires 0) None (Some moment)
