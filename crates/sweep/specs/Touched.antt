-- FOR THE CODE. Bytes that differ in some units and their marks alone. Assumes nothing.
use Rattle.std.specs.Prelude.{◌≡◌, ℕ, ◌+◌, ◌≤◌, List, length}
use Rattle.lent.specs.Parts.{part}
use Rattle.forest.specs.Places.{unit_at}

-- t is s but for the units from a up to b, and their marks
pub record Touched (base a b : ℕ) (s t : List ℕ) : Type 0 where
  pub long : length t ≡ length s
  pub before : (q w : ℕ) → q + w ≤ 64 + a → part q w t ≡ part q w s
  pub between : (q w : ℕ) → 64 + b ≤ q → q + w ≤ unit_at base a → part q w t ≡ part q w s
  pub behind : (q w : ℕ) → unit_at base b ≤ q → part q w t ≡ part q w s
