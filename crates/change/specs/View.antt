-- FOR THE PROOFS. What a region with room for R units has in its first n units, and in their marks. Assumes nothing.
use Rattle.std.specs.Prelude.{◌≡◌, ℕ, ◌+◌, ◌*◌, ◌≤◌, List, length}
use Rattle.lent.specs.Parts.{part}

pub record View (R : ℕ) (s : List ℕ) (n : ℕ) (marks units : List ℕ) : Type 0 where
  pub fits : n ≤ R
  pub long : 64 + 17 * R ≤ length s
  pub marks_are : part 64 n s ≡ marks
  pub units_are : part (64 + R) (n * 16) s ≡ units
