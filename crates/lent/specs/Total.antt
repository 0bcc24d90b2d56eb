-- FOR THE CODE. Reads, writes and moves at any place, also one that was read from bytes that cannot be trusted: what does
-- not fit reads as 0 and writes nothing; and bytes that differ in one part alone. Assumes nothing.
use Rattle.std.specs.Prelude.{◌≡◌, ℕ, ◌+◌, ◌-◌, cond, List, length, take, drop, leb}
use Rattle.lent.specs.Numbers.{be}
use Rattle.lent.specs.Parts.{part, patch}

-- the number of w bytes at place p
unfoldable pub read : ℕ → ℕ → List ℕ → ℕ
read w p s = cond (leb (p + w) (length s)) (be (part p w s)) 0

-- v written at place p
unfoldable pub write : ℕ → List ℕ → List ℕ → List ℕ
write p v s = cond (leb (p + length v) (length s)) (patch p v s) s

-- the bytes from place at to place end, moved up by `by`, and down by `by` from where such a move would have put them
unfoldable pub opened : ℕ → ℕ → ℕ → List ℕ → List ℕ
opened at end by s = cond (leb (end + by) (length s)) (patch (at + by) (part at (end - at) s) s) s

unfoldable pub closed : ℕ → ℕ → ℕ → List ℕ → List ℕ
closed at end by s = cond (leb (end + by) (length s)) (patch at (part (at + by) (end - at) s) s) s

-- t is s but for what stands from place a to place b
pub record Framed (a b : ℕ) (s t : List ℕ) : Type 0 where
  pub front : take a t ≡ take a s
  pub back : drop b t ≡ drop b s
  pub long : length t ≡ length s
