-- TO BELIEVE. A part of lent bytes, and bytes with a part written over. Assumes nothing.
use Rattle.std.specs.Prelude.{ℕ, ◌+◌, List, ◌++◌, length, take, drop}

-- the w bytes of s from place p on
unfoldable pub part : ℕ → ℕ → List ℕ → List ℕ
part p w s = take w (drop p s)

-- s with v written over what stands from place p on
unfoldable pub patch : ℕ → List ℕ → List ℕ → List ℕ
patch p v s = take p s ++ v ++ drop (p + length v) s
