-- TO BELIEVE. Numbers as bytes (document 01, 'Orders and records': "All numbers high byte first."). Assumes nothing.
use Rattle.std.specs.Prelude.{ℕ, zero, suc, ◌+◌, ◌*◌, ◌/◌, ◌%◌, ◌^◌, ◌<◌, List, [], ◌∷◌, ◌++◌, length, get_or}

-- a number in w bytes: its w low ones
unfoldable pub bytes : ℕ → ℕ → List ℕ
bytes zero x = []
bytes (suc w) x = bytes w (x / 256) ++ (x % 256 ∷ [])

-- the number that bytes stand for (`be-bytes` of proofs/Digits.antt: the two undo each other)
unfoldable pub be : List ℕ → ℕ
be [] = 0
be (b ∷ bs) = b * 256 ^ length bs + be bs

-- every element is a byte, as in any slice that is lent
abbrev pub AreBytes : List ℕ → Type 0
AreBytes s = (i : ℕ) → get_or s i 0 < 256
