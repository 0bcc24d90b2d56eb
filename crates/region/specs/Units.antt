-- TO BELIEVE. The unit of 16 bytes that a node has for a value, and for the record of a name. Assumes nothing.
use Rattle.std.specs.Prelude.{ℕ, cond, List, ◌∷◌, ◌++◌, eqb, get_or, replicate}
use Rattle.std.proofs.Math.Option.{Option, none, some}
use Rattle.lent.specs.Numbers.{bytes, be}
use Rattle.lent.specs.Parts.{part}
use Rattle.held.specs.Retained.{Stored}

-- a value: 4 bytes, then 0
unfoldable pub value_bytes : ℕ → List ℕ
value_bytes v = bytes 4 v ++ replicate 12 0

unfoldable pub value_of : List ℕ → ℕ
value_of w = be (part 0 4 w)

-- a record: its handle in 4 bytes, 1 if it has a moment and 0 if not, three bytes 0, the moment in 8 bytes
abbrev pub moment_bytes : Option ℕ → List ℕ
moment_bytes none = 0 ∷ 0 ∷ 0 ∷ 0 ∷ bytes 8 0
moment_bytes (some m) = 1 ∷ 0 ∷ 0 ∷ 0 ∷ bytes 8 m

unfoldable pub stored_bytes : Stored → List ℕ
stored_bytes s = bytes 4 s.handle ++ moment_bytes s.moment

unfoldable pub stored_of : List ℕ → Stored
stored_of w = record { handle = be (part 0 4 w); moment = cond (eqb (get_or w 4 0) 1) (some (be (part 8 8 w))) none }
