-- TO BELIEVE. The forest that units hold, whatever their bytes are: a level and the rows below are cut off at the end, and a
-- unit past the end is read as one of no bytes, so every list of bytes is some forest. `decode_units` of proofs/Decoded.antt:
-- what was written down is read back. Assumes nothing.
use Rattle.std.specs.Prelude.{ℕ, zero, suc, ◌+◌, ◌*◌, List, [], ◌∷◌, length, take, drop}
use Rattle.lent.specs.Numbers.{be}
use Rattle.lent.specs.Parts.{part}
use Rattle.held.specs.Forest.{Forest, leaf, fork}
use Rattle.region.specs.Layout.{units_for}

-- the numbers of a row's head: its level's length, how many it holds, the units below it
abbrev pub len_of : List ℕ → ℕ
len_of w = be (part 0 2 w)

abbrev pub own_of : List ℕ → ℕ
own_of w = be (part 2 2 w)

abbrev pub below_of : List ℕ → ℕ
below_of w = be (part 4 2 w)

-- as many units as a number says, read one by one
unfoldable pub units_to : {X : Type 0} → (read : List ℕ → X) → ℕ → List ℕ → List X
units_to read zero w = []
units_to read (suc n) w = read (take 16 w) ∷ units_to read n (drop 16 w)

-- where a row's units for what it holds begin, and where the row ends
abbrev pub own_place : List ℕ → ℕ
own_place w = units_for (len_of w) * 16

abbrev pub rest_place : List ℕ → ℕ
rest_place w = (units_for (len_of w) + own_of w) * 16

-- rows one after another, at most as many as a number says
unfoldable pub decode_to : {X : Type 0} → (read : List ℕ → X) → ℕ → List ℕ → Forest X
decode_to read zero w = leaf
decode_to read (suc m) [] = leaf
decode_to read (suc m) (b ∷ w) =
    fork (part 8 (len_of (b ∷ w)) (b ∷ w)) (units_to read (own_of (b ∷ w)) (drop (own_place (b ∷ w)) (b ∷ w)))
    (decode_to read m (take (below_of (b ∷ w) * 16) (drop (rest_place (b ∷ w)) (b ∷ w))))
    (decode_to read m (drop (below_of (b ∷ w) * 16) (drop (rest_place (b ∷ w)) (b ∷ w))))

unfoldable pub decode : {X : Type 0} → (read : List ℕ → X) → List ℕ → Forest X
decode read w = decode_to read (length w) w
