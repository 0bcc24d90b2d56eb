-- FOR THE PROOFS. A place in a forest: the way to it from the first node, a frame for each node that is passed and for each
-- that is gone down from. A change at a place changes what is plugged in there, and the numbers of units below the nodes
-- that the way goes down from. Assumes nothing.
use Rattle.std.specs.Prelude.{ℕ, ◌+◌, ◌-◌, List, [], ◌∷◌, ◌++◌, replicate}
use Rattle.held.specs.Order.{Level}
use Rattle.held.specs.Forest.{Forest, fork}
use Rattle.region.specs.Layout.{row_units, units_f, row_bytes, unit_bytes, marks_of}

-- a node that is passed, with all below it; a node that is gone down from, with the rest of its row
pub data Frame (X : Type 0) : Type 0 where
  past : (text : Level) (own : List X) (kids : Forest X) → Frame X
  down : (text : Level) (own : List X) (next : Forest X) → Frame X

abbrev pub Way : Type 0 → Type 0
Way X = List (Frame X)

module _ {X : Type 0} where
  -- the forest that has G at the place
  unfoldable pub plug : Way X → Forest X → Forest X
  plug [] G = G
  plug (past t v k ∷ w) G = fork t v k (plug w G)
  plug (down t v n ∷ w) G = fork t v (plug w G) n

  -- its units, where c stand at the place; the units before the place; the nodes that the way goes down from, from a unit on
  unfoldable pub wide : Way X → ℕ → ℕ
  wide [] c = c
  wide (past t v k ∷ w) c = row_units t v + (units_f k + wide w c)
  wide (down t v n ∷ w) c = row_units t v + (wide w c + units_f n)

  unfoldable pub ahead : Way X → ℕ
  ahead [] = 0
  ahead (past t v k ∷ w) = row_units t v + units_f k + ahead w
  ahead (down t v n ∷ w) = row_units t v + ahead w

  unfoldable pub downs : ℕ → Way X → List ℕ
  downs at [] = []
  downs at (past t v k ∷ w) = downs (at + (row_units t v + units_f k)) w
  downs at (down t v n ∷ w) = at ∷ downs (at + row_units t v) w

  -- the bytes before the place, where c units stand there, and those behind it
  unfoldable pub front : (X → List ℕ) → Way X → ℕ → List ℕ
  front write [] c = []
  front write (past t v k ∷ w) c = row_bytes write t v (units_f k) ++ (unit_bytes write k ++ front write w c)
  front write (down t v n ∷ w) c = row_bytes write t v (wide w c) ++ front write w c

  unfoldable pub behind : (X → List ℕ) → Way X → List ℕ
  behind write [] = []
  behind write (past t v k ∷ w) = behind write w
  behind write (down t v n ∷ w) = behind write w ++ unit_bytes write n

  -- the depth of the place, and the marks before and behind it
  unfoldable pub deep : ℕ → Way X → ℕ
  deep d [] = d
  deep d (past t v k ∷ w) = deep d w
  deep d (down t v n ∷ w) = deep (d + 1) w

  abbrev pub row_marks : ℕ → Level → List X → List ℕ
  row_marks d t v = d ∷ replicate (row_units t v - 1) 255

  unfoldable pub mark_front : ℕ → Way X → List ℕ
  mark_front d [] = []
  mark_front d (past t v k ∷ w) = row_marks d t v ++ (marks_of (d + 1) k ++ mark_front d w)
  mark_front d (down t v n ∷ w) = row_marks d t v ++ mark_front (d + 1) w

  unfoldable pub mark_behind : ℕ → Way X → List ℕ
  mark_behind d [] = []
  mark_behind d (past t v k ∷ w) = mark_behind d w
  mark_behind d (down t v n ∷ w) = mark_behind (d + 1) w ++ marks_of d n
