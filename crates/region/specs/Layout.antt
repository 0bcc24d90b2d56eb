-- TO BELIEVE. The region of a store, and how a forest is written down in it. Assumes nothing.
--
--     0                mark 43 4A; kind (1 subscriptions, 2 retained names); shape 1
--     4                capacities: nodes N, pairs P, cells C           numbers of 2 bytes, the high byte first
--    10                in use: nodes, pairs, cells, units              likewise
--    18                spare
--    64                marks: a byte for each unit
--    64 + N + P + C    units of 16 bytes, N + P + C of them
--
-- The nodes stand in the order of the walk: a node, its children, the rest of its row. A node's row of units is
--
--     its head, 8 bytes: the length of its level, how many it holds, the units of all below it, 0      numbers of 2 bytes
--     its level, from byte 8 of its first unit on, filled up with 0 to whole units
--     a unit for each that it holds
--
-- The mark of a row's first unit is the node's depth, from 1; the marks of its others are 255.
use Rattle.std.specs.Prelude.{ℕ, ◌+◌, ◌-◌, ◌*◌, ◌/◌, List, [], ◌∷◌, ◌++◌, length, replicate}
use Rattle.lent.specs.Numbers.{bytes}
use Rattle.held.specs.Order.{Level}
use Rattle.held.specs.Room.{Room}
use Rattle.held.specs.Bytes.{each}
use Rattle.held.specs.Forest.{Forest, leaf, fork}

-- the units that a region has room for: a node, a pair and a cell take at most one each
abbrev pub unit_room : Room → ℕ
unit_room r = r.nodes + r.pairs + r.cells

-- the bytes that it needs: the header's, then a mark and a unit for each node, each pair and each cell
abbrev pub needed_bytes : Room → ℕ
needed_bytes r = 64 + 17 * r.nodes + 17 * r.pairs + 17 * r.cells

-- the units of a head of 8 bytes and a level of n; of a level; of a row; of a forest
abbrev pub units_for : ℕ → ℕ
units_for n = (n + 23) / 16

abbrev pub level_units : Level → ℕ
level_units l = units_for (length l)

abbrev pub row_units : {X : Type 0} → Level → List X → ℕ
row_units l v = level_units l + length v

unfoldable pub units_f : {X : Type 0} → Forest X → ℕ
units_f leaf = 0
units_f (fork l v k n) = row_units l v + (units_f k + units_f n)

-- a row: its head, its level, what it holds
unfoldable pub head_bytes : Level → (own below : ℕ) → List ℕ
head_bytes l own below = bytes 2 (length l) ++ (bytes 2 own ++ (bytes 2 below ++ bytes 2 0))

unfoldable pub level_bytes : Level → List ℕ
level_bytes l = l ++ replicate (level_units l * 16 - 8 - length l) 0

unfoldable pub row_bytes : {X : Type 0} → (unit : X → List ℕ) → Level → List X → (below : ℕ) → List ℕ
row_bytes unit l v below = head_bytes l (length v) below ++ (level_bytes l ++ each unit v)

-- a forest's units, where `unit` writes down what a node holds, and its marks from a depth on
unfoldable pub unit_bytes : {X : Type 0} → (unit : X → List ℕ) → Forest X → List ℕ
unit_bytes unit leaf = []
unit_bytes unit (fork l v k n) = row_bytes unit l v (units_f k) ++ (unit_bytes unit k ++ unit_bytes unit n)

unfoldable pub marks_of : {X : Type 0} → ℕ → Forest X → List ℕ
marks_of d leaf = []
marks_of d (fork l v k n) = d ∷ (replicate (row_units l v - 1) 255 ++ (marks_of (d + 1) k ++ marks_of d n))

-- what is in use
pub record Used : Type 0 where
  pub nodes : ℕ
  pub pairs : ℕ
  pub cells : ℕ
  pub units : ℕ

-- the header's 18 bytes
unfoldable pub header_bytes : (kind : ℕ) → Room → Used → List ℕ
header_bytes kind r u =
    0x43 ∷ 0x4A ∷ kind ∷ 1
    ∷ (bytes 2 r.nodes ++ (bytes 2 r.pairs ++ (bytes 2 r.cells
    ++ (bytes 2 u.nodes ++ (bytes 2 u.pairs ++ (bytes 2 u.cells ++ bytes 2 u.units))))))
