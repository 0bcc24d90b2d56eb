-- FOR THE CODE. The tests of a row of units as a whole: how it is written, and that it may stand where it stands. Assumes nothing.
use Rattle.std.specs.Prelude.{ℕ, ◌+◌, ◌-◌, ◌*◌, Bool, true, false, not, cond, ◌&&◌, ◌||◌, List, eqb, ltb, leb, get_or, drop}
use Rattle.level.specs.Kinds.{blank, is_only}
use Rattle.lent.specs.Numbers.{be}
use Rattle.lent.specs.Parts.{part}
use Rattle.held.specs.Order.{Level, level_lt}
use Rattle.region.specs.declared.Kind.{Kind}
use Rattle.content.specs.Contents.{every, level_fine, own_fine}
use Rattle.forest.specs.Places.{unit_at, len_at, own_at, below_at, level_units_at, level_in}

-- where what a node holds begins, where its row ends, and where all below it ends, as its head says
abbrev pub held_at : (base : ℕ) → List ℕ → ℕ → ℕ
held_at base s i = i + level_units_at base s i

abbrev pub end_at : (base : ℕ) → List ℕ → ℕ → ℕ
end_at base s i = held_at base s i + own_at base s i

abbrev pub past_at : (base : ℕ) → List ℕ → ℕ → ℕ
past_at base s i = end_at base s i + below_at base s i

-- a blank first level holds nothing: it would be the empty text
abbrev pub may_hold : (d : ℕ) → Level → Bool
may_hold d l = not (eqb d 1 && blank l)

-- a node holds something or has a child; '#' has no child
unfoldable pub shape_fine : (d : ℕ) → Level → (own below : ℕ) → Bool
shape_fine d l own below = cond (eqb own 0) (not (eqb below 0)) (may_hold d l) && (not (is_only 35 l) || eqb below 0)

-- the marks of a row, and what fills its level's last unit
unfoldable pub marks_fine : List ℕ → (d i end : ℕ) → Bool
marks_fine s d i end = eqb (get_or s (64 + i) 0) d && every 255 (part (64 + i + 1) (end - (i + 1)) s)

unfoldable pub fill_fine : (base : ℕ) → List ℕ → ℕ → Bool
fill_fine base s i = every 0 (part (unit_at base i + 8 + len_at base s i) (level_units_at base s i * 16 - 8 - len_at base s i) s)

-- a level comes before that of the next node of its row, which begins at unit `past` if there is one
unfoldable pub follows : (base : ℕ) → List ℕ → Level → (past n : ℕ) → Bool
follows base s l past n = not (ltb past n) || level_lt l (level_in base s past n)

abbrev pub order_fine : (base : ℕ) → List ℕ → (i n : ℕ) → Bool
order_fine base s i n = follows base s (level_in base s i n) (past_at base s i) n

-- the row at unit i is written as it is read: its head, its marks, what it holds
unfoldable pub written_fine : Kind → (base : ℕ) → List ℕ → (d i : ℕ) → Bool
written_fine k base s d i =
    eqb (be (part (unit_at base i + 6) 2 s)) 0
    && (marks_fine s d i (end_at base s i) && own_fine k (own_at base s i) (drop (unit_at base (held_at base s i)) s))

-- its level, and what fills the level's last unit
unfoldable pub text_fine : Kind → (base : ℕ) → List ℕ → (i n : ℕ) → Bool
text_fine k base s i n = fill_fine base s i && level_fine k (level_in base s i n)

-- what its node has, and what follows it
unfoldable pub placed_fine : (base : ℕ) → List ℕ → (d i n : ℕ) → Bool
placed_fine base s d i n = shape_fine d (level_in base s i n) (own_at base s i) (below_at base s i) && order_fine base s i n

-- all of that
unfoldable pub row_fine : Kind → (base : ℕ) → List ℕ → (d i n : ℕ) → Bool
row_fine k base s d i n = written_fine k base s d i && (text_fine k base s i n && placed_fine base s d i n)

-- and the row ends with all below it by unit n, it is not too deep, and its level fits in the bytes that a text has left
unfoldable pub node_fine : Kind → (base : ℕ) → List ℕ → (d room i n : ℕ) → Bool
node_fine k base s d room i n = leb (past_at base s i) n && (leb d 128 && (ltb (len_at base s i) room && row_fine k base s d i n))
