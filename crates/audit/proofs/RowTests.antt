-- The tests of a row, one by one, and what each says of the row where nothing of it is cut off. Assumes nothing.
use mathlib.Core.Path.{◌≡◌, refl, sym}
use Prim.Native.Nat.{ℕ, ◌+◌, ◌≤◌, ◌<◌}
use mathlib.Core.Bool.{Bool, true, false, ◌&&◌, true≢false}
use mathlib.Core.List.{List}
use lib.Dec.{eqb, ltb, leb}
use lib.ListN.{drop}
use borrow.Author.Tests.{eqb-true, eq-eqb, ltb-true, lt-ltb, leb-true, le-leb}
use Rattle.lent.specs.Numbers.{be}
use Rattle.lent.specs.Parts.{part}
use Rattle.held.proofs.Orders.{and_left, and_right}
use Rattle.region.specs.declared.Kind.{Kind}
use Rattle.forest.specs.Places.{unit_at, len_at, own_at, below_at, level_in}
use Rattle.content.specs.Contents.{level_fine, own_fine}
use Rattle.audit.specs.Tests.{held_at, end_at, past_at, shape_fine, marks_fine, fill_fine, order_fine, written_fine, text_fine, placed_fine, row_fine, node_fine}

-- the tests of a node, one by one
pub record Tested (k : Kind) (base : ℕ) (s : List ℕ) (d room i n : ℕ) : Type 0 where
  pub past : past_at base s i ≤ n
  pub depth : d ≤ 128
  pub wide : len_at base s i < room
  pub spare : be (part (unit_at base i + 6) 2 s) ≡ 0
  pub marks : marks_fine s d i (end_at base s i) ≡ true
  pub fill : fill_fine base s i ≡ true
  pub level : level_fine k (level_in base s i n) ≡ true
  pub holds : own_fine k (own_at base s i) (drop (unit_at base (held_at base s i)) s) ≡ true
  pub shape : shape_fine d (level_in base s i n) (own_at base s i) (below_at base s i) ≡ true
  pub order : order_fine base s i n ≡ true

module _ (k : Kind) (base : ℕ) (s : List ℕ) (d room i n : ℕ) where
  three : (a b c : Bool) → (a && (b && c)) ≡ true → (a ≡ true) × (b ≡ true) × (c ≡ true)
  three true true c q = (refl, refl, q)
  three true false c q = absurd (true≢false (sym q))
  three false b c q = absurd (true≢false (sym q))

  pub tested : node_fine k base s d room i n ≡ true → Tested k base s d room i n
  unfolding node_fine row_fine written_fine text_fine placed_fine
  tested e =
      let p = three (leb (past_at base s i) n) (leb d 128) (ltb (len_at base s i) room && row_fine k base s d i n) e in
      let q = three (ltb (len_at base s i) room) (written_fine k base s d i) (text_fine k base s i n && placed_fine base s d i n) p.2 in
      let w = three (eqb (be (part (unit_at base i + 6) 2 s)) 0) (marks_fine s d i (end_at base s i)) (own_fine k (own_at base s i) (drop (unit_at base (held_at base s i)) s)) q.1 in
      let f = and_left (fill_fine base s i && level_fine k (level_in base s i n)) (placed_fine base s d i n) q.2 in
      let r = and_right (fill_fine base s i && level_fine k (level_in base s i n)) (placed_fine base s d i n) q.2 in
      record {
        past = leb-true (past_at base s i) n p.0;
        depth = leb-true d 128 p.1;
        wide = ltb-true (len_at base s i) room q.0;
        spare = eqb-true (be (part (unit_at base i + 6) 2 s)) 0 w.0;
        marks = w.1;
        fill = and_left (fill_fine base s i) (level_fine k (level_in base s i n)) f;
        level = and_right (fill_fine base s i) (level_fine k (level_in base s i n)) f;
        holds = w.2;
        shape = and_left (shape_fine d (level_in base s i n) (own_at base s i) (below_at base s i)) (order_fine base s i n) r;
        order = and_right (shape_fine d (level_in base s i n) (own_at base s i) (below_at base s i)) (order_fine base s i n) r;
      }

  pub passed : Tested k base s d room i n → node_fine k base s d room i n ≡ true
  unfolding node_fine row_fine written_fine text_fine placed_fine
  passed t =
      rw (
        le-leb (past_at base s i) n t.past,
        le-leb d 128 t.depth,
        lt-ltb (len_at base s i) room t.wide,
        eq-eqb (be (part (unit_at base i + 6) 2 s)) 0 t.spare,
        t.marks,
        t.fill,
        t.level,
        t.holds,
        t.shape,
        t.order,
      )
