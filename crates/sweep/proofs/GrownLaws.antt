-- What is kept grows: nothing yet, one piece behind another, and the pieces of a node. Assumes nothing.
use mathlib.Core.Path.{◌≡◌, refl, ap, ◌∙◌}
use mathlib.Core.List.{List, ◌∷◌, ◌++◌, append_assoc}
use Prim.Native.Nat.{ℕ, ◌+◌, ◌-◌, ◌*◌, ◌≤◌}
use native.Mathlib.Omega.{arith}
use lib.ListN.{length, replicate}
use Rattle.lent.specs.Parts.{part}
use Rattle.lent.proofs.Parts.{part_add}
use Rattle.lent.proofs.Turns.{part_none}
use Rattle.held.specs.Order.{Level}
use Rattle.held.specs.Room.{level_cells}
use Rattle.held.specs.Retained.{Stored}
use Rattle.held.specs.Forest.{Forest, fork, held}
use Rattle.held.specs.Edit.{weigh_f, size_f, cells_f}
use Rattle.region.specs.Layout.{row_units, units_f, row_bytes, unit_bytes, marks_of}
use Rattle.region.specs.Units.{stored_bytes}
use Rattle.forest.specs.Places.{unit_at}
use Rattle.sweep.specs.declared.Kept.{Kept}
use Rattle.sweep.specs.Touched.{Touched}
use Rattle.sweep.specs.Swept.{Grown}
use Rattle.held.proofs.Lengths.{length-held}

-- two parts, one behind the other
pub part_joined : (p a b w : ℕ) (x y s : List ℕ) → a + b ≡ w → part p a s ≡ x → part (p + a) b s ≡ y → part p w s ≡ x ++ y
part_joined p a b w x y s h e f = rw (← h) (part_add p a b s ∙ rw (e, f))

pub grown-none : (base : ℕ) (t : List ℕ) (d : ℕ) (a : Kept) (F : Forest Stored) → Grown base t d a a F F
grown-none base t d a F =
    let z : (a.to - a.to) * 16 ≡ 0 = omega arith in
    let y : a.to - a.to ≡ 0 = omega arith in
    record {
      units = rw (z, part_none);
      marks = rw (y, part_none);
      nodes = refl;
      pairs = refl;
      cells = refl;
    }

-- one piece behind another
module _ (base : ℕ) (t u : List ℕ) (d p : ℕ) (a b c : Kept) (H G F : Forest Stored) (ab : a.to ≤ b.to) (bc : b.to ≤ c.to) (apart : 64 + p ≤ base) (x : Touched base b.to p t u)
    (g : Grown base t d a b G F) (h : Grown base u d b c H G) where
  units_joined : part (unit_at base a.to) ((c.to - a.to) * 16) u ≡ part (unit_at base a.to) ((b.to - a.to) * 16) t ++ part (unit_at base b.to) ((c.to - b.to) * 16) u
  units_joined =
      let q : unit_at base a.to + (b.to - a.to) * 16 ≡ unit_at base b.to = omega arith in
      part_joined (unit_at base a.to) ((b.to - a.to) * 16) ((c.to - b.to) * 16) ((c.to - a.to) * 16) (part (unit_at base a.to) ((b.to - a.to) * 16) t) (part (unit_at base b.to) ((c.to - b.to) * 16) u) u
      (omega arith) (x.between (unit_at base a.to) ((b.to - a.to) * 16) (omega arith) (omega arith)) (rw q)

  marks_joined : part (64 + a.to) (c.to - a.to) u ≡ part (64 + a.to) (b.to - a.to) t ++ part (64 + b.to) (c.to - b.to) u
  marks_joined =
      let q : 64 + a.to + (b.to - a.to) ≡ 64 + b.to = omega arith in
      part_joined (64 + a.to) (b.to - a.to) (c.to - b.to) (c.to - a.to) (part (64 + a.to) (b.to - a.to) t) (part (64 + b.to) (c.to - b.to) u) u
      (omega arith) (x.before (64 + a.to) (b.to - a.to) (omega arith)) (rw q)

  pub grown_trans : Grown base u d a c H F
  grown_trans =
      record {
        units = rw (units_joined, append_assoc, h.units, g.units);
        marks = rw (marks_joined, append_assoc, h.marks, g.marks);
        nodes = omega (arith, g.nodes, h.nodes);
        pairs = omega (arith, g.pairs, h.pairs);
        cells = omega (arith, g.cells, h.cells);
      }

size_fork : {X : Type 0} (l : Level) (v : List X) (k n : Forest X) → size_f (fork l v k n) ≡ 1 + (size_f k + size_f n)
unfolding weigh_f
size_fork l v k n = refl

cells_fork : {X : Type 0} (l : Level) (v : List X) (k n : Forest X) → cells_f (fork l v k n) ≡ level_cells l + (cells_f k + cells_f n)
unfolding weigh_f
cells_fork l v k n = refl

-- a node: its row, then its children
module _ (base : ℕ) (t : List ℕ) (d first : ℕ) (a b : Kept) (l : Level) (v : List Stored) (k : Forest Stored) (row : first ≡ a.to + row_units l v) (last : b.to ≡ first + units_f k)
    (row-units : part (unit_at base a.to) (row_units l v * 16) t ≡ row_bytes stored_bytes l v (units_f k))
    (row-marks : part (64 + a.to) (row_units l v) t ≡ d ∷ replicate (row_units l v - 1) 255)
    (kid-units : part (unit_at base first) (units_f k * 16) t ≡ unit_bytes stored_bytes k) (kid-marks : part (64 + first) (units_f k) t ≡ marks_of (d + 1) k)
    (nodes : b.nodes ≡ a.nodes + size_f k + 1) (pairs : b.pairs ≡ a.pairs + length (held k) + length v) (cells : b.cells ≡ a.cells + cells_f k + level_cells l) (m : Forest Stored) where
  all_units : part (unit_at base a.to) ((b.to - a.to) * 16) t ≡ row_bytes stored_bytes l v (units_f k) ++ unit_bytes stored_bytes k
  all_units =
      let q : unit_at base a.to + row_units l v * 16 ≡ unit_at base first = omega (arith, row) in
      part_joined (unit_at base a.to) (row_units l v * 16) (units_f k * 16) ((b.to - a.to) * 16) (row_bytes stored_bytes l v (units_f k)) (unit_bytes stored_bytes k) t
      (omega (arith, row, last)) row-units (rw q kid-units)

  all_marks : part (64 + a.to) (b.to - a.to) t ≡ (d ∷ replicate (row_units l v - 1) 255) ++ marks_of (d + 1) k
  all_marks =
      let q : 64 + a.to + row_units l v ≡ 64 + first = omega (arith, row) in
      part_joined (64 + a.to) (row_units l v) (units_f k) (b.to - a.to) (d ∷ replicate (row_units l v - 1) 255) (marks_of (d + 1) k) t (omega (arith, row, last)) row-marks (rw q kid-marks)

  pub grown_node : Grown base t d a b m (fork l v k m)
  unfolding unit_bytes marks_of
  grown_node =
      record {
        units = ap (λ (x : List ℕ). x ++ unit_bytes stored_bytes m) all_units ∙ append_assoc (row_bytes stored_bytes l v (units_f k)) (unit_bytes stored_bytes k) (unit_bytes stored_bytes m);
        marks = ap (λ (x : List ℕ). x ++ marks_of d m) all_marks ∙ append_assoc (d ∷ replicate (row_units l v - 1) 255) (marks_of (d + 1) k) (marks_of d m);
        nodes = omega (arith, nodes, size_fork l v k m);
        pairs = omega (arith, pairs, length-held l v k m);
        cells = omega (arith, cells, cells_fork l v k m);
      }
