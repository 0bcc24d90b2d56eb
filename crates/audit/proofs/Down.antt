-- A forest is written down from a unit on exactly when its first row is, and what is below it and behind it. Assumes nothing.
use mathlib.Core.Path.{◌≡◌, refl}
use Prim.Native.Nat.{ℕ, ◌+◌, ◌-◌, ◌*◌}
use mathlib.Core.List.{List, [], ◌∷◌, ◌++◌}
use native.Mathlib.Omega.{arith}
use lib.ListN.{length, replicate, length-replicate}
use Rattle.lent.specs.Parts.{part}
use Rattle.held.specs.Order.{Level}
use Rattle.held.specs.Bytes.{each}
use Rattle.held.specs.Forest.{Forest, fork}
use Rattle.region.specs.Layout.{level_units, row_units, units_f, head_bytes, level_bytes, row_bytes, unit_bytes, marks_of}
use Rattle.region.specs.Forms.{Form}
use Rattle.region.proofs.Decoded.{length_head, length_level, length_row, length_units}
use Rattle.forest.specs.Places.{unit_at}
use Rattle.content.proofs.PartLaws.{part_both, part_front, part_back}
use Rattle.forest.proofs.StandsLaws.{length_marks}

module _ {X : Type 0} (u : Form X) (base : ℕ) (s : List ℕ) where
  -- from unit i on, at depth d
  pub record WrittenAt (d i : ℕ) (F : Forest X) : Type 0 where
    pub units : part (unit_at base i) (units_f F * 16) s ≡ unit_bytes u.write F
    pub marks : part (64 + i) (units_f F) s ≡ marks_of d F

  pub record RowHere (d i : ℕ) (l : Level) (v : List X) (below : ℕ) : Type 0 where
    pub head : part (unit_at base i) 8 s ≡ head_bytes l (length v) below
    pub text : part (unit_at base i + 8) (level_units l * 16 - 8) s ≡ level_bytes l
    pub holds : part (unit_at base (i + level_units l)) (length v * 16) s ≡ each u.write v
    pub mark : part (64 + i) 1 s ≡ d ∷ []
    pub others : part (64 + i + 1) (row_units l v - 1) s ≡ replicate (row_units l v - 1) 255

  module _ (d i : ℕ) (l : Level) (v : List X) (below : ℕ) where
    row_yes : RowHere d i l v below → part (unit_at base i) (row_units l v * 16) s ≡ row_bytes u.write l v below
    unfolding row_bytes
    row_yes r =
        let z : unit_at base (i + level_units l) ≡ unit_at base i + 8 + (level_units l * 16 - 8) = omega arith in
        part_both (unit_at base i) 8 (level_units l * 16 - 8 + length v * 16) (row_units l v * 16) s (head_bytes l (length v) below) (level_bytes l ++ each u.write v) (omega arith) r.head
        (part_both (unit_at base i + 8) (level_units l * 16 - 8) (length v * 16) (level_units l * 16 - 8 + length v * 16) s (level_bytes l) (each u.write v) refl r.text
        (rw z at r.holds))

    row_no : part (unit_at base i) (row_units l v * 16) s ≡ row_bytes u.write l v below
        → (part (unit_at base i) 8 s ≡ head_bytes l (length v) below)
        × (part (unit_at base i + 8) (level_units l * 16 - 8) s ≡ level_bytes l)
        × (part (unit_at base (i + level_units l)) (length v * 16) s ≡ each u.write v)
    unfolding row_bytes
    row_no e =
        let z : unit_at base i + 8 + (level_units l * 16 - 8) ≡ unit_at base (i + level_units l) = omega arith in
        let t : part (unit_at base i + 8) (level_units l * 16 - 8 + length v * 16) s ≡ level_bytes l ++ each u.write v =
        part_back (unit_at base i) 8 (level_units l * 16 - 8 + length v * 16) (row_units l v * 16) s (head_bytes l (length v) below) (level_bytes l ++ each u.write v) (omega arith) (length_head l (length v) below) e in
        let g : length (level_bytes l) ≡ level_units l * 16 - 8 = omega (arith, length_level l) in (
          part_front (unit_at base i) 8 (level_units l * 16 - 8 + length v * 16) (row_units l v * 16) s (head_bytes l (length v) below) (level_bytes l ++ each u.write v) (omega arith) (length_head l (length v) below) e,
          part_front (unit_at base i + 8) (level_units l * 16 - 8) (length v * 16) (level_units l * 16 - 8 + length v * 16) s (level_bytes l) (each u.write v) refl g t,
          rw z at (part_back (unit_at base i + 8) (level_units l * 16 - 8) (length v * 16) (level_units l * 16 - 8 + length v * 16) s (level_bytes l) (each u.write v) refl g t),
        )

  module _ (d i : ℕ) (l : Level) (v : List X) (k n : Forest X) where
    pub fork_yes : {e p : ℕ} → e ≡ i + row_units l v → p ≡ e + units_f k → RowHere d i l v (units_f k) → WrittenAt (d + 1) e k → WrittenAt d p n → WrittenAt d i (fork l v k n)
    unfolding units_f unit_bytes marks_of
    fork_yes {e} {p} he hp r a b =
        let ue : unit_at base e ≡ unit_at base i + row_units l v * 16 = omega arith in
        let up : unit_at base p ≡ unit_at base i + row_units l v * 16 + units_f k * 16 = omega arith in
        let me : 64 + e ≡ 64 + i + 1 + (row_units l v - 1) = omega arith in
        let mp : 64 + p ≡ 64 + i + 1 + (row_units l v - 1) + units_f k = omega arith in
        record {
          units = part_both (unit_at base i) (row_units l v * 16) ((units_f k + units_f n) * 16) ((row_units l v + (units_f k + units_f n)) * 16) s
              (row_bytes u.write l v (units_f k)) (unit_bytes u.write k ++ unit_bytes u.write n) (omega arith) (row_yes d i l v (units_f k) r)
              (part_both (unit_at base i + row_units l v * 16) (units_f k * 16) (units_f n * 16) ((units_f k + units_f n) * 16) s (unit_bytes u.write k) (unit_bytes u.write n) (omega arith)
              (rw ue at a.units) (rw up at b.units));
          marks = part_both (64 + i) 1 (row_units l v - 1 + (units_f k + units_f n)) (row_units l v + (units_f k + units_f n)) s
              (d ∷ []) (replicate (row_units l v - 1) 255 ++ (marks_of (d + 1) k ++ marks_of d n)) (omega arith) r.mark
              (part_both (64 + i + 1) (row_units l v - 1) (units_f k + units_f n) (row_units l v - 1 + (units_f k + units_f n)) s
              (replicate (row_units l v - 1) 255) (marks_of (d + 1) k ++ marks_of d n) refl r.others
              (part_both (64 + i + 1 + (row_units l v - 1)) (units_f k) (units_f n) (units_f k + units_f n) s (marks_of (d + 1) k) (marks_of d n) refl
              (rw me at a.marks) (rw mp at b.marks)));
        }

    pub fork_no : {e p : ℕ} → e ≡ i + row_units l v → p ≡ e + units_f k → WrittenAt d i (fork l v k n) → RowHere d i l v (units_f k) × WrittenAt (d + 1) e k × WrittenAt d p n
    unfolding units_f unit_bytes marks_of
    fork_no {e} {p} he hp w =
        let ue : unit_at base i + row_units l v * 16 ≡ unit_at base e = omega arith in
        let up : unit_at base i + row_units l v * 16 + units_f k * 16 ≡ unit_at base p = omega arith in
        let me : 64 + i + 1 + (row_units l v - 1) ≡ 64 + e = omega arith in
        let mp : 64 + i + 1 + (row_units l v - 1) + units_f k ≡ 64 + p = omega arith in
        let a = part_front (unit_at base i) (row_units l v * 16) ((units_f k + units_f n) * 16) ((row_units l v + (units_f k + units_f n)) * 16) s
        (row_bytes u.write l v (units_f k)) (unit_bytes u.write k ++ unit_bytes u.write n) (omega arith) (length_row u l v (units_f k)) w.units in
        let b = part_back (unit_at base i) (row_units l v * 16) ((units_f k + units_f n) * 16) ((row_units l v + (units_f k + units_f n)) * 16) s
        (row_bytes u.write l v (units_f k)) (unit_bytes u.write k ++ unit_bytes u.write n) (omega arith) (length_row u l v (units_f k)) w.units in
        let r = row_no d i l v (units_f k) a in
        let m = part_back (64 + i) 1 (row_units l v - 1 + (units_f k + units_f n)) (row_units l v + (units_f k + units_f n)) s
        (d ∷ []) (replicate (row_units l v - 1) 255 ++ (marks_of (d + 1) k ++ marks_of d n)) (omega arith) refl w.marks in
        let o = part_back (64 + i + 1) (row_units l v - 1) (units_f k + units_f n) (row_units l v - 1 + (units_f k + units_f n)) s
        (replicate (row_units l v - 1) 255) (marks_of (d + 1) k ++ marks_of d n) refl (length-replicate (row_units l v - 1) 255) m in (
          record {
            head = r.0;
            text = r.1;
            holds = r.2;
            mark = part_front (64 + i) 1 (row_units l v - 1 + (units_f k + units_f n)) (row_units l v + (units_f k + units_f n)) s
                (d ∷ []) (replicate (row_units l v - 1) 255 ++ (marks_of (d + 1) k ++ marks_of d n)) (omega arith) refl w.marks;
            others = part_front (64 + i + 1) (row_units l v - 1) (units_f k + units_f n) (row_units l v - 1 + (units_f k + units_f n)) s
                (replicate (row_units l v - 1) 255) (marks_of (d + 1) k ++ marks_of d n) refl (length-replicate (row_units l v - 1) 255) m;
          },
          record {
            units = rw ue at (part_front (unit_at base i + row_units l v * 16) (units_f k * 16) (units_f n * 16) ((units_f k + units_f n) * 16) s (unit_bytes u.write k) (unit_bytes u.write n) (omega arith) (length_units u k) b);
            marks = rw me at (part_front (64 + i + 1 + (row_units l v - 1)) (units_f k) (units_f n) (units_f k + units_f n) s (marks_of (d + 1) k) (marks_of d n) refl (length_marks (d + 1) k) o);
          },
          record {
            units = rw up at (part_back (unit_at base i + row_units l v * 16) (units_f k * 16) (units_f n * 16) ((units_f k + units_f n) * 16) s (unit_bytes u.write k) (unit_bytes u.write n) (omega arith) (length_units u k) b);
            marks = rw mp at (part_back (64 + i + 1 + (row_units l v - 1)) (units_f k) (units_f n) (units_f k + units_f n) s (marks_of (d + 1) k) (marks_of d n) refl (length_marks (d + 1) k) o);
          },
        )
