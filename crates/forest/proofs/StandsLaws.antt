-- A forest that stands in a region: what is read there, and that its children and the rest of its row stand too. Assumes nothing.
use mathlib.Core.Path.{◌≡◌, refl, sym, ap, ◌∙◌}
use mathlib.Core.List.{List, [], ◌∷◌, ◌++◌, append_assoc, append-nil}
use Prim.Native.Nat.{ℕ, ◌+◌, ◌-◌, ◌*◌, ◌≤◌, ◌<◌, min}
use native.Mathlib.Omega.{arith}
use native.Mathlib.Nat.{add-zero}
use lib.ListN.{length, take, replicate, length-append, length-replicate}
use lib.Seq.{take_at, drop_at}
use Rattle.lent.specs.Numbers.{be}
use Rattle.lent.specs.Parts.{part}
use Rattle.lent.proofs.Parts.{part-part}
use Rattle.held.specs.Order.{Level}
use Rattle.held.specs.Ascending.{All}
use Rattle.held.specs.Forest.{Forest, leaf, fork}
use Rattle.region.specs.Layout.{row_units, units_f, row_bytes, unit_bytes, marks_of}
use Rattle.region.specs.Forms.{Form, Fits, fork_fits}
use Rattle.region.proofs.Decoded.{length_row, length_units, row_len, row_own, row_below, row_level, decode_units}
use Rattle.forest.specs.Places.{unit_at, forest_in, len_at, own_at, below_at, row_end, kids_end, level_in}
use Rattle.forest.specs.Stands.{Stands}

pub fork_units : {X : Type 0} (t : Level) (v : List X) (k n : Forest X) → units_f (fork t v k n) ≡ row_units t v + (units_f k + units_f n)
unfolding units_f
fork_units t v k n = refl

-- what fits, taken apart
pub record ForkFits {X : Type 0} (Small : X → Type 0) (t : Level) (v : List X) (k n : Forest X) : Type 0 where
  pub text : length t < 65536
  pub own : length v < 65536
  pub below : units_f k < 65536
  pub small : All Small v
  pub kids : Fits Small k
  pub next : Fits Small n

pub fits_fork : {X : Type 0} {Small : X → Type 0} (t : Level) (v : List X) (k n : Forest X) → Fits Small (fork t v k n) → ForkFits Small t v k n
fits_fork t v k n (fork_fits a b c d e f) = record { text = a; own = b; below = c; small = d; kids = e; next = f }

take_all : (x : List ℕ) (m : ℕ) → length x ≡ m → take m x ≡ x
take_all x m h = sym (ap (take m) (append-nil x)) ∙ take_at x [] m h

pub length_marks : {X : Type 0} (e : ℕ) (F : Forest X) → length (marks_of e F) ≡ units_f F
unfolding marks_of units_f
length_marks e leaf = refl
length_marks e (fork l o i m) = rw (length-append, length-append, length-replicate, length_marks (e + 1) i, length_marks e m) (omega arith)

module _ {X : Type 0} (u : Form X) (base : ℕ) (s : List ℕ) (d : ℕ) where
  -- what stands there is what is read there
  pub stands_read : (lo hi : ℕ) (F : Forest X) → Stands u.write u.Small base s d lo hi F → forest_in u.read base s lo hi ≡ F
  unfolding forest_in
  stands_read lo hi F w =
      let e : (hi - lo) * 16 ≡ units_f F * 16 = omega (arith, w.size) in
      rw (e, w.units) (decode_units u F w.fits)

  -- the first row of what stands there
  module _ (lo hi : ℕ) (t : Level) (v : List X) (k n : Forest X) (w : Stands u.write u.Small base s d lo hi (fork t v k n)) where
    f : ForkFits u.Small t v k n
    f = fits_fork t v k n w.fits

    shape : part (unit_at base lo) (units_f (fork t v k n) * 16) s ≡ row_bytes u.write t v (units_f k) ++ (unit_bytes u.write k ++ unit_bytes u.write n)
    unfolding unit_bytes
    shape = w.units

    inner : (o m : ℕ) → o + m ≤ units_f (fork t v k n) * 16
        → part (unit_at base lo + o) m s ≡ part o m (row_bytes u.write t v (units_f k) ++ (unit_bytes u.write k ++ unit_bytes u.write n))
    inner o m h = sym (part-part o m (unit_at base lo) (units_f (fork t v k n) * 16) s h) ∙ ap (part o m) shape

    some : 0 < row_units t v
    some = omega arith

    pub stands_len : len_at base s lo ≡ length t
    stands_len =
        ap be (rw add-zero at (inner 0 2 (omega (arith, some, fork_units t v k n))))
        ∙ row_len u t v (units_f k) f.text f.own f.below f.small (unit_bytes u.write k ++ unit_bytes u.write n)

    pub stands_own : own_at base s lo ≡ length v
    stands_own =
        ap be (inner 2 2 (omega (arith, some, fork_units t v k n)))
        ∙ row_own u t v (units_f k) f.text f.own f.below f.small (unit_bytes u.write k ++ unit_bytes u.write n)

    pub stands_below : below_at base s lo ≡ units_f k
    stands_below =
        ap be (inner 4 2 (omega (arith, some, fork_units t v k n)))
        ∙ row_below u t v (units_f k) f.text f.own f.below f.small (unit_bytes u.write k ++ unit_bytes u.write n)

    -- the level, the end of the row and the end of all below it, with nothing past unit m
    pub stands_level : (m : ℕ) → lo + row_units t v ≤ m → level_in base s lo m ≡ t
    unfolding level_in
    stands_level m h =
        let e : min (len_at base s lo) ((m - lo) * 16 - 8) ≡ length t = omega (arith, stands_len) in
        rw e (inner 8 (length t) (omega (arith, fork_units t v k n))
        ∙ rw (row_len u t v (units_f k) f.text f.own f.below f.small (unit_bytes u.write k ++ unit_bytes u.write n))
        at (row_level u t v (units_f k) f.text f.own f.below f.small (unit_bytes u.write k ++ unit_bytes u.write n)))

    pub stands_end : (m : ℕ) → lo + row_units t v ≤ m → row_end base s lo m ≡ lo + row_units t v
    unfolding row_end
    stands_end m h = rw (stands_len, stands_own) (omega arith)

    pub stands_past : (m : ℕ) → lo + row_units t v + units_f k ≤ m → kids_end base s lo m ≡ lo + row_units t v + units_f k
    unfolding kids_end
    stands_past m h = rw (stands_end m (omega arith), stands_below) (omega arith)

    -- the marks
    mark_shape : part (64 + lo) (units_f (fork t v k n)) s ≡ d ∷ (replicate (row_units t v - 1) 255 ++ (marks_of (d + 1) k ++ marks_of d n))
    unfolding marks_of
    mark_shape = w.marks

    -- the children stand one deeper
    abbrev front : List ℕ
    front = row_bytes u.write t v (units_f k)

    pub stands_kids : Stands u.write u.Small base s (d + 1) (lo + row_units t v) (lo + row_units t v + units_f k) k
    unfolding part
    stands_kids =
        record {
          size = refl;
          units =
              let p : unit_at base lo + row_units t v * 16 ≡ unit_at base (lo + row_units t v) = omega arith in
              rw p at (inner (row_units t v * 16) (units_f k * 16) (omega (arith, fork_units t v k n)))
              ∙ rw (drop_at front (unit_bytes u.write k ++ unit_bytes u.write n) (row_units t v * 16) (length_row u t v (units_f k)), take_at (unit_bytes u.write k) (unit_bytes u.write n) (units_f k * 16) (length_units u k));
          marks =
              let p : 64 + lo + row_units t v ≡ 64 + (lo + row_units t v) = omega arith in
              let h : length (d ∷ replicate (row_units t v - 1) 255) ≡ row_units t v = rw length-replicate (omega (arith, some)) in
              rw p at (sym (part-part (row_units t v) (units_f k) (64 + lo) (units_f (fork t v k n)) s (omega (arith, fork_units t v k n))))
              ∙ ap (part (row_units t v) (units_f k)) mark_shape
              ∙ rw (drop_at (d ∷ replicate (row_units t v - 1) 255) (marks_of (d + 1) k ++ marks_of d n) (row_units t v) h, take_at (marks_of (d + 1) k) (marks_of d n) (units_f k) (length_marks (d + 1) k));
          rows = w.rows.1;
          fits = f.kids;
        }

    -- and the rest of the row as deep
    pub stands_next : Stands u.write u.Small base s d (lo + row_units t v + units_f k) hi n
    unfolding part
    stands_next =
        record {
          size = omega (arith, w.size, fork_units t v k n);
          units =
              let p : unit_at base lo + (row_units t v * 16 + units_f k * 16) ≡ unit_at base (lo + row_units t v + units_f k) = omega arith in
              let h : length (front ++ unit_bytes u.write k) ≡ row_units t v * 16 + units_f k * 16 = rw (length-append, length_row u t v (units_f k), length_units u k) in
              rw p at (inner (row_units t v * 16 + units_f k * 16) (units_f n * 16) (omega (arith, fork_units t v k n)))
              ∙ rw (← append_assoc front (unit_bytes u.write k) (unit_bytes u.write n), drop_at (front ++ unit_bytes u.write k) (unit_bytes u.write n) (row_units t v * 16 + units_f k * 16) h)
              (take_all (unit_bytes u.write n) (units_f n * 16) (length_units u n));
          marks =
              let p : 64 + lo + (row_units t v + units_f k) ≡ 64 + (lo + row_units t v + units_f k) = omega arith in
              let h : length ((d ∷ replicate (row_units t v - 1) 255) ++ marks_of (d + 1) k) ≡ row_units t v + units_f k = rw (length-append, length-replicate, length_marks (d + 1) k) (omega (arith, some)) in
              rw p at (sym (part-part (row_units t v + units_f k) (units_f n) (64 + lo) (units_f (fork t v k n)) s (omega (arith, fork_units t v k n))))
              ∙ ap (part (row_units t v + units_f k) (units_f n)) mark_shape
              ∙ rw (← append_assoc (d ∷ replicate (row_units t v - 1) 255) (marks_of (d + 1) k) (marks_of d n), drop_at ((d ∷ replicate (row_units t v - 1) 255) ++ marks_of (d + 1) k) (marks_of d n) (row_units t v + units_f k) h)
              (take_all (marks_of d n) (units_f n) (length_marks d n));
          rows = w.rows.2;
          fits = f.next;
        }
