-- A row that stands in a region stands there in its parts. Assumes nothing.
use mathlib.Core.Path.{◌≡◌, sym, ap, ◌∙◌}
use mathlib.Core.List.{List, ◌++◌}
use Prim.Native.Nat.{ℕ, ◌+◌, ◌-◌, ◌*◌, ◌≤◌, ◌<◌, min}
use native.Mathlib.Nat.{add-zero}
use native.Mathlib.Omega.{arith}
use lib.ListN.{length, take, drop, get_or}
use lib.Seq.{take_at, drop_at, get_or-take, get_or-drop}
use Rattle.lent.specs.Parts.{part}
use Rattle.lent.proofs.Parts.{take_part, drop-part}
use Rattle.held.specs.Forest.{Forest, leaf, fork}
use Rattle.region.specs.Layout.{units_f, unit_bytes, marks_of}
use Rattle.region.specs.Forms.{Form}
use Rattle.region.proofs.Decoded.{length_units}
use Rattle.forest.specs.Places.{unit_at}
use Rattle.forest.specs.Stands.{Stands}
use Rattle.forest.proofs.StandsLaws.{length_marks}
use Rattle.seek.specs.Probe.{mark_at}
use Rattle.seek.proofs.Beside.{beside, units_beside, bytes_beside, marks_beside, fits_front, fits_back, rows_front, rows_back}
use Rattle.seek.proofs.Marks.{Cut, cut_at}

-- a part that holds two lists
module _ (p w a b : ℕ) (x y s : List ℕ) (e : part p w s ≡ x ++ y) (h : length x ≡ a) (k : w ≡ a + b) where
  pub front-part : part p a s ≡ x
  front-part =
      let z : min a w ≡ a = omega arith in
      sym (take_part a p w s ∙ rw z) ∙ ap (take a) e ∙ take_at x y a h

  pub back-part : part (p + a) b s ≡ y
  back-part =
      let z : w - a ≡ b = omega arith in
      sym (drop-part a p w s ∙ rw z) ∙ ap (drop a) e ∙ drop_at x y a h

module _ {X : Type 0} (u : Form X) (base : ℕ) (s : List ℕ) (d lo hi : ℕ) where
  module _ (P G : Forest X) (w : Stands u.write u.Small base s d lo hi (beside P G)) where
    sum : units_f (beside P G) ≡ units_f P + units_f G
    sum = units_beside P G

    bytes : part (unit_at base lo) (units_f (beside P G) * 16) s ≡ unit_bytes u.write P ++ unit_bytes u.write G
    bytes = w.units ∙ bytes_beside u.write P G

    marks : part (64 + lo) (units_f (beside P G)) s ≡ marks_of d P ++ marks_of d G
    marks = w.marks ∙ marks_beside d P G

    pub stands_front : (m : ℕ) → m ≡ lo + units_f P → Stands u.write u.Small base s d lo m P
    stands_front m e =
        record {
          size = e;
          units =
              front-part (unit_at base lo) (units_f (beside P G) * 16) (units_f P * 16) (units_f G * 16) (unit_bytes u.write P) (unit_bytes u.write G) s bytes
              (length_units u P) (omega (arith, sum));
          marks = front-part (64 + lo) (units_f (beside P G)) (units_f P) (units_f G) (marks_of d P) (marks_of d G) s marks (length_marks d P) sum;
          rows = rows_front P G w.rows;
          fits = fits_front u.Small P G w.fits;
        }

    pub stands_back : (m : ℕ) → m ≡ lo + units_f P → Stands u.write u.Small base s d m hi G
    stands_back m e =
        let p : unit_at base lo + units_f P * 16 ≡ unit_at base m = omega arith in
        let q : 64 + lo + units_f P ≡ 64 + m = omega arith in
        record {
          size = omega (arith, w.size, sum);
          units =
              rw p at (back-part (unit_at base lo) (units_f (beside P G) * 16) (units_f P * 16) (units_f G * 16) (unit_bytes u.write P) (unit_bytes u.write G) s bytes
              (length_units u P) (omega (arith, sum)));
          marks = rw q at (back-part (64 + lo) (units_f (beside P G)) (units_f P) (units_f G) (marks_of d P) (marks_of d G) s marks (length_marks d P) sum);
          rows = rows_back P G w.rows;
          fits = fits_back u.Small P G w.fits;
        }

  module _ (F : Forest X) (w : Stands u.write u.Small base s d lo hi F) where
    mark_in : (i : ℕ) → i < units_f F → mark_at s (lo + i) ≡ get_or (marks_of d F) i 0
    unfolding part
    mark_in i h =
        let q : 64 + (lo + i) ≡ 64 + lo + i = omega arith in
        rw (q, ← w.marks, get_or-take (units_f F) (drop (64 + lo) s) i 0 h, get_or-drop (64 + lo) s i 0)

    -- it is parted where a mark is no deeper
    pub cut_stands : d < 255 → (m : ℕ) → lo ≤ m → m < hi → (lo < m → mark_at s m ≤ d) → Cut F (m - lo)
    cut_stands h m p q r =
        let e : lo + (m - lo) ≡ m = omega arith in
        let l : m - lo < units_f F = omega (arith, w.size) in
        cut_at d h F (m - lo) l (λ z. rw (← mark_in (m - lo) l, e) (r (omega arith)))

  -- the mark of the first unit
  pub mark-first : (F : Forest X) → Stands u.write u.Small base s d lo hi F → lo < hi → mark_at s lo ≡ d
  unfolding marks_of units_f
  mark-first leaf w h = absurd (omega (arith, w.size))
  mark-first (fork t v k n) w h = rw add-zero at (mark_in (fork t v k n) w 0 (omega (arith, w.size)))
