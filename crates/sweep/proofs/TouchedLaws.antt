-- Bytes that differ in some units and their marks alone: one change after another, and what stands behind them. Assumes nothing.
use mathlib.Core.Path.{refl, ◌∙◌}
use mathlib.Core.List.{List}
use Prim.Native.Nat.{ℕ, ◌+◌, ◌*◌, ◌≤◌}
use native.Mathlib.Omega.{arith}
use lib.ListN.{length}
use Rattle.lent.specs.Parts.{patch}
use Rattle.lent.proofs.Parts.{length-patch, part-patch_before, part-patch_after}
use Rattle.held.specs.Forest.{Forest}
use Rattle.region.specs.Layout.{units_f}
use Rattle.forest.specs.Places.{unit_at}
use Rattle.forest.specs.Stands.{Stands}
use Rattle.sweep.specs.Touched.{Touched}

pub touched-same : (base a b : ℕ) (s : List ℕ) → Touched base a b s s
touched-same base a b s = record { long = refl; before = λ q w h. refl; between = λ q w h k. refl; behind = λ q w h. refl }

pub touched_trans : (base a b : ℕ) (s t u : List ℕ) → Touched base a b s t → Touched base a b t u → Touched base a b s u
touched_trans base a b s t u x y =
    record {
      long = y.long ∙ x.long;
      before = λ q w h. y.before q w h ∙ x.before q w h;
      between = λ q w h k. y.between q w h k ∙ x.between q w h k;
      behind = λ q w h. y.behind q w h ∙ x.behind q w h;
    }

pub touched_wider : (base a b c d : ℕ) (s t : List ℕ) → c ≤ a → b ≤ d → Touched base a b s t → Touched base c d s t
touched_wider base a b c d s t h k x =
    record {
      long = x.long;
      before = λ q w i. x.before q w (omega arith);
      between = λ q w i j. x.between q w (omega arith) (omega arith);
      behind = λ q w i. x.behind q w (omega arith);
    }

module _ (base a b : ℕ) (s : List ℕ) (within : unit_at base b ≤ length s) (apart : 64 + b ≤ base) (v : List ℕ) where
  pub touched_marks : a + length v ≤ b → Touched base a b s (patch (64 + a) v s)
  touched_marks h =
      let k : 64 + a + length v ≤ length s = omega arith in
      record {
        long = length-patch (64 + a) v s k;
        before = λ q w i. part-patch_before (64 + a) v s k q w i;
        between = λ q w i j. part-patch_after (64 + a) v s k q w (omega arith);
        behind = λ q w i. part-patch_after (64 + a) v s k q w (omega arith);
      }

  pub touched_units : (p : ℕ) → a ≤ b → unit_at base a ≤ p → p + length v ≤ unit_at base b → Touched base a b s (patch p v s)
  touched_units p m h k =
      let l : p + length v ≤ length s = omega arith in
      record {
        long = length-patch p v s l;
        before = λ q w i. part-patch_before p v s l q w (omega arith);
        between = λ q w i j. part-patch_before p v s l q w (omega arith);
        behind = λ q w i. part-patch_after p v s l q w (omega arith);
      }

-- a forest behind what is changed stands as it stood
pub touched_stands : {X : Type 0} {write : X → List ℕ} {Small : X → Type 0} (base a b : ℕ) (s t : List ℕ) (d lo hi : ℕ) (F : Forest X) → Touched base a b s t
    → b ≤ lo → 64 + hi ≤ base → Stands write Small base s d lo hi F → Stands write Small base t d lo hi F
touched_stands base a b s t d lo hi F x h k w =
    record {
      size = w.size;
      units = x.behind (unit_at base lo) (units_f F * 16) (omega arith) ∙ w.units;
      marks = x.between (64 + lo) (units_f F) (omega arith) (omega (arith, w.size)) ∙ w.marks;
      rows = w.rows;
      fits = w.fits;
    }
