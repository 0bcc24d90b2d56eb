-- A chain of new nodes is written down as the run of its levels. Assumes nothing.
use mathlib.Core.Path.{◌≡◌, refl, sym, ap, ◌∙◌}
use mathlib.Core.List.{List, [], ◌∷◌, ◌++◌, append_assoc, append-nil}
use Prim.Native.Nat.{ℕ, ◌+◌, ◌-◌}
use native.Mathlib.Omega.{arith}
use lib.ListN.{length}
use Rattle.held.specs.Order.{Level, Filter}
use Rattle.held.specs.Forest.{Forest, leaf, fork}
use Rattle.held.specs.Edit.{edit_own, chain, weigh}
use Rattle.region.specs.Layout.{level_units, units_f, row_bytes, unit_bytes, marks_of}
use Rattle.lent.proofs.Turns.{replicate_last}
use Rattle.room.specs.Runs.{run_units, run_bytes, run_marks}
use Rattle.change.specs.Ways.{row_marks}
use Rattle.change.specs.Reach.{grow_here}
use Rattle.room.proofs.RunLaws.{run_on, marks-on}

-- a level weighs 1
pub weigh_one : (gs : Filter) → weigh (λ l. 1) gs ≡ length gs
weigh_one [] = refl
weigh_one (g ∷ gs) = omega (arith, weigh_one gs)

pub marks-none : (X : Type 0) (d : ℕ) → marks_of {X = X} d leaf ≡ []
unfolding marks_of
marks-none X d = refl

module _ {X : Type 0} where
  pub fork-bytes : (write : X → List ℕ) (t : Level) (v : List X) (k n : Forest X) → unit_bytes write (fork t v k n) ≡ row_bytes write t v (units_f k) ++ (unit_bytes write k ++ unit_bytes write n)
  unfolding unit_bytes
  fork-bytes write t v k n = refl

  pub fork_marks : (d : ℕ) (t : Level) (v : List X) (k n : Forest X) → marks_of d (fork t v k n) ≡ row_marks d t v ++ (marks_of (d + 1) k ++ marks_of d n)
  unfolding marks_of
  fork_marks d t v k n = refl

  -- a node with its children, and what follows in its row
  pub fork-split : (write : X → List ℕ) (t : Level) (v : List X) (k n : Forest X) → unit_bytes write (fork t v k n) ≡ unit_bytes write (fork t v k leaf) ++ unit_bytes write n
  unfolding unit_bytes
  fork-split write t v k n = simp (append_assoc, append-nil)

  pub marks-split : (d : ℕ) (t : Level) (v : List X) (k n : Forest X) → marks_of d (fork t v k n) ≡ marks_of d (fork t v k leaf) ++ marks_of d n
  unfolding marks_of
  marks-split d t v k n = simp (append_assoc, append-nil)

  pub units-split : (t : Level) (v : List X) (k n : Forest X) → units_f (fork t v k n) ≡ units_f (fork t v k leaf) + units_f n
  unfolding units_f
  units-split t v k n = omega arith

  chain-on : (e : List X → List X) (g : Level) (gs : Filter) → chain e (g ∷ gs) ≡ fork g (edit_own e gs []) (chain e gs) leaf
  unfolding chain
  chain-on e g gs = refl

  here_is : (e : List X → List X) (g : Level) (gs : Filter) (G : Forest X) → grow_here e (g ∷ gs) G ≡ fork g (edit_own e gs []) (chain e gs) G
  unfolding grow_here
  here_is e g gs G = refl

module _ {X : Type 0} (e : List X → List X) (y : X) (one : e [] ≡ y ∷ []) where
  pub run-units : (g : Level) (gs : Filter) → units_f (chain e (g ∷ gs)) ≡ run_units (g ∷ gs)
  unfolding chain units_f run_units
  run-units g [] = rw one (omega arith)
  run-units g (h ∷ hs) = rw (run-units h hs) (omega arith)

  pub run-bytes : (write : X → List ℕ) (g : Level) (gs : Filter) → unit_bytes write (chain e (g ∷ gs)) ≡ run_bytes (write y) (g ∷ gs)
  unfolding chain unit_bytes run_bytes row_bytes units_f run_units
  run-bytes write g [] = rw one (simp (append_assoc, append-nil))
  run-bytes write g (h ∷ hs) =
      let z : run_units (h ∷ hs) - 0 ≡ run_units (h ∷ hs) = omega arith in
      ap (unit_bytes write) (chain-on e g (h ∷ hs)) ∙ fork-bytes write g [] (chain e (h ∷ hs)) leaf
      ∙ rw (run-bytes write h hs, run-units h hs, run_on (write y) g (h ∷ hs), z) (simp (append_assoc, append-nil))

  marks_step : (d : ℕ) (g h : Level) (hs : Filter) → marks_of (d + 1) (chain e (h ∷ hs)) ≡ run_marks (d + 1) (h ∷ hs) → marks_of d (chain e (g ∷ h ∷ hs)) ≡ run_marks d (g ∷ h ∷ hs)
  marks_step d g h hs ih =
      let z : level_units g + 0 - 1 ≡ level_units g - 1 = omega arith in
      ap (marks_of d) (chain-on e g (h ∷ hs)) ∙ fork_marks d g [] (chain e (h ∷ hs)) leaf
      ∙ rw (ih, marks-none X d, append-nil, z, marks-on d g (h ∷ hs))

  pub run-marks : (d : ℕ) (g : Level) (gs : Filter) → marks_of d (chain e (g ∷ gs)) ≡ run_marks d (g ∷ gs)
  unfolding chain marks_of run_marks
  run-marks d g [] =
      let z : level_units g + 1 - 1 ≡ level_units g - 1 + 1 = omega arith in
      rw (one, append-nil, z, ← replicate_last (level_units g - 1) 255)
  run-marks d g (h ∷ hs) = marks_step d g h hs (run-marks (d + 1) h hs)

  -- new nodes before a row
  module _ (g : Level) (gs : Filter) (G : Forest X) where
    pub before_units : units_f (grow_here e (g ∷ gs) G) ≡ run_units (g ∷ gs) + units_f G
    before_units =
        ap units_f (here_is e g gs G) ∙ units-split g (edit_own e gs []) (chain e gs) G
        ∙ ap (λ (k : ℕ). k + units_f G) (ap units_f (sym (chain-on e g gs)) ∙ run-units g gs)

    pub before-bytes : (write : X → List ℕ) → unit_bytes write (grow_here e (g ∷ gs) G) ≡ run_bytes (write y) (g ∷ gs) ++ unit_bytes write G
    before-bytes write =
        ap (unit_bytes write) (here_is e g gs G) ∙ fork-split write g (edit_own e gs []) (chain e gs) G
        ∙ ap (λ (k : List ℕ). k ++ unit_bytes write G) (ap (unit_bytes write) (sym (chain-on e g gs)) ∙ run-bytes write g gs)

    pub before_marks : (d : ℕ) → marks_of d (grow_here e (g ∷ gs) G) ≡ run_marks d (g ∷ gs) ++ marks_of d G
    before_marks d =
        ap (marks_of d) (here_is e g gs G) ∙ marks-split d g (edit_own e gs []) (chain e gs) G
        ∙ ap (λ (k : List ℕ). k ++ marks_of d G) (ap (marks_of d) (sym (chain-on e g gs)) ∙ run-marks d g gs)
