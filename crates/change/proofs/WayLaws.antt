-- A forest with something plugged in: its units and marks are those before the place, those of what is there, and those
-- behind. Assumes nothing.
use mathlib.Core.Path.{◌≡◌, refl, ◌∙◌}
use mathlib.Core.List.{[], ◌∷◌, ◌++◌, append_assoc, append-nil}
use Prim.Native.Nat.{ℕ, ◌+◌, ◌*◌, ◌≤◌}
use native.Mathlib.Omega.{arith}
use lib.ListN.{length, length-append, length-replicate}
use Rattle.held.specs.Forest.{Forest}
use Rattle.region.specs.Layout.{units_f, unit_bytes, marks_of}
use Rattle.region.specs.Forms.{Form}
use Rattle.region.proofs.Decoded.{length_row, length_units}
use Rattle.forest.proofs.StandsLaws.{fork_units, length_marks}
use Rattle.change.specs.Ways.{past, down, Way, plug, wide, ahead, front, behind, deep, mark_front, mark_behind}

module _ {X : Type 0} where
  pub units_plug : (w : Way X) (G : Forest X) → units_f (plug w G) ≡ wide w (units_f G)
  unfolding plug wide
  units_plug [] G = refl
  units_plug (past t v k ∷ w) G = fork_units t v k (plug w G) ∙ rw (units_plug w G)
  units_plug (down t v n ∷ w) G = fork_units t v (plug w G) n ∙ rw (units_plug w G)

  -- more at the place is as much more in all
  pub wide_add : (w : Way X) (b c : ℕ) → wide w (b + c) ≡ wide w b + c
  unfolding wide
  wide_add [] b c = refl
  wide_add (past t v k ∷ w) b c = rw (wide_add w b c) (omega arith)
  wide_add (down t v n ∷ w) b c = rw (wide_add w b c) (omega arith)

  pub wide_ahead : (w : Way X) (c : ℕ) → ahead w + c ≤ wide w c
  unfolding wide ahead
  wide_ahead [] c = omega arith
  wide_ahead (past t v k ∷ w) c = omega (arith, wide_ahead w c)
  wide_ahead (down t v n ∷ w) c = omega (arith, wide_ahead w c)

module _ {X : Type 0} (u : Form X) where
  pub length_front : (w : Way X) (c : ℕ) → length (front u.write w c) ≡ ahead w * 16
  unfolding front ahead
  length_front [] c = refl
  length_front (past t v k ∷ w) c = rw (length-append, length-append, length_row u t v (units_f k), length_units u k, length_front w c) (omega arith)
  length_front (down t v n ∷ w) c = rw (length-append, length_row u t v (wide w c), length_front w c) (omega arith)

  pub bytes_plug : (w : Way X) (G : Forest X) → unit_bytes u.write (plug w G) ≡ front u.write w (units_f G) ++ (unit_bytes u.write G ++ behind u.write w)
  unfolding plug front behind unit_bytes
  bytes_plug [] G = rw append-nil
  bytes_plug (past t v k ∷ w) G = rw (bytes_plug w G) (simp append_assoc)
  bytes_plug (down t v n ∷ w) G = rw (bytes_plug w G, units_plug w G) (simp append_assoc)

module _ {X : Type 0} where
  pub length_mark_front : (d : ℕ) (w : Way X) → length (mark_front d w) ≡ ahead w
  unfolding mark_front ahead
  length_mark_front d [] = refl
  length_mark_front d (past t v k ∷ w) = rw (length-append, length-append, length-replicate, length_marks (d + 1) k, length_mark_front d w) (omega arith)
  length_mark_front d (down t v n ∷ w) = rw (length-append, length-replicate, length_mark_front (d + 1) w) (omega arith)

  pub marks_plug : (d : ℕ) (w : Way X) (G : Forest X) → marks_of d (plug w G) ≡ mark_front d w ++ (marks_of (deep d w) G ++ mark_behind d w)
  unfolding plug mark_front mark_behind deep marks_of
  marks_plug d [] G = rw append-nil
  marks_plug d (past t v k ∷ w) G = rw (marks_plug d w G) (simp append_assoc)
  marks_plug d (down t v n ∷ w) G = rw (marks_plug (d + 1) w G) (simp append_assoc)
