-- The units below the nodes that a way goes down from, put right for what now stands at the place. Assumes nothing.
use mathlib.Core.Path.{◌≡◌, refl, ap}
use mathlib.Core.List.{List, [], ◌∷◌, ◌++◌, append_assoc}
use Prim.Native.Nat.{ℕ, ◌+◌, ◌<◌}
use native.Mathlib.Omega.{arith}
use lib.ListN.{length, length-append}
use Rattle.lent.specs.Numbers.{bytes}
use Rattle.lent.proofs.Digits.{length-bytes}
use Rattle.held.specs.Order.{Level}
use Rattle.held.specs.Bytes.{each}
use Rattle.held.specs.Forest.{Forest}
use Rattle.region.specs.Layout.{row_units, units_f, head_bytes, level_bytes, row_bytes, unit_bytes}
use Rattle.region.specs.Forms.{Form}
use Rattle.region.proofs.Decoded.{length_row, length_units}
use Rattle.forest.specs.Places.{unit_at}
use Rattle.change.specs.Ways.{past, down, Way, wide, downs, front}
use Rattle.room.specs.Changes.{moved, counted, belows}
use Rattle.room.proofs.Middle.{counted_mid}
use Rattle.change.proofs.WayLaws.{wide_add}

module _ {X : Type 0} (write' : X → List ℕ) (t : Level) (v : List X) (a z : List ℕ) (p : ℕ) (at : length a ≡ p) where
  -- the number below in the middle of its row
  abbrev ahead' : List ℕ
  ahead' = a ++ (bytes 2 (length t) ++ bytes 2 (length v))

  abbrev rest : List ℕ
  rest = bytes 2 0 ++ (level_bytes t ++ (each write' v ++ z))

  head_of : (b : ℕ) → a ++ (row_bytes write' t v b ++ z) ≡ ahead' ++ (bytes 2 b ++ rest)
  unfolding row_bytes head_bytes
  head_of b = simp append_assoc

  place : length ahead' ≡ p + 4
  place = rw (length-append, length-append, length-bytes, length-bytes) (omega (arith, at))

  pub below-moved : (more less b : ℕ) → b < 65536 → counted (p + 4) more less (a ++ (row_bytes write' t v b ++ z)) ≡ a ++ (row_bytes write' t v (moved more less b) ++ z)
  below-moved more less b h = rw (head_of b, head_of (moved more less b)) (counted_mid more less b ahead' rest (p + 4) place h)

module _ {X : Type 0} (u : Form X) (base more less b c : ℕ) (change : b + more ≡ c + less) where
  wide-moved : (w : Way X) → moved more less (wide w b) ≡ wide w c
  wide-moved w = omega (arith, wide_add w b more, wide_add w c less, ap (wide w) change)

  down_step : (t : Level) (v : List X) (n : Forest X) (w : Way X) (at : ℕ) (s : List ℕ) → belows more less base (downs at (down t v n ∷ w)) s
      ≡ belows more less base (downs (at + row_units t v) w) (counted (unit_at base at + 4) more less s)
  unfolding belows downs
  down_step t v n w at s = refl

  pub belows_front : (w : Way X) (a z : List ℕ) (at : ℕ) → length a ≡ unit_at base at → wide w b < 65536
      → belows more less base (downs at w) (a ++ (front u.write w b ++ z)) ≡ a ++ (front u.write w c ++ z)
  unfolding belows downs front wide
  belows_front [] a z at h k = refl
  belows_front (past t v f ∷ w) a z at h k =
      let l : length (a ++ (row_bytes u.write t v (units_f f) ++ unit_bytes u.write f)) ≡ unit_at base (at + (row_units t v + units_f f)) =
      rw (length-append, length-append, length_row u t v (units_f f), length_units u f) (omega (arith, h)) in
      let ih = belows_front w (a ++ (row_bytes u.write t v (units_f f) ++ unit_bytes u.write f)) z (at + (row_units t v + units_f f)) l (omega (arith, k)) in
      simp append_assoc (simp append_assoc at ih)
  belows_front (down t v n ∷ w) a z at h k =
      let l : length (a ++ row_bytes u.write t v (wide w c)) ≡ unit_at base (at + row_units t v) =
      rw (length-append, length_row u t v (wide w c)) (omega (arith, h)) in
      let ih = belows_front w (a ++ row_bytes u.write t v (wide w c)) z (at + row_units t v) l (omega (arith, k)) in
      let e : counted (unit_at base at + 4) more less (a ++ (row_bytes u.write t v (wide w b) ++ (front u.write w b ++ z))) ≡ a ++ (row_bytes u.write t v (wide w c) ++ (front u.write w b ++ z)) =
      rw (← wide-moved w) (below-moved u.write t v a (front u.write w b ++ z) (unit_at base at) h more less (wide w b) (omega (arith, k))) in
      rw (append_assoc (row_bytes u.write t v (wide w b)) (front u.write w b) z, append_assoc (row_bytes u.write t v (wide w c)) (front u.write w c) z, down_step t v n w at, e)
      (rw (append_assoc a (row_bytes u.write t v (wide w c)) (front u.write w b ++ z), append_assoc a (row_bytes u.write t v (wide w c)) (front u.write w c ++ z)) at ih)
