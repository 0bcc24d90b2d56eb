-- What a node holds stands unit by unit behind its level, and its row ends behind that. Assumes nothing.
use mathlib.Core.Path.{◌≡◌, sym, ◌∙◌}
use mathlib.Core.List.{List, [], ◌∷◌, ◌++◌, append_assoc}
use Prim.Native.Nat.{ℕ, zero, suc, ◌+◌, ◌*◌, ◌<◌}
use native.Mathlib.Omega.{arith}
use lib.ListN.{length, get_or, length-append}
use lib.Seq.{take_at, drop-append-add}
use Rattle.lent.specs.Parts.{part}
use Rattle.held.specs.Order.{Level}
use Rattle.held.specs.Bytes.{each}
use Rattle.held.specs.Forest.{Forest, fork}
use Rattle.region.specs.Layout.{level_units, row_units, units_f, head_bytes, level_bytes, row_bytes, unit_bytes}
use Rattle.region.specs.Forms.{Form}
use Rattle.region.proofs.Decoded.{length_head, length_level, length_row}
use Rattle.forest.specs.Places.{unit_at}
use Rattle.forest.specs.Stands.{Stands}
use Rattle.forest.proofs.StandsLaws.{fork_units}
use Rattle.seek.proofs.Parted.{front-part, back-part}

module _ {X : Type 0} (u : Form X) where
  pub each_at : (v : List X) (j : ℕ) (x : X) → j < length v → part (j * 16) 16 (each u.write v) ≡ u.write (get_or v j x)
  unfolding part
  each_at [] j x h = absurd (omega arith)
  each_at (y ∷ v) zero x h = take_at (u.write y) (each u.write v) 16 (u.long y)
  each_at (y ∷ v) (suc j) x h =
      let e : suc j * 16 ≡ length (u.write y) + j * 16 = omega (arith, u.long y) in
      rw (e, drop-append-add (u.write y) (each u.write v) (j * 16)) (each_at v j x (omega arith))

  module _ (base : ℕ) (s : List ℕ) (d lo hi : ℕ) (t : Level) (v : List X) (k n : Forest X) (w : Stands u.write u.Small base s d lo hi (fork t v k n)) where
    row_there : part (unit_at base lo) (row_units t v * 16) s ≡ (head_bytes t (length v) (units_f k) ++ level_bytes t) ++ each u.write v
    unfolding unit_bytes row_bytes
    row_there =
        front-part (unit_at base lo) (units_f (fork t v k n) * 16) (row_units t v * 16) ((units_f k + units_f n) * 16) (row_bytes u.write t v (units_f k)) (unit_bytes u.write k ++ unit_bytes u.write n) s
        w.units (length_row u t v (units_f k)) (omega (arith, fork_units t v k n))
        ∙ sym (append_assoc (head_bytes t (length v) (units_f k)) (level_bytes t) (each u.write v))

    -- all that it holds
    pub stands_holds : part (unit_at base (lo + level_units t)) (length v * 16) s ≡ each u.write v
    stands_holds =
        let h : length (head_bytes t (length v) (units_f k) ++ level_bytes t) ≡ level_units t * 16 = rw (length-append, length_head) (length_level t) in
        let p : unit_at base lo + level_units t * 16 ≡ unit_at base (lo + level_units t) = omega arith in
        rw p at (back-part (unit_at base lo) (row_units t v * 16) (level_units t * 16) (length v * 16) (head_bytes t (length v) (units_f k) ++ level_bytes t) (each u.write v) s row_there h (omega arith))
