-- A node that is left, by its bytes: what stays of its row, and its head with other numbers. Assumes nothing.
use mathlib.Core.Path.{◌≡◌, refl, sym, ap, subst, ◌∙◌}
use mathlib.Core.Bool.{Bool, true, false, cond}
use mathlib.Core.List.{List, [], ◌∷◌, ◌++◌, append_assoc, append-nil}
use Prim.Native.Nat.{ℕ, ◌+◌, ◌*◌, ◌≤◌}
use native.Mathlib.Omega.{arith}
use native.Mathlib.Nat.{add-zero}
use lib.ListN.{length, length-append}
use lib.Seq.{take_at, drop_at}
use Rattle.lent.specs.Numbers.{bytes}
use Rattle.lent.specs.Parts.{part, patch}
use Rattle.lent.proofs.Parts.{part_add, part-part, part-patch, part-patch_before, part-patch_after}
use Rattle.lent.proofs.Digits.{length-bytes}
use Rattle.held.specs.Order.{Level}
use Rattle.held.specs.Bytes.{each}
use Rattle.held.specs.Ascending.{keep}
use Rattle.held.specs.Forest.{Forest, leaf, fork, Single}
use Rattle.held.specs.Edit.{pruned}
use Rattle.region.specs.Layout.{level_units, row_units, units_f, head_bytes, level_bytes, row_bytes, unit_bytes}
use Rattle.region.specs.Forms.{Form}
use Rattle.region.proofs.Decoded.{length_head, length_level, length-each, length_row}
use Rattle.forest.specs.Places.{unit_at}
use Rattle.forest.specs.Stands.{Stands}
use Rattle.forest.proofs.StandsLaws.{fork_units}

-- a beginning of what stands at a place
pub part_front : (p w : ℕ) (x y s : List ℕ) (m : ℕ) → m ≤ w → length x ≡ m → part p w s ≡ x ++ y → part p m s ≡ x
unfolding part
part_front p w x y s m h l e = rw add-zero at (sym (part-part 0 m p w s (omega (arith, h)))) ∙ ap (part 0 m) e ∙ take_at x y m l

-- and what stands behind it
pub part_behind : (p w : ℕ) (x y s : List ℕ) (m n : ℕ) → m + n ≡ w → length x ≡ m → length y ≡ n → part p w s ≡ x ++ y → part (p + m) n s ≡ y
unfolding part
part_behind p w x y s m n h l k e =
    sym (part-part m n p w s (omega (arith, h))) ∙ ap (part m n) e ∙ rw (drop_at x y m l) (rw append-nil at (take_at y [] n k))

-- two numbers of a head written anew
pub head-told : (at own below o b w : ℕ) (l : Level) (z s : List ℕ) → 8 + length z ≡ w → at + w ≤ length s → part at w s ≡ head_bytes l o b ++ z
    → part at w (patch (at + 2) (bytes 2 own ++ bytes 2 below) s) ≡ head_bytes l own below ++ z
unfolding head_bytes
head-told at own below o b w l z s h k e =
    let b2 : (x : ℕ) → length (bytes 2 x) ≡ 2 = λ x. length-bytes 2 x in
    let v : List ℕ = bytes 2 own ++ bytes 2 below in
    let lv : length v ≡ 4 = length-append (bytes 2 own) (bytes 2 below) ∙ rw (b2 own, b2 below) in
    let old : List ℕ = bytes 2 o ++ bytes 2 b in
    let lo : length old ≡ 4 = length-append (bytes 2 o) (bytes 2 b) ∙ rw (b2 o, b2 b) in
    let lz : length (bytes 2 0 ++ z) ≡ 2 + length z = length-append (bytes 2 0) z ∙ rw (b2 0) in
    let f : at + 2 + length v ≤ length s = omega (arith, lv) in
    let shape : (x y : ℕ) → (bytes 2 (length l) ++ (bytes 2 x ++ (bytes 2 y ++ bytes 2 0))) ++ z ≡ bytes 2 (length l) ++ ((bytes 2 x ++ bytes 2 y) ++ (bytes 2 0 ++ z)) = λ x y. simp append_assoc in
    let e' : part at w s ≡ bytes 2 (length l) ++ (old ++ (bytes 2 0 ++ z)) = e ∙ shape o b in
    let first : part at 2 s ≡ bytes 2 (length l) = part_front at w (bytes 2 (length l)) (old ++ (bytes 2 0 ++ z)) s 2 (omega (arith, h)) (b2 (length l)) e' in
    let rest : part (at + 2) (4 + (2 + length z)) s ≡ old ++ (bytes 2 0 ++ z) =
    part_behind at w (bytes 2 (length l)) (old ++ (bytes 2 0 ++ z)) s 2 (4 + (2 + length z)) (omega (arith, h)) (b2 (length l)) (length-append old (bytes 2 0 ++ z) ∙ rw (lo, lz)) e' in
    let last : part (at + 2 + 4) (2 + length z) s ≡ bytes 2 0 ++ z = part_behind (at + 2) (4 + (2 + length z)) old (bytes 2 0 ++ z) s 4 (2 + length z) refl lo lz rest in
    let w' : w ≡ 2 + (4 + (2 + length z)) = omega (arith, h) in
    let mid : part (at + 2) 4 (patch (at + 2) v s) ≡ v = rw lv at (part-patch (at + 2) v s f) in
    let t = patch (at + 2) v s in
    rw w' (part_add at 2 (4 + (2 + length z)) t
    ∙ rw (part_add (at + 2) 4 (2 + length z) t, part-patch_before (at + 2) v s f at 2 (omega arith), first, mid, part-patch_after (at + 2) v s f (at + 2 + 4) (2 + length z) (omega (arith, lv)), last)
    (sym (shape own below)))

-- a node in front of a row: it is there unless it holds nothing and has no child
module _ {X : Type 0} (l : Level) where
  no_units : (k : Forest X) → units_f k ≡ 0 → k ≡ leaf
  no_units leaf h = refl
  no_units (fork t v k n) h = absurd (omega (arith, h, fork_units t v k n))

  pub pruned-gone : (v : List X) (k n : Forest X) → length v + units_f k ≡ 0 → pruned l v k n ≡ n
  unfolding pruned
  pruned-gone [] k n h = rw (no_units k (omega (arith, h)))
  pruned-gone (x ∷ v) k n h = absurd (omega (arith, h))

  pub pruned-stays : (v : List X) (k n : Forest X) → (length v + units_f k ≡ 0 → ⊥) → pruned l v k n ≡ fork l v k n
  unfolding pruned units_f
  pruned-stays [] leaf n h = absurd (h refl)
  pruned-stays [] (fork t v k m) n h = refl
  pruned-stays (x ∷ v) k n h = refl

-- the row of a node that stands
module _ {X : Type 0} (u : Form X) (base : ℕ) (s : List ℕ) (d lo hi : ℕ) (l : Level) (v : List X) (k n : Forest X) (w : Stands u.write u.Small base s d lo hi (fork l v k n)) where
  pub row-part : part (unit_at base lo) (row_units l v * 16) s ≡ row_bytes u.write l v (units_f k)
  unfolding unit_bytes
  row-part =
      part_front (unit_at base lo) (units_f (fork l v k n) * 16) (row_bytes u.write l v (units_f k)) (unit_bytes u.write k ++ unit_bytes u.write n) s (row_units l v * 16)
      (omega (arith, fork_units l v k n)) (length_row u l v (units_f k)) w.units

  abbrev own : ℕ
  own = length v

  front_long : length (head_bytes l (length v) (units_f k) ++ level_bytes l) ≡ level_units l * 16
  front_long = length-append (head_bytes l (length v) (units_f k)) (level_bytes l) ∙ rw (length_head l (length v) (units_f k)) (length_level l)

  row_shape : part (unit_at base lo) (row_units l v * 16) s ≡ (head_bytes l (length v) (units_f k) ++ level_bytes l) ++ each u.write v
  unfolding row_bytes
  row_shape = row-part ∙ sym (append_assoc (head_bytes l (length v) (units_f k)) (level_bytes l) (each u.write v))

  -- the unit of the one that it holds
  pub unit-part : (x : X) → v ≡ x ∷ [] → part (unit_at base (lo + level_units l)) 16 s ≡ u.write x
  unit-part x e =
      let p : unit_at base lo + level_units l * 16 ≡ unit_at base (lo + level_units l) = omega arith in
      let lv : length (each u.write v) ≡ 16 = length-each u v ∙ rw e in
      let ev : each u.write v ≡ u.write x = rw e (append-nil (u.write x)) in
      rw p at (part_behind (unit_at base lo) (row_units l v * 16) (head_bytes l (length v) (units_f k) ++ level_bytes l) (each u.write v) s (level_units l * 16) 16
      (omega (arith, ap length e)) front_long lv row_shape) ∙ ev

  -- what stays of it
  pub row_kept : (q : X → Bool) → Single v → part (unit_at base lo) ((level_units l + length (keep q v)) * 16) s ≡ head_bytes l (length v) (units_f k) ++ (level_bytes l ++ each u.write (keep q v))
  row_kept q h = go v refl h
    where
      all : part (unit_at base lo) ((level_units l + length v) * 16) s ≡ head_bytes l (length v) (units_f k) ++ (level_bytes l ++ each u.write v)
      all = row_shape ∙ append_assoc (head_bytes l (length v) (units_f k)) (level_bytes l) (each u.write v)

      none : part (unit_at base lo) ((level_units l + 0) * 16) s ≡ head_bytes l (length v) (units_f k) ++ (level_bytes l ++ [])
      none =
          rw (add-zero, append-nil)
          (part_front (unit_at base lo) (row_units l v * 16) (head_bytes l (length v) (units_f k) ++ level_bytes l) (each u.write v) s (level_units l * 16) (omega arith) front_long row_shape)

      one : (x : X) → v ≡ x ∷ [] → (t : Bool) → part (unit_at base lo) ((level_units l + length (cond t (x ∷ []) [])) * 16) s ≡ head_bytes l (length v) (units_f k) ++ (level_bytes l ++ each u.write (cond t (x ∷ []) []))
      one x e true = subst (λ (y : List X). part (unit_at base lo) ((level_units l + length y) * 16) s ≡ head_bytes l (length v) (units_f k) ++ (level_bytes l ++ each u.write y)) e all
      one x e false = none

      go : (y : List X) → v ≡ y → Single y → part (unit_at base lo) ((level_units l + length (keep q y)) * 16) s ≡ head_bytes l (length v) (units_f k) ++ (level_bytes l ++ each u.write (keep q y))
      go [] e h = none
      go (x ∷ []) e h = one x e (q x)
      go (x ∷ y ∷ z) e h = absurd h
