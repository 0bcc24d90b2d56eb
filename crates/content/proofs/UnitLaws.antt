-- The tests of units, as the code makes them. Assumes nothing.
use mathlib.Core.Path.{◌≡◌, refl, sym, ap, ◌∙◌}
use Prim.Native.Nat.{ℕ, zero, suc, ◌+◌, ◌-◌, ◌*◌, ◌≤◌, ◌<◌}
use mathlib.Core.Bool.{Bool, true, false, ◌&&◌, ◌||◌, and_assoc}
use mathlib.Core.List.{List, [], ◌∷◌}
use Rattle.std.proofs.Common.{◌==◌}
use Rattle.std.specs.List.{list_all}
use native.Mathlib.Omega.{arith}
use native.Mathlib.Nat.{add-zero}
use lib.Dec.{eqb, ltb}
use lib.ListN.{length, take, drop}
use lib.Seq.{drop-drop}
use Rattle.lent.specs.Numbers.{be}
use Rattle.lent.specs.Parts.{part}
use Rattle.lent.specs.Total.{read}
use Rattle.lent.proofs.Anywhere.{read_in, from-part}
use Rattle.content.specs.Contents.{every, upward, values_fine, records_fine}

-- one byte again and again
every_all : (b : ℕ) (l : List ℕ) → list_all (λ (x : ℕ). x == b) l ≡ every b l
unfolding every
every_all b [] = refl
every_all b (x ∷ l) = ap (λ (t : Bool). (x == b) && t) (every_all b l)

module _ (b from to : ℕ) (s : List ℕ) where
  pub every_none : to ≤ from → every b (part from (to - from) s) ≡ true
  unfolding every part
  every_none h = let z : to - from ≡ 0 = omega arith in rw z

  pub every_part : list_all (λ (x : ℕ). x == b) (take (to - from) (drop from s)) ≡ every b (part from (to - from) s)
  unfolding part
  every_part = every_all b (take (to - from) (drop from s))

-- numbers behind a place
module _ (p : ℕ) (s : List ℕ) where
  number_at : (q w : ℕ) → p + q + w ≤ length s → be (part q w (drop p s)) ≡ read w (p + q) s
  unfolding part
  number_at q w h = ap (λ (l : List ℕ). be (take w l)) (drop-drop q p s) ∙ sym (read_in w (p + q) s h)

  number_here : (w : ℕ) → p + w ≤ length s → be (part 0 w (drop p s)) ≡ read w p s
  unfolding part
  number_here w h = sym (read_in w p s h)

-- the next value
pub up_some : (at left : ℕ) (s : List ℕ) {a b : ℕ} → (left ≡ 0 → ⊥) → at + 16 + left * 16 ≤ length s → a ≡ read 4 0 (take (at + 32 - at) (drop at s)) → b ≡ read 4 16 (take (at + 32 - at) (drop at s))
    → ltb a b ≡ upward left (drop at s)
up_some at zero s z h ea eb = absurd (z refl)
up_some at (suc left) s z h ea eb =
    rw (ea, eb, from-part at 32 0 4 s (omega arith) (omega arith), from-part at 32 16 4 s (omega arith) (omega arith), add-zero, number_here at s 4 (omega arith), number_at at s 16 4 (omega arith))

-- a number in a unit of 16 bytes
pub read_unit : (w q p : ℕ) (s : List ℕ) → q + w ≤ 16 → p + 16 ≤ length s → read w q (take (p + 16 - p) (drop p s)) ≡ read w (p + q) s
read_unit w q p s h k = from-part p 16 q w s h k

-- values: no more, and one more at place p, where `left` are left
pub values_none : (left : ℕ) (w : List ℕ) → left ≤ 0 → values_fine left w ≡ true
unfolding values_fine
values_none left w h = let z : left ≡ 0 = omega arith in rw z

pub values_cons : (p left : ℕ) (s : List ℕ) → 0 < left → p + left * 16 ≤ length s → values_fine left (drop p s)
    ≡ ((eqb (read 4 (p + 4) s) 0 && eqb (read 8 (p + 8) s) 0 && upward (left - 1) (drop p s)) && values_fine (left - 1) (drop (p + 16) s))
unfolding values_fine
values_cons p zero s h k = absurd (omega arith)
values_cons p (suc left) s h k =
    let e : suc left - 1 ≡ left = omega arith in
    rw (e, number_at p s 4 4 (omega arith), number_at p s 8 8 (omega arith), drop-drop 16 p s)
    (sym (and_assoc (eqb (read 4 (p + 4) s) 0 && eqb (read 8 (p + 8) s) 0) (upward left (drop p s)) (values_fine left (drop (p + 16) s))))

pub ruleset values = (values_none, values_cons)

-- records: none, one, or more
module _ (own : ℕ) where
  pub records_none : (w : List ℕ) → own ≡ 0 → records_fine own w ≡ true
  unfolding records_fine
  records_none w e = rw e

  pub records_one : (at : ℕ) (s : List ℕ) → own ≡ 1 → at + 16 ≤ length s
      → records_fine own (drop at s) ≡ (eqb (read 4 (at + 4) s) 0x1000000 || (eqb (read 4 (at + 4) s) 0 && eqb (read 8 (at + 8) s) 0))
  unfolding records_fine
  records_one at s e h = rw (e, number_at at s 4 4 (omega arith), number_at at s 8 8 (omega arith))

  pub records_more : (w : List ℕ) → 1 < own → records_fine own w ≡ false
  unfolding records_fine
  records_more w h = let e : own ≡ suc (suc (own - 2)) = omega arith in rw e

pub ruleset records = (read_unit, records_none, records_one, records_more)
