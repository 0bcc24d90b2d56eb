-- Parts of a region that are written as something: two halves, a number, one byte again and again. Assumes nothing.
use mathlib.Core.Path.{◌≡◌, refl, sym, ap, subst, ◌∙◌}
use Prim.Native.Nat.{ℕ, zero, suc, ◌+◌, ◌-◌, ◌*◌, ◌≤◌, ◌<◌, min}
use mathlib.Core.Bool.{true}
use mathlib.Core.Logic.{⊎_elim}
use mathlib.Core.List.{List, [], ◌∷◌, ◌++◌}
use native.Mathlib.Omega.{arith}
use lib.Dec.{eqb}
use lib.ListN.{length, take, drop, get_or, replicate, length-take, get_or-eq_default}
use lib.Seq.{take_at, drop_at, get_or-take, get_or-drop, take-take}
use borrow.Author.Tests.{eqb-true, eq-eqb}
use Rattle.lent.specs.Numbers.{be, bytes, AreBytes}
use Rattle.lent.specs.Parts.{part}
use Rattle.lent.proofs.Parts.{part_add, part-eq, take_part, drop-part, take-drop, length_part}
use Rattle.lent.proofs.Digits.{bytes-be}
use Rattle.lent.proofs.Anywhere.{lt-or_ge}
use Rattle.held.proofs.Orders.{and_left, and_right}
use Rattle.region.specs.Decode.{units_to}
use Rattle.content.specs.Contents.{every}

pub are-drop : (p : ℕ) (s : List ℕ) → AreBytes s → AreBytes (drop p s)
are-drop p s o i = rw (get_or-drop p s i 0) (o (p + i))

are-take : (w : ℕ) (s : List ℕ) → AreBytes s → AreBytes (take w s)
are-take w s o i =
    ⊎_elim
    (λ (h : i < w). rw (get_or-take w s i 0 h) (o i))
    (λ (h : w ≤ i). let e : get_or (take w s) i 0 ≡ 0 = get_or-eq_default (take w s) 0 {n = i} (rw length-take (omega arith)) in rw e (omega arith))
    (lt-or_ge i w)

pub are-part : (p w : ℕ) (s : List ℕ) → AreBytes s → AreBytes (part p w s)
are-part p w s o = rw (part-eq p w s) (are-take w (drop p s) (are-drop p s o))

-- a number is written as the bytes that it was read from
pub bytes-part : (p w : ℕ) (s : List ℕ) → AreBytes s → p + w ≤ length s → bytes w (be (part p w s)) ≡ part p w s
bytes-part p w s o h =
    rw (length_part p w s h) at (bytes-be (part p w s) (are-part p w s o))

pub part_number : (p w x : ℕ) (s : List ℕ) → AreBytes s → p + w ≤ length s → be (part p w s) ≡ x → part p w s ≡ bytes w x
part_number p w x s o h e = sym (bytes-part p w s o h) ∙ ap (bytes w) e

-- a part that is two lists one after the other
pub part_both : (p a b c : ℕ) (s x y : List ℕ) → c ≡ a + b → part p a s ≡ x → part (p + a) b s ≡ y → part p c s ≡ x ++ y
part_both p a b c s x y e q r = rw (e, part_add p a b s, q, r)

pub part_front : (p a b c : ℕ) (s x y : List ℕ) → c ≡ a + b → length x ≡ a → part p c s ≡ x ++ y → part p a s ≡ x
part_front p a b c s x y e l q =
    let m : min a c ≡ a = omega arith in
    rw m at (sym (take_part a p c s) ∙ ap (take a) q ∙ take_at x y a l)

pub part_back : (p a b c : ℕ) (s x y : List ℕ) → c ≡ a + b → length x ≡ a → part p c s ≡ x ++ y → part (p + a) b s ≡ y
part_back p a b c s x y e l q =
    let m : c - a ≡ b = omega arith in
    rw m at (sym (drop-part a p c s) ∙ ap (drop a) q ∙ drop_at x y a l)

-- one byte again and again
pub every_is : (b : ℕ) (w : List ℕ) → every b w ≡ true → w ≡ replicate (length w) b
unfolding every
every_is b [] e = refl
every_is b (x ∷ w) e =
    let p : x ≡ b = eqb-true x b (and_left (eqb x b) (every b w) e) in
    let q : w ≡ replicate (length w) b = every_is b w (and_right (eqb x b) (every b w) e) in
    ap (λ (y : ℕ). y ∷ w) p ∙ ap (λ (l : List ℕ). b ∷ l) q

pub is-every : (b n : ℕ) → every b (replicate n b) ≡ true
unfolding every
is-every b zero = refl
is-every b (suc n) = rw (eq-eqb b b refl) (is-every b n)

-- as many units as a number says
module _ {X : Type 0} (read : List ℕ → X) where
  pub units-length : (m : ℕ) (w : List ℕ) → length (units_to read m w) ≡ m
  unfolding units_to
  units-length zero w = refl
  units-length (suc m) w = ap suc (units-length m (drop 16 w))

  pub units-take : (m w : ℕ) (s : List ℕ) → m * 16 ≤ w → units_to read m (take w s) ≡ units_to read m s
  unfolding units_to
  units-take zero w s h = refl
  units-take (suc m) w s h =
      let e : w ≡ 16 + (w - 16) = omega arith in
      let d : drop 16 (take w s) ≡ take (w - 16) (drop 16 s) = subst (λ (x : ℕ). drop 16 (take x s) ≡ take (w - 16) (drop 16 s)) (sym e) (sym (take-drop 16 (w - 16) s)) in
      rw (take-take 16 w s (omega arith), d, units-take m (w - 16) (drop 16 s) (omega arith))
