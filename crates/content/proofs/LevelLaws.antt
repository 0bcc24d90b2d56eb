-- The tests of a level, as the code makes them. Assumes nothing.
use mathlib.Core.Path.{◌≡◌, ◌∙◌, ap, refl, sym}
use Prim.Native.Nat.{ℕ, zero, suc, ◌+◌, ◌-◌, ◌≤◌, ◌<◌}
use mathlib.Core.Bool.{Bool, true, false, not, cond, ◌&&◌, and-true, and-false, and_assoc, true≢false}
use mathlib.Core.Logic.{⊎_elim}
use mathlib.Core.List.{List, [], ◌∷◌}
use native.Mathlib.Omega.{arith}
use lib.Dec.{eqb, ltb, leb}
use Rattle.std.specs.List.{fold, enumerate_from}
use lib.ListN.{length, take, drop}
use borrow.Author.Tests.{ne_eqb, leb-true, lt-ltb, le-ltb, not-true}
use Rattle.lent.proofs.Anywhere.{lt-or_ge}
use Rattle.utf8.specs.Classes.{is_ascii}
use Rattle.utf8.proofs.Turns.{ascii_utf8}
use Rattle.level.specs.Levels.{has}
use Rattle.level.specs.Kinds.{wild}
use Rattle.held.proofs.Orders.{and_left, and_right}
use Rattle.region.specs.declared.Kind.{Kind}
use Rattle.region.specs.declared.Kind.TheVariants.{Subscriptions, Retained}
use Rattle.content.specs.Contents.{every, fault, level_fine, plain_byte, plain, plain_to}

-- all bytes, from the first on
pub plain_fold : (t : Bool) (l : List ℕ) → fold (λ (a : Bool) (b : ℕ). a && plain_byte b) t l ≡ (t && plain l)
unfolding plain
plain_fold t [] = sym (and-true t)
plain_fold t (b ∷ l) = rw (plain_fold (t && plain_byte b) l, and_assoc t (plain_byte b))

-- the same of a level and its fill
module _ (len : ℕ) where
  short_cons : (j b : ℕ) (w : List ℕ) → plain_to (len - j) (b ∷ w) ≡ (cond (ltb j len) (plain_byte b) (eqb b 0) && plain_to (len - (j + 1)) w)
  unfolding plain_to
  short_cons j b w =
      ⊎_elim
      (λ (q : j < len). let e : len - j ≡ suc (len - (j + 1)) = omega arith in rw (e, lt-ltb j len q))
      (λ (q : len ≤ j). let e : len - j ≡ 0 = omega arith in let f : len - (j + 1) ≡ 0 = omega arith in rw (e, f, le-ltb j len q))
      (lt-or_ge j len)

  pub short_fold : (j : ℕ) (t : Bool) (w : List ℕ)
      → fold (λ (a : Bool) (p : ℕ × ℕ). a && cond (ltb p.0 len) (plain_byte p.1) (eqb p.1 0)) t (enumerate_from j w) ≡ (t && plain_to (len - j) w)
  unfolding plain_to
  short_fold j t [] = sym (and-true t)
  short_fold j t (b ∷ w) =
      let x : Bool = cond (ltb j len) (plain_byte b) (eqb b 0) in
      short_fold (j + 1) (t && x) w ∙ and_assoc t x (plain_to (len - (j + 1)) w) ∙ ap (λ (y : Bool). t && y) (sym (short_cons j b w))

-- a level of plain bytes is fine
three : (a b c d : Bool) → (a && (b && (c && d))) ≡ true → (a ≡ true) × (b ≡ true) × (c ≡ true) × (d ≡ true)
three true true true d q = (refl, refl, refl, q)
three true true false d q = absurd (true≢false (sym q))
three true false c d q = absurd (true≢false (sym q))
three false b c d q = absurd (true≢false (sym q))

module _ (b : ℕ) (e : plain_byte b ≡ true) where
  tests : (leb 36 b ≡ true) × (leb b 127 ≡ true) × (not (eqb b 43) ≡ true) × (not (eqb b 47) ≡ true)
  tests = three (leb 36 b) (leb b 127) (not (eqb b 43)) (not (eqb b 47)) e

  low : 36 ≤ b
  low = leb-true 36 b tests.0

  no_nul : eqb b 0 ≡ false
  no_nul = ne_eqb b 0 (λ z. omega (arith, low, z))

  no-hash : eqb b 35 ≡ false
  no-hash = ne_eqb b 35 (λ z. omega (arith, low, z))

  no_plus : eqb b 43 ≡ false
  no_plus = not-true (eqb b 43) tests.2

  no_slash : eqb b 47 ≡ false
  no_slash = not-true (eqb b 47) tests.3

  is-ascii : ltb b 0x80 ≡ true
  is-ascii = lt-ltb b 0x80 (omega (arith, leb-true b 127 tests.1))

plain_parts : (l : List ℕ) → plain l ≡ true → (is_ascii l ≡ true) × (has 0 l ≡ false) × (has 47 l ≡ false) × (wild l ≡ false)
unfolding plain
plain_parts [] e = (refl, refl, refl, refl)
plain_parts (b ∷ l) e =
    let p = and_left (plain_byte b) (plain l) e in
    let r = plain_parts l (and_right (plain_byte b) (plain l) e) in
    (rw (is-ascii b p) r.0, rw (no_nul b p) r.1, rw (no_slash b p) r.2, rw (no_plus b p, no-hash b p) r.3)

fault-none : (k : Kind) (l : List ℕ) → wild l ≡ false → fault k l ≡ false
fault-none Subscriptions l e = rw e (and-false (ltb 1 (length l)))
fault-none Retained l e = e

pub plain_level : (k : Kind) (l : List ℕ) → plain l ≡ true → level_fine k l ≡ true
unfolding level_fine
plain_level k l e =
    let p = plain_parts l e in
    rw (ascii_utf8 l p.0, p.1, p.2, fault-none k l p.3)

-- a short level with its fill
plain_fill : (n : ℕ) (w : List ℕ) → plain_to n w ≡ true → (plain (take n w) ≡ true) × (every 0 (drop n w) ≡ true)
unfolding plain plain_to every
plain_fill zero [] e = (refl, refl)
plain_fill (suc n) [] e = (refl, refl)
plain_fill zero (b ∷ w) e =
    let r = plain_fill zero w (and_right (eqb b 0) (plain_to zero w) e) in
    (refl, rw (and_left (eqb b 0) (plain_to zero w) e) r.1)
plain_fill (suc n) (b ∷ w) e =
    let r = plain_fill n w (and_right (plain_byte b) (plain_to n w) e) in
    (rw (and_left (plain_byte b) (plain_to n w) e) r.0, r.1)

pub short_fine : (k : Kind) (n : ℕ) (w : List ℕ) → plain_to n w ≡ true → (level_fine k (take n w) ≡ true) × (every 0 (drop n w) ≡ true)
short_fine k n w e = let p = plain_fill n w e in (plain_level k (take n w) p.0, p.1)
