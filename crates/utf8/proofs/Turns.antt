-- UTF-8: the rules of the two tables, each computed once over all entries; and texts of ASCII alone. Assumes nothing.
use mathlib.Core.Path.{◌≡◌, refl, sym}
use mathlib.Core.Bool.{Bool, true, false, ◌&&◌, and_assoc, and-true, and-eq-true_iff}
use mathlib.Core.List.{List, [], ◌∷◌, map}
use Prim.Native.Nat.{ℕ, ◌+◌, ◌*◌, ◌≤◌, ◌<◌, max}
use lib.Dec.{ltb, leb}
use lib.ListN.{get_or}
use native.Mathlib.Omega.{arith}
use borrow.Author.Tests.{ltb-false, le-ltb, ltb-true, leb-true, lt-ltb, le-leb}
use Rattle.std.specs.List.{fold}
use Rattle.utf8.specs.Utf8.{follow, is_utf8}
use Rattle.utf8.specs.Classes.{ClassTable, StepTable, class_of, due, next_of, is_ascii}
use Rattle.utf8.proofs.Rules.{count, agree, agree2}

pub class_below : (b : ℕ) → b < 256 → class_of b < 12
class_below b h = ltb-true _ _ (agree (λ (n : ℕ). ltb (class_of n) 12) (λ (n : ℕ). true) 256 refl b h)

-- a table that passes one computed test over all its entries has its rule
pub step-table : (t : List ℕ)
    → map (λ (d : ℕ). map (λ (b : ℕ). next_of (get_or t (d * 12 + class_of b) 0)) (count 0 256)) (count 0 8)
    ≡ map (λ (d : ℕ). map (λ (b : ℕ). follow (due d) b) (count 0 256)) (count 0 8)
    → map (λ (d : ℕ). map (λ (b : ℕ). leb (get_or t (d * 12 + class_of b) 0) 8) (count 0 256)) (count 0 8)
    ≡ map (λ (d : ℕ). map (λ (b : ℕ). true) (count 0 256)) (count 0 8)
    → StepTable t
step-table t e f =
    record {
      is = agree2 (λ (d b : ℕ). next_of (get_or t (d * 12 + class_of b) 0)) (λ (d b : ℕ). follow (due d) b) 8 256 e;
      small = λ d b hd hb.
          leb-true _ _ (agree2 (λ (d b : ℕ). leb (get_or t (d * 12 + class_of b) 0) 8) (λ (d b : ℕ). true) 8 256 f d b hd hb);
    }

-- the entries that `next_due` reads
module _ {classes steps : List ℕ} (k : ClassTable classes) (t : StepTable steps) (d b : ℕ) (hd : d < 8) (hb : b < 256) where
  pub entry-within : d * 12 + get_or classes b 0 < 96
  entry-within = omega (arith, k.is b hb, class_below b hb)

  pub entry_right : next_of (get_or steps (d * 12 + get_or classes b 0) 0) ≡ follow (due d) b
  entry_right = rw (k.is b hb) (t.is d b hd hb)

  pub entry_small : get_or steps (d * 12 + get_or classes b 0) 0 ≤ 8
  entry_small = rw (k.is b hb) (t.small d b hd hb)

-- texts of ASCII alone: the greatest octet tells
ltb-max : (a b : ℕ) → ltb (max a b) 0x80 ≡ (ltb a 0x80 && ltb b 0x80)
ltb-max a b = by (ltb a 0x80) (ltb b 0x80) refl refl
  where
    by : (x y : Bool) → ltb a 0x80 ≡ x → ltb b 0x80 ≡ y → ltb (max a b) 0x80 ≡ (x && y)
    by true true p q = lt-ltb (max a b) 0x80 (omega (arith, ltb-true a 0x80 p, ltb-true b 0x80 q))
    by true false p q = le-ltb (max a b) 0x80 (omega (arith, ltb-false b 0x80 q))
    by false y p q = le-ltb (max a b) 0x80 (omega (arith, ltb-false a 0x80 p))

pub greatest : (top : ℕ) (s : List ℕ) → ltb (fold (λ (a b : ℕ). max a b) top s) 0x80 ≡ (ltb top 0x80 && is_ascii s)
greatest top [] = sym (and-true (ltb top 0x80))
greatest top (b ∷ s) = rw (greatest (max top b) s, ltb-max top b, and_assoc)

-- and they are UTF-8
pub ascii_utf8 : (s : List ℕ) → is_ascii s ≡ true → is_utf8 s ≡ true
ascii_utf8 [] e = refl
ascii_utf8 (b ∷ s) e =
    let p = (and-eq-true_iff (ltb b 0x80) (is_ascii s)).0 e in
    let l : leb b 0x7F ≡ true = le-leb b 0x7F (omega (arith, ltb-true b 0x80 p.0)) in
    let z : leb 0 b ≡ true = le-leb 0 b (omega arith) in
    rw (z, l) (ascii_utf8 s p.1)
