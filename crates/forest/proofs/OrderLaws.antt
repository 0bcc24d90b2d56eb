-- The loop that compares two levels: what each turn finds. Assumes nothing.
use mathlib.Core.Path.{◌≡◌, refl}
use mathlib.Core.List.{List}
use mathlib.Core.Bool.{Bool, true, false, cond}
use Prim.Native.Nat.{ℕ, ◌+◌, ◌≤◌, ◌<◌, min}
use native.Mathlib.Numerals.{add-one}
use native.Mathlib.Omega.{arith}
use lib.Dec.{eqb, ltb}
use lib.ListN.{length, drop, get_or, drop_of_length-le}
use lib.Seq.{drop-cons}
use borrow.Author.Tests.{eq-eqb, ne_eqb, lt-ltb, le-ltb, ltb-true, ltb-false, eqb-true, eqb-false}
use Rattle.std.specs.Ordering.{nat_cmp}
use Rattle.std.specs.declared.cmp.Ordering.{Ordering}
use Rattle.std.specs.declared.cmp.Ordering.TheVariants.{Less, Equal, Greater}
use Rattle.forest.specs.Compare.{order_of}

module _ (a b : List ℕ) (i : ℕ) {o : Ordering} (turn : order_of (drop i a) (drop i b) ≡ o) where
  -- n bytes are in both
  module _ {n : ℕ} (m : n ≡ min (length a) (length b)) where
    pub shorter : i ≤ n → n ≤ i → length a < length b → Less ≡ o
    shorter p q h = rw (drop_of_length-le a {i = i} (omega arith), drop-cons b i 0 (omega arith)) at turn

    pub longer : i ≤ n → n ≤ i → length b < length a → Greater ≡ o
    longer p q h = rw (drop-cons a i 0 (omega arith), drop_of_length-le b {i = i} (omega arith)) at turn

    pub both_end : i ≤ n → n ≤ i → length b ≤ length a → length a ≤ length b → Equal ≡ o
    both_end p q h k = rw (drop_of_length-le a {i = i} (omega arith), drop_of_length-le b {i = i} (omega arith)) at turn

    pub ended : i ≤ n → n ≤ i → nat_cmp (length a) (length b) ≡ o
    ended p q = go (ltb (length a) (length b)) (eqb (length a) (length b)) refl refl
      where
        go : (t u : Bool) → ltb (length a) (length b) ≡ t → eqb (length a) (length b) ≡ u → cond t Less (cond u Equal Greater) ≡ o
        go true u e f = shorter p q (ltb-true (length a) (length b) e)
        go false true e f = let z : length a ≡ length b = eqb-true (length a) (length b) f in both_end p q (omega (arith, z)) (omega (arith, z))
        go false false e f = longer p q (omega (arith, ltb-false (length a) (length b) e, eqb-false (length a) (length b) f))

    module _ (here : i < n) where
      ha : i < length a
      ha = omega arith

      hb : i < length b
      hb = omega arith

      pub byte-less : get_or a i 0 < get_or b i 0 → Less ≡ o
      byte-less h =
          let e : eqb (get_or a i 0) (get_or b i 0) ≡ false = ne_eqb (get_or a i 0) (get_or b i 0) (λ (q : get_or a i 0 ≡ get_or b i 0). omega (arith, q)) in
          let l : ltb (get_or a i 0) (get_or b i 0) ≡ true = lt-ltb (get_or a i 0) (get_or b i 0) h in
          rw (drop-cons a i 0 ha, drop-cons b i 0 hb, e, l) at turn

      pub byte_greater : get_or b i 0 < get_or a i 0 → Greater ≡ o
      byte_greater h =
          let e : eqb (get_or a i 0) (get_or b i 0) ≡ false = ne_eqb (get_or a i 0) (get_or b i 0) (λ (q : get_or a i 0 ≡ get_or b i 0). omega (arith, q)) in
          let l : ltb (get_or a i 0) (get_or b i 0) ≡ false = le-ltb (get_or a i 0) (get_or b i 0) (omega arith) in
          let g : ltb (get_or b i 0) (get_or a i 0) ≡ true = lt-ltb (get_or b i 0) (get_or a i 0) h in
          rw (drop-cons a i 0 ha, drop-cons b i 0 hb, e, l, g) at turn

      pub byte-same : get_or b i 0 ≤ get_or a i 0 → get_or a i 0 ≤ get_or b i 0 → order_of (drop (i + 1) a) (drop (i + 1) b) ≡ o
      byte-same p q =
          let e : eqb (get_or a i 0) (get_or b i 0) ≡ true = eq-eqb (get_or a i 0) (get_or b i 0) (omega arith) in
          let l : ltb (get_or a i 0) (get_or b i 0) ≡ false = le-ltb (get_or a i 0) (get_or b i 0) p in
          let g : ltb (get_or b i 0) (get_or a i 0) ≡ false = le-ltb (get_or b i 0) (get_or a i 0) q in
          rw add-one (rw (drop-cons a i 0 ha, drop-cons b i 0 hb, e, l, g) at turn)
