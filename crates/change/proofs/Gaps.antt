-- Bytes put between others by opening a gap, and taken away by closing one, in one part of a region. Assumes nothing.
use mathlib.Core.Path.{◌≡◌, refl, sym, ap, ◌∙◌}
use mathlib.Core.List.{List, [], ◌++◌, append_assoc, append-nil}
use Prim.Native.Nat.{ℕ, ◌+◌, ◌-◌, ◌≤◌}
use native.Mathlib.Omega.{arith}
use lib.ListN.{length, take, length-append}
use lib.Seq.{take_at, drop_at}
use Rattle.lent.specs.Parts.{part, patch}
use Rattle.lent.specs.Total.{Framed, opened, closed}
use Rattle.lent.proofs.Parts.{part_add, part-part, length_part, length-patch, part-patch, part-patch_before, part-patch_after, framed-patch, framed_trans}
use Rattle.lent.proofs.Anywhere.{open_in, close_in}

-- the part from b on is x and then y, or x, r and then y
module _ (b e : ℕ) (s x y : List ℕ) (holds : part b e s ≡ x ++ y) (within : b + e ≤ length s) where
  e_is : e ≡ length x + length y
  e_is = sym (length_part b e s within) ∙ ap length holds ∙ length-append x y

  pub first_is : part b (length x) s ≡ x
  unfolding part
  first_is =
      rw add_zero' at (sym (part-part 0 (length x) b e s (omega (arith, e_is)))) ∙ ap (part 0 (length x)) holds ∙ take_at x y (length x) refl
    where
      add_zero' : b + 0 ≡ b
      add_zero' = omega arith

  pub rest_is : part (b + length x) (length y) s ≡ y
  unfolding part
  rest_is =
      sym (part-part (length x) (length y) b e s (omega (arith, e_is))) ∙ ap (part (length x) (length y)) holds
      ∙ rw (drop_at x y (length x) refl) (take_all y)
    where
      take_all : (z : List ℕ) → take (length z) z ≡ z
      take_all z = rw append-nil at (take_at z [] (length z) refl)

  -- r between them
  module _ (r t : List ℕ) (room : b + e + length r ≤ length s) where
    pub inserted : t ≡ patch (b + length x) r (opened (b + length x) (b + e) (length r) s) → part b (e + length r) t ≡ x ++ (r ++ y)
    inserted h =
        let z : b + e - (b + length x) ≡ length y = omega (arith, e_is) in
        let o : opened (b + length x) (b + e) (length r) s ≡ patch (b + length x + length r) y s =
        open_in (b + length x) (b + e) (length r) s (omega arith) ∙ ap (λ (q : List ℕ). patch (b + length x + length r) q s) (rw z rest_is) in
        let l : b + length x + length r + length y ≤ length s = omega (arith, e_is) in
        let m : t ≡ patch (b + length x) r (patch (b + length x + length r) y s) = h ∙ ap (patch (b + length x) r) o in
        let n : length (patch (b + length x + length r) y s) ≡ length s = length-patch (b + length x + length r) y s l in
        let p : e + length r ≡ length x + (length r + length y) = omega (arith, e_is) in
        let i : part b (length x) t ≡ x =
        rw m (part-patch_before (b + length x) r (patch (b + length x + length r) y s) (omega (arith, n)) b (length x) (omega arith)
        ∙ part-patch_before (b + length x + length r) y s l b (length x) (omega arith)) ∙ first_is in
        let j : part (b + length x) (length r) t ≡ r = rw m (part-patch (b + length x) r (patch (b + length x + length r) y s) (omega (arith, n))) in
        let k : part (b + length x + length r) (length y) t ≡ y =
        rw m (part-patch_after (b + length x) r (patch (b + length x + length r) y s) (omega (arith, n)) (b + length x + length r) (length y) (omega arith)
        ∙ part-patch (b + length x + length r) y s l) in
        rw (p, part_add b (length x) (length r + length y) t, part_add (b + length x) (length r) (length y) t, i, j, k)

    pub inserted_framed : t ≡ patch (b + length x) r (opened (b + length x) (b + e) (length r) s) → Framed b (b + e + length r) s t
    inserted_framed h =
        let z : b + e - (b + length x) ≡ length y = omega (arith, e_is) in
        let o : opened (b + length x) (b + e) (length r) s ≡ patch (b + length x + length r) y s =
        open_in (b + length x) (b + e) (length r) s (omega arith) ∙ ap (λ (q : List ℕ). patch (b + length x + length r) q s) (rw z rest_is) in
        let l : b + length x + length r + length y ≤ length s = omega (arith, e_is) in
        let n : length (patch (b + length x + length r) y s) ≡ length s = length-patch (b + length x + length r) y s l in
        rw (h, o) (framed_trans b (b + e + length r) s (patch (b + length x + length r) y s) (patch (b + length x) r (patch (b + length x + length r) y s))
        (framed-patch b (b + e + length r) (b + length x + length r) y s l (omega arith) (omega (arith, e_is)))
        (framed-patch b (b + e + length r) (b + length x) r (patch (b + length x + length r) y s) (omega (arith, n, e_is)) (omega arith) (omega (arith, e_is))))

-- r between x and y, taken away
module _ (b e : ℕ) (s x r y : List ℕ) (holds : part b e s ≡ x ++ (r ++ y)) (within : b + e ≤ length s) (t : List ℕ)
    (h : t ≡ closed (b + length x) (b + e - length r) (length r) s) where
  long_is : e ≡ length x + (length r + length y)
  long_is = e_is b e s x (r ++ y) holds within ∙ rw length-append

  last_is : part (b + length x + length r) (length y) s ≡ y
  last_is =
      let p : b + length (x ++ r) ≡ b + length x + length r = rw length-append (omega arith) in
      rw p at (rest_is b e s (x ++ r) y (holds ∙ sym (append_assoc x r y)) within)

  closed_is : t ≡ patch (b + length x) y s
  closed_is =
      let z : b + e - length r - (b + length x) ≡ length y = omega (arith, long_is) in
      h ∙ close_in (b + length x) (b + e - length r) (length r) s (omega (arith, long_is))
      ∙ ap (λ (q : List ℕ). patch (b + length x) q s) (rw z last_is)

  pub removed : part b (e - length r) t ≡ x ++ y
  removed =
      let l : b + length x + length y ≤ length s = omega (arith, long_is) in
      let p : e - length r ≡ length x + length y = omega (arith, long_is) in
      let i : part b (length x) t ≡ x = rw closed_is (part-patch_before (b + length x) y s l b (length x) (omega arith)) ∙ first_is b e s x (r ++ y) holds within in
      let j : part (b + length x) (length y) t ≡ y = rw closed_is (part-patch (b + length x) y s l) in
      rw (p, part_add b (length x) (length y) t, i, j)

  pub removed_framed : Framed b (b + e) s t
  removed_framed =
      rw closed_is (framed-patch b (b + e) (b + length x) y s (omega (arith, long_is)) (omega arith) (omega (arith, long_is)))
