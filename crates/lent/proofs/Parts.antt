-- Laws of `part`, `patch` and `Framed`. Assumes nothing.
use Prim.Native.Nat.{ℕ, zero, suc, ◌+◌, ◌-◌, ◌≤◌, ◌<◌, min}
use mathlib.Core.Path.{◌≡◌, refl, sym, ap, ◌∙◌}
use mathlib.Core.List.{List, [], ◌∷◌, ◌++◌, append_assoc}
use native.Mathlib.Nat.{add_assoc, zero-add, suc-add}
use native.Mathlib.Numerals.{add-one}
use native.Mathlib.Omega.{arith}
use lib.ListN.{length, take, drop, set, length-append, length-take, length-drop}
use lib.Seq.{take_at, drop_at, take-append-le, take-take, drop-drop, take-add, length-take-le, take-nil, set_split, append_snoc}
use Rattle.lent.specs.Parts.{part, patch}
use Rattle.lent.specs.Total.{Framed}

pub take-drop : (q w : ℕ) (s : List ℕ) → take w (drop q s) ≡ drop q (take (q + w) s)
take-drop zero w s = rw zero-add
take-drop (suc q) w [] = rw (take-nil, take-nil)
take-drop (suc q) w (x ∷ s) = rw (suc-add, take-drop q w s)

-- two lists that agree from a on agree from b on, where b is past a
pub drop_past : (a b : ℕ) (x y : List ℕ) → a ≤ b → drop a x ≡ drop a y → drop b x ≡ drop b y
drop_past a b x y h e =
    let k : a + (b - a) ≡ b = omega arith in
    rw k at (sym (drop-drop (b - a) a x) ∙ ap (drop (b - a)) e ∙ drop-drop (b - a) a y)

pub patch-eq : (p : ℕ) (v s : List ℕ) → patch p v s ≡ take p s ++ v ++ drop (p + length v) s
unfolding patch
patch-eq p v s = refl

module _ (p : ℕ) (v s : List ℕ) (h : p + length v ≤ length s) where
  head-length : length (take p s ++ v) ≡ p + length v
  head-length = let e : p ≤ length s = omega arith in rw (length-append, length-take-le p s)

  pub length-patch : length (patch p v s) ≡ length s
  unfolding patch
  length-patch = rw (length-append, head-length, length-drop) (omega arith)

  pub drop-patch : drop (p + length v) (patch p v s) ≡ drop (p + length v) s
  unfolding patch
  drop-patch = drop_at (take p s ++ v) _ _ head-length

  -- all from p on
  pub drop-patch_at : drop p (patch p v s) ≡ v ++ drop (p + length v) s
  unfolding patch
  drop-patch_at = rw append_assoc (drop_at (take p s) _ p (length-take-le p s (omega arith)))

  -- what stands before is as it was
  pub take-patch-le : (k : ℕ) → k ≤ p → take k (patch p v s) ≡ take k s
  unfolding patch
  take-patch-le k e =
      let l : length (take p s) ≡ p = length-take-le p s (omega arith) in
      let m : k ≤ length (take p s) = omega arith in
      rw (append_assoc, take-append-le, take-take)

  pub take-patch : take (p + length v) (patch p v s) ≡ take p s ++ v
  unfolding patch
  take-patch = take_at (take p s ++ v) _ _ head-length

  -- what was written is read
  pub part-patch : part p (length v) (patch p v s) ≡ v
  unfolding part
  part-patch = rw (take-drop, take-patch) (drop_at (take p s) v p (length-take-le p s (omega arith)))

  -- what stands before is as it was
  pub part-patch_before : (q w : ℕ) → q + w ≤ p → part q w (patch p v s) ≡ part q w s
  unfolding part
  part-patch_before q w k = rw (take-drop, take-drop q w s, take-patch-le (q + w) k)

  -- and so is what stands after
  pub part-patch_after : (q w : ℕ) → p + length v ≤ q → part q w (patch p v s) ≡ part q w s
  unfolding part
  part-patch_after q w k = ap (take w) (drop_past (p + length v) q _ _ k drop-patch)

-- a read in two halves
pub part_add : (p a b : ℕ) (s : List ℕ) → part p (a + b) s ≡ part p a s ++ part (p + a) b s
unfolding part
part_add p a b s = rw (take-add, drop-drop)

pub length_part : (p w : ℕ) (s : List ℕ) → p + w ≤ length s → length (part p w s) ≡ w
unfolding part
length_part p w s h = rw (length-take, length-drop) (omega arith)

pub part-eq : (p w : ℕ) (s : List ℕ) → part p w s ≡ take w (drop p s)
unfolding part
part-eq p w s = refl

-- a part of a part
pub part-part : (q u p w : ℕ) (s : List ℕ) → q + u ≤ w → part q u (part p w s) ≡ part (p + q) u s
unfolding part
part-part q u p w s h = rw (take-drop q u (take w (drop p s)), take-take (q + u) w (drop p s) h, ← take-drop q u (drop p s), drop-drop)

-- what is left of a part behind its first k bytes, and its first k bytes
drop-take : (k w : ℕ) (s : List ℕ) → drop k (take w s) ≡ take (w - k) (drop k s)
drop-take zero w s = let e : w - 0 ≡ w = omega arith in rw e
drop-take (suc k) zero s = let e : 0 - suc k ≡ 0 = omega arith in rw e
drop-take (suc k) (suc w) [] = rw take-nil
drop-take (suc k) (suc w) (x ∷ s) = let e : suc w - suc k ≡ w - k = omega arith in rw e (drop-take k w s)

take_min : (k w : ℕ) (s : List ℕ) → take k (take w s) ≡ take (min k w) s
take_min zero w s = let e : min 0 w ≡ 0 = omega arith in rw e
take_min (suc k) zero s = let e : min (suc k) 0 ≡ 0 = omega arith in rw e
take_min (suc k) (suc w) [] = sym (take-nil (min (suc k) (suc w)))
take_min (suc k) (suc w) (x ∷ s) =
    let e : min (suc k) (suc w) ≡ suc (min k w) = omega arith in
    rw e (ap (λ (l : List ℕ). x ∷ l) (take_min k w s))

pub drop-part : (k p w : ℕ) (s : List ℕ) → drop k (part p w s) ≡ part (p + k) (w - k) s
unfolding part
drop-part k p w s = rw (drop-take, drop-drop)

pub take_part : (k p w : ℕ) (s : List ℕ) → take k (part p w s) ≡ part p (min k w) s
unfolding part
take_part k p w s = take_min k w (drop p s)

-- parts are the same where they are empty or begin at one place
pub part_same : (p q w v : ℕ) (s : List ℕ) → w ≡ v → (0 < w → p ≡ q) → part p w s ≡ part q v s
unfolding part
part_same p q zero v s e h = rw (← e)
part_same p q (suc w) v s e h = let z : p ≡ q = h (omega arith) in rw (z, e)

-- one store
pub set-patch : (s : List ℕ) (p a : ℕ) → p < length s → set s p a ≡ patch p (a ∷ []) s
unfolding patch
set-patch s p a h = rw (set_split, ← append_snoc, add-one)

module _ (p : ℕ) (x y s : List ℕ) (h : p + length x + length y ≤ length s) where
  drop_more : drop (p + length x + length y) (patch p x s) ≡ drop (p + length x + length y) s
  drop_more = drop_past (p + length x) (p + length x + length y) _ _ (omega arith) (drop-patch p x s (omega arith))

  -- a write in two halves, the first first
  pub patch-append : patch (p + length x) y (patch p x s) ≡ patch p (x ++ y) s
  unfolding patch
  patch-append =
      let k : p + length x ≤ length s = omega arith in
      rw (take-patch p x s, drop_more, length-append) (simp (append_assoc, add_assoc))

  -- and the second first
  pub patch_prepend : patch p x (patch (p + length x) y s) ≡ patch p (x ++ y) s
  patch_prepend =
      let k : p + length x ≤ length s = omega arith in
      let o : p ≤ p + length x = omega arith in
      patch-eq p x (patch (p + length x) y s)
      ∙ rw (take-patch-le, drop-patch_at, patch-eq p (x ++ y) s, length-append) (simp (append_assoc, add_assoc))

-- a write changes nothing outside what it writes
pub framed-patch : (a b p : ℕ) (v s : List ℕ) → p + length v ≤ length s → a ≤ p → p + length v ≤ b → Framed a b s (patch p v s)
framed-patch a b p v s h i j =
    record { front = take-patch-le p v s h a i; back = drop_past (p + length v) b _ _ j (drop-patch p v s h); long = length-patch p v s h }

pub framed-same : (a b : ℕ) (s : List ℕ) → Framed a b s s
framed-same a b s = record { front = refl; back = refl; long = refl }

pub framed_trans : (a b : ℕ) (s t u : List ℕ) → Framed a b s t → Framed a b t u → Framed a b s u
framed_trans a b s t u x y = record { front = y.front ∙ x.front; back = y.back ∙ x.back; long = y.long ∙ x.long }

-- and so a read before or after is as it was
pub framed_before : (a b q w : ℕ) (s t : List ℕ) → Framed a b s t → q + w ≤ a → part q w t ≡ part q w s
unfolding part
framed_before a b q w s t x h =
    rw (take-drop q w t, take-drop q w s, ← take-take (q + w) a t h, ← take-take (q + w) a s h, x.front)

pub framed_after : (a b q w : ℕ) (s t : List ℕ) → Framed a b s t → b ≤ q → part q w t ≡ part q w s
unfolding part
framed_after a b q w s t x h = ap (take w) (drop_past b q _ _ h x.back)

-- a narrower frame is within a wider one
pub framed_wider : (a b c d : ℕ) (s t : List ℕ) → Framed a b s t → c ≤ a → b ≤ d → Framed c d s t
framed_wider a b c d s t x h k =
    record {
      front = rw (← take-take c a t h, ← take-take c a s h, x.front);
      back = drop_past b d _ _ k x.back;
      long = x.long;
    }
