-- The loops that move bytes: a turn from the front, and a turn from the back. Assumes nothing.
use Prim.Native.Nat.{ℕ, zero, suc, ◌+◌, ◌-◌, ◌≤◌, ◌<◌}
use mathlib.Core.Path.{◌≡◌, refl, sym, ap, ◌∙◌}
use mathlib.Core.List.{List, [], ◌∷◌, ◌++◌, append-nil}
use native.Mathlib.Nat.{add-zero, zero-add}
use native.Mathlib.Numerals.{add-one}
use native.Mathlib.Omega.{arith}
use lib.ListN.{length, get_or, set, replicate, take-append-drop}
use lib.Seq.{get_or-drop, get_or-take, take-length}
use Rattle.lent.specs.Parts.{part, patch}
use Rattle.lent.proofs.Parts.{part_add, length_part, length-patch, patch-append, patch_prepend, set-patch, take-patch-le, drop-patch, drop_past}
use Rattle.lent.proofs.Digits.{part_one}

-- an element before what was written, and one after it, is as it was
module _ (p : ℕ) (v s : List ℕ) (h : p + length v ≤ length s) (k : ℕ) where
  pub get_or-patch_before : k < p → get_or (patch p v s) k 0 ≡ get_or s k 0
  get_or-patch_before e = sym (get_or-take p (patch p v s) k 0 e) ∙ rw (take-patch-le p v s h p (omega arith)) (get_or-take p s k 0 e)

  pub get_or-patch_after : p + length v ≤ k → get_or (patch p v s) k 0 ≡ get_or s k 0
  get_or-patch_after e =
      rw add-zero at (sym (get_or-drop k (patch p v s) 0 0) ∙ ap (λ (l : List ℕ). get_or l 0 0) (drop_past (p + length v) k _ _ e (drop-patch p v s h)) ∙ get_or-drop k s 0 0)

-- nothing written
pub patch-none : (p : ℕ) (s : List ℕ) → patch p [] s ≡ s
unfolding patch
patch-none p s = rw (append-nil, add-zero, take-append-drop)

pub part_none : (p : ℕ) (s : List ℕ) → part p 0 s ≡ []
unfolding part
part_none p s = refl

pub part-all : (s : List ℕ) → part 0 (length s) s ≡ s
unfolding part
part-all s = take-length s

-- a store past the n elements that came from t moves one more
pub front_step : (p f n : ℕ) (t s : List ℕ) → p + n < length s → f + n < length t
    → set (patch p (part f n t) s) (p + n) (get_or t (f + n) 0) ≡ patch p (part f (n + 1) t) s
front_step p f n t s h k =
    let l : length (part f n t) ≡ n = length_part f n t (omega arith) in
    let b : p + length (part f n t) ≤ length s = rw l (omega arith) in
    let i : p + n < length (patch p (part f n t) s) = rw (length-patch p (part f n t) s b) h in
    let e : part f (n + 1) t ≡ part f n t ++ (get_or t (f + n) 0 ∷ []) = part_add f n 1 t ∙ ap (λ (x : List ℕ). part f n t ++ x) (part_one (f + n) t k) in
    rw (set-patch _ _ _ i, e) (rw l at (patch-append p (part f n t) (get_or t (f + n) 0 ∷ []) s (rw l (omega arith))))

-- a store before them moves one more too
pub back_step : (p f n : ℕ) (t s : List ℕ) → p + 1 + n ≤ length s → f + 1 + n ≤ length t
    → set (patch (p + 1) (part (f + 1) n t) s) p (get_or t f 0) ≡ patch p (part f (n + 1) t) s
back_step p f n t s h k =
    let l : length (part (f + 1) n t) ≡ n = length_part (f + 1) n t k in
    let b : p + 1 + length (part (f + 1) n t) ≤ length s = rw l h in
    let i : p < length (patch (p + 1) (part (f + 1) n t) s) = rw (length-patch (p + 1) (part (f + 1) n t) s b) (omega arith) in
    let c : n + 1 ≡ 1 + n = omega arith in
    let e : part f (1 + n) t ≡ get_or t f 0 ∷ part (f + 1) n t = part_add f 1 n t ∙ ap (λ (x : List ℕ). x ++ part (f + 1) n t) (part_one f t (omega arith)) in
    rw (set-patch _ _ _ i, c, e) (patch_prepend p (get_or t f 0 ∷ []) (part (f + 1) n t) s b)

-- a byte written once more
pub replicate_last : (n b : ℕ) → replicate n b ++ (b ∷ []) ≡ replicate (n + 1) b
replicate_last n b = go n ∙ ap (λ (m : ℕ). replicate m b) (sym (add-one n))
  where
    go : (n : ℕ) → replicate n b ++ (b ∷ []) ≡ replicate (suc n) b
    go zero = refl
    go (suc n) = ap (λ (l : List ℕ). b ∷ l) (go n)

-- a turn of close_gap
pub close_step : (at end by i : ℕ) (s₀ s : List ℕ) → at ≤ i → i < end → end + by ≤ length s₀ → s ≡ patch at (part (at + by) (i - at) s₀) s₀
    → set s i (get_or s (i + by) 0) ≡ patch at (part (at + by) (i + 1 - at) s₀) s₀
close_step at end by i s₀ s h j k e =
    let n : ℕ = i - at in
    let a : at + (i - at) ≡ i = omega arith in
    let b : at + by + (i - at) ≡ i + by = omega arith in
    let d : i + 1 - at ≡ i - at + 1 = omega arith in
    let l : length (part (at + by) (i - at) s₀) ≡ i - at = length_part (at + by) (i - at) s₀ (omega arith) in
    let r : get_or s (i + by) 0 ≡ get_or s₀ (i + by) 0 = rw e (get_or-patch_after at (part (at + by) (i - at) s₀) s₀ (rw l (omega arith)) (i + by) (rw l (omega arith))) in
    rw (r, e, d) (rw (a, b) at (front_step at (at + by) (i - at) s₀ s₀ (omega arith) (omega arith)))

-- a turn of open_gap
pub open_step : (at end by i : ℕ) (s₀ s : List ℕ) → at < i → i ≤ end → end + by ≤ length s₀ → s ≡ patch (i + by) (part i (end - i) s₀) s₀
    → set s (i - 1 + by) (get_or s (i - 1) 0) ≡ patch (i - 1 + by) (part (i - 1) (end - (i - 1)) s₀) s₀
open_step at end by i s₀ s z h k e =
    let a : i - 1 + 1 ≡ i = omega arith in
    let b : i - 1 + by + 1 ≡ i + by = omega arith in
    let d : end - (i - 1) ≡ end - i + 1 = omega arith in
    let l : length (part i (end - i) s₀) ≡ end - i = length_part i (end - i) s₀ (omega arith) in
    let r : get_or s (i - 1) 0 ≡ get_or s₀ (i - 1) 0 = rw e (get_or-patch_before (i + by) (part i (end - i) s₀) s₀ (rw l (omega arith)) (i - 1) (omega arith)) in
    rw (r, e, d) (rw (a, b) at (back_step (i - 1 + by) (i - 1) (end - i) s₀ s₀ (omega arith) (omega arith)))

-- before the first turn
pub moved_none : (p f n : ℕ) (t s : List ℕ) → s ≡ patch p (part f (n - n) t) s
moved_none p f n t s = let e : n - n ≡ 0 = omega arith in rw (e, part_none, patch-none)

pub copied_none : (p : ℕ) (t s : List ℕ) → s ≡ patch p (part 0 0 t) s
copied_none p t s = rw (part_none, patch-none)

-- a turn of copy_in
pub copy_step : (at i : ℕ) (t d₀ d : List ℕ) → i < length t → at + length t ≤ length d₀ → d ≡ patch at (part 0 i t) d₀
    → set d (at + i) (get_or t i 0) ≡ patch at (part 0 (i + 1) t) d₀
copy_step at i t d₀ d h k e = rw e (rw zero-add at (front_step at 0 i t d₀ (omega arith) (omega arith)))

-- after the last turn
pub copy_done : (at i : ℕ) (t d₀ d : List ℕ) → i ≤ length t → length t ≤ i → d ≡ patch at (part 0 i t) d₀ → d ≡ patch at t d₀
copy_done at i t d₀ d h k e = let q : i ≡ length t = omega arith in rw (q, part-all) at e
