-- Reads, writes and moves at any place: in range they are those of `part` and `patch`, out of range they do nothing. Assumes nothing.
use Prim.Native.Nat.{ℕ, zero, suc, ◌+◌, ◌-◌, ◌^◌, ◌≤◌, ◌<◌, zero-le, suc-le-suc}
use mathlib.Core.Path.{◌≡◌, refl, sym, ap, ◌∙◌}
use mathlib.Core.Bool.{Bool, true, false, cond}
use mathlib.Core.Logic.{◌⊎◌, inl, inr, ⊎_elim}
use mathlib.Core.List.{List, append_assoc}
use native.Mathlib.Omega.{arith}
use lib.ListN.{length, take, drop, get_or, replicate, length-take, length-replicate}
use Rattle.std.proofs.lemmas.List.{get_or_past}
use Rattle.std.specs.Int.{w64, from_be_bytes}
use Rattle.std.proofs.Common.{Fits, w8}
use lib.Seq.{drop-drop, get_or-take, get_or-drop}
use lib.Dec.{leb}
use borrow.Author.Tests.{le-leb, lt-leb, leb-true}
use borrow.Rule.Slice.PartMut.{put_mid}
use Rattle.lent.specs.Numbers.{be, bytes}
use Rattle.lent.specs.Parts.{part, patch}
use Rattle.lent.specs.Total.{Framed, read, write, opened, closed}
use Rattle.lent.proofs.Parts.{part-eq, part-part, length_part, length-patch, framed-patch, framed-same}
use Rattle.lent.proofs.Turns.{part_none, patch-none, copy_done}
use Rattle.lent.proofs.Digits.{length-bytes, get-put, widened, be-lt}

pub lt-or_ge : (a b : ℕ) → (a < b) ⊎ (b ≤ a)
lt-or_ge a zero = inr zero-le
lt-or_ge zero (suc b) = inl (omega arith)
lt-or_ge (suc a) (suc b) = ⊎_elim (λ h. inl (suc-le-suc h)) (λ h. inr (suc-le-suc h)) (lt-or_ge a b)

-- a number read
module _ (w p : ℕ) (s : List ℕ) where
  pub read_in : p + w ≤ length s → read w p s ≡ be (part p w s)
  unfolding read
  read_in h = rw (le-leb (p + w) (length s) h)

  pub nothing_got : leb (p + w) (length s) ≡ false → 0 ≡ read w p s
  unfolding read
  nothing_got f = rw f

  pub got : w ≤ length s → p ≤ length s - w → {r : ℕ} → r ≡ be (take (p + w - p) (drop p s)) → r ≡ read w p s
  unfolding part
  got h k e =
      let q : p + w - p ≡ w = omega arith in
      rw q at e ∙ sym (read_in (omega arith))

  part-bytes : ((i : ℕ) → Fits w8 (get_or s i 0)) → (i : ℕ) → get_or (part p w s) i 0 < 256
  unfolding part
  part-bytes o i =
      ⊎_elim
      (λ (h : i < w). rw (get_or-take, get_or-drop) ((o (p + i)).fits))
      (λ (h : w ≤ i). rw (get_or_past (take w (drop p s)) i 0 (rw length-take (omega arith))) (omega arith))
      (lt-or_ge i w)

  -- a part of s that the code puts behind zeros
  module _ (small : w ≤ 8) (f : leb (p + w) (length s) ≡ true) {v : List ℕ} (e : v ≡ take (p + w - p) (drop p s)) {n : ℕ} (d : n ≡ from_be_bytes w64 (put_mid (8 - w) (8 - (8 - w)) (replicate 8 0) v)) where
    there : p + w ≤ length s
    there = leb-true _ _ f

    number : n ≡ be (part p w s)
    number =
        let q : p + w - p ≡ w = omega arith in
        let a : v ≡ part p w s = rw (part-eq, ← q) e in
        let l : length (part p w s) ≡ w = length_part p w s there in
        d ∙ widened w v small (rw a l) ∙ ap be a

    pub number_is : n ≡ read w p s
    number_is = number ∙ sym (read_in there)

    pub number_small : ((i : ℕ) → Fits w8 (get_or s i 0)) → n < 256 ^ w
    number_small o = let l : length (part p w s) ≡ w = length_part p w s there in rw number (rw l at (be-lt (part p w s) (part-bytes o)))

-- the same from a part of c bytes
pub from-part : (p c q w : ℕ) (s : List ℕ) → q + w ≤ c → p + c ≤ length s → read w q (take (p + c - p) (drop p s)) ≡ read w (p + q) s
from-part p c q w s h k =
    let e : p + c - p ≡ c = omega arith in
    let l : length (part p c s) ≡ c = length_part p c s k in
    rw (e, ← part-eq p c s) (read_in w q (part p c s) (rw l h) ∙ ap be (part-part q w p c s h) ∙ sym (read_in w (p + q) s (omega arith)))

-- bytes written
module _ (p : ℕ) (v s : List ℕ) where
  pub write_in : p + length v ≤ length s → write p v s ≡ patch p v s
  unfolding write
  write_in h = rw (le-leb (p + length v) (length s) h)

  pub write_out : length s < p + length v → write p v s ≡ s
  unfolding write
  write_out h = rw (lt-leb (p + length v) (length s) h)

  pub write_framed : Framed p (p + length v) s (write p v s)
  write_framed =
      ⊎_elim
      (λ (h : length s < p + length v). rw (write_out h) (framed-same p (p + length v) s))
      (λ (h : p + length v ≤ length s). rw (write_in h) (framed-patch p (p + length v) p v s h (omega arith) (omega arith)))
      (lt-or_ge (length s) (p + length v))

-- what was written is read
pub read-write : (w p x : ℕ) (s : List ℕ) → p + w ≤ length s → x < 256 ^ w → read w p (write p (bytes w x) s) ≡ x
read-write w p x s h k =
    let i : p + length (bytes w x) ≤ length s = rw length-bytes h in
    let l : p + w ≤ length (write p (bytes w x) s) = rw (write_in p (bytes w x) s i, length-patch p (bytes w x) s i) h in
    rw (read_in w p (write p (bytes w x) s) l, write_in p (bytes w x) s i) (get-put w p x s h k)

-- a part of s that the code fills with v
pub part_written : (p k : ℕ) (v w s : List ℕ) → length v ≡ k → w ≡ v → leb (p + k) (length s) ≡ true → put_mid p (p + k - p) s w ≡ write p v s
unfolding write patch
part_written p k v w s l e f = let q : p + k - p ≡ k = omega arith in rw (q, e, l, f, drop-drop, append_assoc)

pub nothing_written : (p : ℕ) (v s : List ℕ) → leb (p + length v) (length s) ≡ false → write p v s ≡ s
unfolding write
nothing_written p v s f = rw f

-- a copy whose last turn is done
pub copied : (p : ℕ) (v s : List ℕ) → leb (p + length v) (length s) ≡ true → {i : ℕ} {t : List ℕ} → i ≤ length v → length v ≤ i → t ≡ patch p (part 0 i v) s → t ≡ write p v s
copied p v s f {i} h k e = copy_done p i v s _ h k e ∙ sym (write_in p v s (leb-true _ _ f))

pub ruleset writes = (part_written, nothing_written, length-replicate)

either : {A : Type 0} (t : Bool) (a : A) → cond t a a ≡ a
either true a = refl
either false a = refl

module _ (at end by : ℕ) (s : List ℕ) where
  pub open_in : end + by ≤ length s → opened at end by s ≡ patch (at + by) (part at (end - at) s) s
  unfolding opened
  open_in h = rw (le-leb (end + by) (length s) h)

  pub close_in : end + by ≤ length s → closed at end by s ≡ patch at (part (at + by) (end - at) s) s
  unfolding closed
  close_in h = rw (le-leb (end + by) (length s) h)

  -- after the last turn
  pub open_end : leb (end + by) (length s) ≡ true → {i : ℕ} {t : List ℕ} → at ≤ i → i ≤ at → t ≡ patch (i + by) (part i (end - i) s) s → t ≡ opened at end by s
  open_end f {i} j l e =
      let z : i ≡ at = omega arith in
      rw (open_in (leb-true _ _ f), ← z) e

  pub close_end : leb (end + by) (length s) ≡ true → {i : ℕ} {t : List ℕ} → i ≤ end → end ≤ i → t ≡ patch at (part (at + by) (i - at) s) s → t ≡ closed at end by s
  close_end f {i} j l e =
      let z : i ≡ end = omega arith in
      rw (close_in (leb-true _ _ f), ← z) e

  pub nothing_opened : leb (end + by) (length s) ≡ false → s ≡ opened at end by s
  unfolding opened
  nothing_opened f = rw f

  pub nothing_closed : leb (end + by) (length s) ≡ false → s ≡ closed at end by s
  unfolding closed
  nothing_closed f = rw f

  -- nothing to move
  same : (p f : ℕ) → end < at → patch p (part f (end - at) s) s ≡ s
  same p f h = let z : end - at ≡ 0 = omega arith in rw (z, part_none, patch-none)

  pub open_none : end < at → s ≡ opened at end by s
  unfolding opened
  open_none h = rw (same (at + by) at h) (sym (either (leb (end + by) (length s)) s))

  pub close_none : end < at → s ≡ closed at end by s
  unfolding closed
  close_none h = rw (same at (at + by) h) (sym (either (leb (end + by) (length s)) s))
