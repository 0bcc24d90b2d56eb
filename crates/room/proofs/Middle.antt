-- Bytes in the middle of others: read, and written over. Assumes nothing.
use mathlib.Core.Path.{◌≡◌, ap, ◌∙◌}
use mathlib.Core.List.{List, ◌++◌, append_assoc}
use Prim.Native.Nat.{ℕ, ◌+◌, ◌^◌, ◌≤◌, ◌<◌}
use native.Mathlib.Omega.{arith}
use lib.ListN.{length, length-append}
use lib.Seq.{take_at, drop_at}
use Rattle.lent.specs.Numbers.{bytes, be}
use Rattle.lent.specs.Parts.{part, patch}
use Rattle.lent.specs.Total.{read, write}
use Rattle.lent.proofs.Parts.{length-patch, patch-append}
use Rattle.lent.proofs.Digits.{length-bytes, be-bytes}
use Rattle.lent.proofs.Anywhere.{read_in, write_in}
use Rattle.room.specs.Changes.{moved, counted}

pub part_mid : (a v z : List ℕ) (p w : ℕ) → length a ≡ p → length v ≡ w → part p w (a ++ (v ++ z)) ≡ v
unfolding part
part_mid a v z p w h k = rw (drop_at a (v ++ z) p h, take_at v z w k)

pub patch_mid : (a v x z : List ℕ) (p : ℕ) → length a ≡ p → length v ≡ length x → patch p x (a ++ (v ++ z)) ≡ a ++ (x ++ z)
unfolding patch
patch_mid a v x z p h k =
    let l : length (a ++ v) ≡ p + length x = rw length-append (omega (arith, h, k)) in
    rw (take_at a (v ++ z) p h) (ap (λ (y : List ℕ). a ++ x ++ y) (rw (← append_assoc a v z) (drop_at (a ++ v) z (p + length x) l)) ∙ append_assoc a x z)

pub read_mid : (w x : ℕ) (a z : List ℕ) (p : ℕ) → length a ≡ p → x < 256 ^ w → read w p (a ++ (bytes w x ++ z)) ≡ x
read_mid w x a z p h k =
    read_in w p (a ++ (bytes w x ++ z)) (rw (length-append, length-append, length-bytes) (omega (arith, h)))
    ∙ ap be (part_mid a (bytes w x) z p w h (length-bytes w x)) ∙ be-bytes w x k

pub write_mid : (a v x z : List ℕ) (p : ℕ) → length a ≡ p → length v ≡ length x → write p x (a ++ (v ++ z)) ≡ a ++ (x ++ z)
write_mid a v x z p h k =
    write_in p x (a ++ (v ++ z)) (rw (length-append, length-append) (omega (arith, h, k))) ∙ patch_mid a v x z p h k

-- written first, and written on behind what was written
pub first_written : (at : ℕ) (x s t : List ℕ) → at + length x ≤ length s → t ≡ write at x s → t ≡ patch at x s
first_written at x s t h e = e ∙ write_in at x s h

pub then_written : (at k : ℕ) (x y s s' t : List ℕ) → k ≡ at + length x → at + length x + length y ≤ length s → s' ≡ patch at x s → t ≡ write k y s' → t ≡ patch at (x ++ y) s
then_written at k x y s s' t z h e f =
    let l : length s' ≡ length s = ap length e ∙ length-patch at x s (omega arith) in
    f ∙ write_in k y s' (omega (arith, l)) ∙ rw (z, e) (patch-append at x y s (omega arith))

-- a number of two bytes that is moved
pub counted_mid : (more less x : ℕ) (a z : List ℕ) (p : ℕ) → length a ≡ p → x < 65536 → counted p more less (a ++ (bytes 2 x ++ z)) ≡ a ++ (bytes 2 (moved more less x) ++ z)
unfolding counted
counted_mid more less x a z p h k =
    ap (λ (y : ℕ). write p (bytes 2 (moved more less y)) (a ++ (bytes 2 x ++ z))) (read_mid 2 x a z p h k)
    ∙ write_mid a (bytes 2 x) (bytes 2 (moved more less x)) z p h (rw (length-bytes, length-bytes))
