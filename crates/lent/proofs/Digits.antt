-- Numbers and their bytes: laws of `be` and `bytes`, once over the width. Assumes nothing.
use Prim.Native.Nat.{ℕ, zero, suc, ◌+◌, ◌-◌, ◌*◌, ◌/◌, ◌%◌, ◌^◌, ◌≤◌, ◌<◌}
use mathlib.Core.Path.{◌≡◌, refl, sym, ap, ◌∙◌}
use mathlib.Core.List.{List, [], ◌∷◌, ◌++◌, append_assoc, append-nil}
use native.Mathlib.Nat.{add_assoc, add-zero, add-suc, add-mul, mul_assoc, pow-suc, pow-succ', pow-zero, div-one, div-div-eq-div-mul}
use native.Mathlib.Numerals.{one-add}
use Rattle.std.specs.Int.{w64, from_be_bytes, bytes_high_first}
use native.Mathlib.Omega.{arith}
use borrow.Rule.Slice.PartMut.{put_mid}
use lib.ListN.{length, replicate, length-take, get_or, set, take, drop, length-append}
use lib.Arith.{mod-mul, digits_lt, digits_div, digits_mod}
use lib.Pow.{pow-add}
use lib.Seq.{drop-cons, drop-drop, drop_at, take_all}
use Rattle.lent.specs.Numbers.{be, bytes}
use Rattle.lent.specs.Parts.{part, patch}
use Rattle.lent.proofs.Parts.{part-patch, patch-append, set-patch, length-patch}

pub be-append : (x y : List ℕ) → be (x ++ y) ≡ be x * 256 ^ length y + be y
unfolding be
be-append [] y = omega arith
be-append (b ∷ x) y = rw (be-append x y, length-append x y, pow-add, add-mul, mul_assoc, add_assoc)

pub length-bytes : (w v : ℕ) → length (bytes w v) ≡ w
unfolding bytes
length-bytes zero v = refl
length-bytes (suc w) v = rw (length-append, length-bytes w (v / 256)) (omega arith)

pub bytes_add : (a b v : ℕ) → bytes (a + b) v ≡ bytes a (v / 256 ^ b) ++ bytes b v
unfolding bytes
bytes_add a zero v = rw (add-zero, pow-zero, div-one, append-nil)
bytes_add a (suc b) v = rw (add-suc, bytes_add a b (v / 256), div-div-eq-div-mul, pow-succ', append_assoc)

pub be-bytes : (w v : ℕ) → v < 256 ^ w → be (bytes w v) ≡ v
unfolding be bytes
be-bytes zero v h = omega arith
be-bytes (suc w) v h = let k : v < 256 ^ w * 256 = rw pow-suc at h in rw (be-append, be-bytes w (v / 256) (omega arith)) (omega arith)

-- one byte
pub part_one : (p : ℕ) (s : List ℕ) → p < length s → part p 1 s ≡ get_or s p 0 ∷ []
unfolding part
part_one p s h = rw (drop-cons s p 0)

-- what was written is read
pub get-put : (w p v : ℕ) (s : List ℕ) → p + w ≤ length s → v < 256 ^ w → be (part p w (patch p (bytes w v) s)) ≡ v
get-put w p v s h k = ap be (rw length-bytes at (part-patch p (bytes w v) s (rw length-bytes h))) ∙ be-bytes w v k

-- two stores
pub set_pair : (p x y : ℕ) (s : List ℕ) → p + 2 ≤ length s → set (set s p x) (p + 1) y ≡ patch p (x ∷ y ∷ []) s
set_pair p x y s h =
    let i : p < length s = omega arith in
    let k : p + length (x ∷ []) ≤ length s = omega arith in
    let j : p + 1 < length (patch p (x ∷ []) s) = rw length-patch (omega arith) in
    rw (set-patch s p x, set-patch (patch p (x ∷ []) s) (p + 1) y) (patch-append p (x ∷ []) (y ∷ []) s (omega arith))

pub pow_256 : (w : ℕ) → 0 < 256 ^ w
pow_256 zero = omega arith
pow_256 (suc w) = rw pow-suc (omega (arith, pow_256 w))

pub bytes_mod : (w v : ℕ) → bytes w (v % 256 ^ w) ≡ bytes w v
unfolding bytes
bytes_mod zero v = refl
bytes_mod (suc w) v =
    let z : 0 < 256 ^ w = pow_256 w in
    let e : v % 256 ^ suc w ≡ (v / 256 % 256 ^ w) * 256 + v % 256 = rw pow-suc (mod-mul v z (omega arith)) in
    let q : v % 256 ^ suc w / 256 ≡ v / 256 % 256 ^ w = omega arith in
    let r : v % 256 ^ suc w % 256 ≡ v % 256 = omega arith in
    rw (q, r, bytes_mod w (v / 256))

bytes-none : (v : ℕ) → bytes 0 v ≡ []
unfolding bytes
bytes-none v = refl

bytes-digit : (v : ℕ) → bytes 1 v ≡ v % 256 ∷ []
unfolding bytes
bytes-digit v = refl

bytes_one : (v : ℕ) → v < 256 → bytes 1 v ≡ v ∷ []
unfolding bytes
bytes_one v h = let e : v % 256 ≡ v = omega arith in rw e

-- bytes are the digits of their number
pub be-lt : (l : List ℕ) → ((i : ℕ) → get_or l i 0 < 256) → be l < 256 ^ length l
unfolding be
be-lt [] h = omega arith
be-lt (x ∷ l) h = rw pow-succ' (digits_lt (h 0) (be-lt l (λ i. h (suc i))))

pub bytes-be : (l : List ℕ) → ((i : ℕ) → get_or l i 0 < 256) → bytes (length l) (be l) ≡ l
unfolding be
bytes-be [] h = bytes-none 0
bytes-be (x ∷ l) h =
    let r : be l < 256 ^ length l = be-lt l (λ i. h (suc i)) in
    let q : (x * 256 ^ length l + be l) / 256 ^ length l ≡ x = digits_div x r in
    let m : (x * 256 ^ length l + be l) % 256 ^ length l ≡ be l = digits_mod x r in
    rw (← one-add, bytes_add, q, ← bytes_mod (length l) (x * 256 ^ length l + be l), m, bytes-be l (λ i. h (suc i)), bytes_one x (h 0))

-- the number of 8 bytes, as the library tells it, and of fewer with 0 before them
be_eight : (l : List ℕ) → length l ≡ 8 → from_be_bytes w64 l ≡ be l
unfolding be
be_eight (a ∷ b ∷ c ∷ d ∷ e ∷ f ∷ g ∷ h ∷ []) z = omega arith
be_eight _ z = absurd (omega arith)

be-zeros : (k n : ℕ) (l : List ℕ) → be (take k (replicate n 0) ++ l) ≡ be l
unfolding be
be-zeros zero n l = refl
be-zeros (suc k) zero l = refl
be-zeros (suc k) (suc n) l = let e : be (take k (replicate n 0) ++ l) ≡ be l = be-zeros k n l in omega arith

pub widened : (w : ℕ) (v : List ℕ) → w ≤ 8 → length v ≡ w → from_be_bytes w64 (put_mid (8 - w) (8 - (8 - w)) (replicate 8 0) v) ≡ be v
widened w v h l =
    let q : 8 - (8 - w) ≡ w = omega arith in
    let a : 8 - w + w ≡ 8 = omega arith in
    let z : List ℕ = replicate 8 0 in
    let d : drop w (drop (8 - w) z) ≡ [] = rw (drop-drop, a) in
    let m : length (take (8 - w) z) ≡ 8 - w = rw length-take (omega arith) in
    let n : length (take (8 - w) z ++ v) ≡ 8 = rw (length-append, m, l) a in
    rw (q, d, append-nil) (be_eight (take (8 - w) z ++ v) n ∙ be-zeros (8 - w) 8 v)

-- the low bytes of a number, as the library tells them
bytes-first : (k n : ℕ) → bytes (suc k) n ≡ n / 256 ^ k % 256 ∷ bytes k n
bytes-first k n = rw (← one-add, bytes_add, bytes-digit)

high-first : (k n : ℕ) → bytes_high_first k n ≡ bytes k n
high-first zero n = sym (bytes-none n)
high-first (suc zero) n = sym (bytes-digit n)
high-first (suc (suc k)) n = rw (high-first (suc k) n, bytes-first (suc k) n)

pub low_bytes : (w n : ℕ) {l : List ℕ} → w ≤ 8 → l ≡ bytes_high_first 8 n → take (8 - (8 - w)) (drop (8 - w) l) ≡ bytes w n
low_bytes w n {l} h e =
    let a : 8 - w + w ≡ 8 = omega arith in
    let b : 8 - (8 - w) ≡ w = omega arith in
    let c : l ≡ bytes (8 - w) (n / 256 ^ w) ++ bytes w n = e ∙ high-first 8 n ∙ (rw a at (bytes_add (8 - w) w n)) in
    rw (b, c, drop_at _ _ _ (length-bytes _ _)) (take_all w _ (omega (arith, length-bytes w n)))
