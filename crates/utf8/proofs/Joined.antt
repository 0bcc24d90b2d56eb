-- A text with a '/' in it is UTF-8 exactly when what stands before it and what stands after it are: no character of two
-- octets or more has an octet below 80. Assumes nothing.
use mathlib.Core.Path.{◌≡◌, refl}
use mathlib.Core.Bool.{Bool, true, false, cond, ◌&&◌, and-eq-true_iff}
use mathlib.Core.List.{List, [], ◌∷◌, ◌++◌}
use Prim.Native.Nat.{ℕ, ◌≤◌}
use native.Mathlib.Omega.{arith}
use lib.Dec.{leb}
use borrow.Author.Tests.{leb-true, lt-leb}
use Rattle.utf8.specs.Utf8.{Range, ◌to◌, within, rows, Next, bad, go, begins, follow, on, octets, is_utf8}

-- ranges above 7F; what may follow is above 7F; each row is, but for its first range
abbrev high : List Range → Bool
high [] = true
high (lo to hi ∷ e) = leb 0x80 lo && high e

abbrev high_next : Next → Bool
high_next bad = true
high_next (go e) = high e

abbrev high_rows : List (List Range) → Bool
high_rows [] = true
high_rows ([] ∷ rs) = high_rows rs
high_rows ((r ∷ e) ∷ rs) = high e && high_rows rs

both : (a b : Bool) → (a && b) ≡ true → (a ≡ true) × (b ≡ true)
both a b h = (and-eq-true_iff a b).0 h

chosen : (t : Bool) (n m : Next) → high_next n ≡ true → high_next m ≡ true → high_next (cond t n m) ≡ true
chosen true n m p q = p
chosen false n m p q = q

begins_high : (rs : List (List Range)) (b : ℕ) → high_rows rs ≡ true → high_next (begins rs b) ≡ true
begins_high [] b h = refl
begins_high ([] ∷ rs) b h = begins_high rs b h
begins_high ((r ∷ e) ∷ rs) b h =
    let p = both (high e) (high_rows rs) h in
    chosen (within r b) (go e) (begins rs b) p.0 (begins_high rs b p.1)

follow_high : (e : List Range) (b : ℕ) → high e ≡ true → high_next (follow e b) ≡ true
follow_high [] b h = begins_high rows b refl
follow_high (lo to hi ∷ e) b h = chosen (within (lo to hi) b) (go e) bad (both (leb 0x80 lo) (high e) h).1 refl

-- a '/' where octets above 7F are due
cut : (lo : ℕ) → leb 0x80 lo ≡ true → leb lo 47 ≡ false
cut lo h = let l : 0x80 ≤ lo = leb-true _ _ h in lt-leb lo 47 (omega arith)

step : (l s : List ℕ) (n : Next) → high_next n ≡ true
    → ((d : List Range) → high d ≡ true → octets (l ++ 47 ∷ s) d ≡ (octets l d && is_utf8 s))
    → on n (λ (d : List Range). octets (l ++ 47 ∷ s) d) ≡ (on n (λ (d : List Range). octets l d) && is_utf8 s)
step l s bad h k = refl
step l s (go d) h k = k d h

from : (l s : List ℕ) (e : List Range) → high e ≡ true → octets (l ++ 47 ∷ s) e ≡ (octets l e && is_utf8 s)
from [] s [] h = refl
from [] s (lo to hi ∷ e) h = rw (cut lo (both (leb 0x80 lo) (high e) h).0)
from (b ∷ l) s e h = step l s (follow e b) (follow_high e b h) (λ (d : List Range) g. from l s d g)

pub utf8_slash : (l s : List ℕ) → is_utf8 (l ++ 47 ∷ s) ≡ (is_utf8 l && is_utf8 s)
utf8_slash l s = from l s [] refl
