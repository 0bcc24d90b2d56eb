-- Laws of the kinds of a level. Assumes nothing.
use mathlib.Core.Path.{◌≡◌, refl}
use mathlib.Core.Bool.{true, false}
use mathlib.Core.List.{List, [], ◌∷◌}
use Prim.Native.Nat.{ℕ, ◌+◌, ◌<◌}
use native.Mathlib.Numerals.{add-one}
use native.Mathlib.Omega.{arith}
use lib.Dec.{eqb}
use lib.ListN.{length, drop, get_or}
use lib.Seq.{drop-cons}
use borrow.Author.Tests.{ne_eqb}
use Rattle.level.specs.Kinds.{wild, blank}

pub length_nil : (l : List ℕ) → length l ≡ 0 → l ≡ []
length_nil [] e = refl
length_nil (x ∷ l) e = absurd (omega arith)

pub blank_none : (l : List ℕ) → length l ≡ 0 → blank l ≡ true
blank_none [] e = refl
blank_none (x ∷ l) e = absurd (omega arith)

pub blank_some : (l : List ℕ) → (length l ≡ 0 → ⊥) → blank l ≡ false
blank_some [] e = absurd (e refl)
blank_some (x ∷ l) e = refl

pub wild-plus : (l : List ℕ) (i : ℕ) → i < length l → get_or l i 0 ≡ 43 → wild (drop i l) ≡ true
wild-plus l i h e = rw (drop-cons l i 0 h, e)

pub wild-hash : (l : List ℕ) (i : ℕ) → i < length l → get_or l i 0 ≡ 35 → wild (drop i l) ≡ true
wild-hash l i h e = rw (drop-cons l i 0 h, e)

pub wild_other : (l : List ℕ) (i : ℕ) → i < length l → (get_or l i 0 ≡ 43 → ⊥) → (get_or l i 0 ≡ 35 → ⊥) → wild (drop (i + 1) l) ≡ wild (drop i l)
wild_other l i h p q =
    let a : eqb (get_or l i 0) 43 ≡ false = ne_eqb _ _ p in
    let b : eqb (get_or l i 0) 35 ≡ false = ne_eqb _ _ q in
    rw (add-one, drop-cons l i 0 h, a, b)

-- the laws by which a walk over bytes looks for wildcards
pub ruleset wild_laws = (wild-plus, wild-hash, wild_other)
