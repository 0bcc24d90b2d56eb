-- Laws of the same bytes. Assumes nothing.
use mathlib.Core.Path.{◌≡◌, refl, ap}
use mathlib.Core.Bool.{false, and-false}
use mathlib.Core.List.{List, [], ◌∷◌}
use Prim.Native.Nat.{ℕ, suc, ◌<◌}
use native.Mathlib.Omega.{arith}
use lib.Dec.{eqb}
use lib.ListN.{length}
use Rattle.level.specs.Kinds.{same}

pub same_lengths : (a b : List ℕ) → (length a ≡ length b → ⊥) → same a b ≡ false
same_lengths [] [] h = absurd (h refl)
same_lengths [] (y ∷ b) h = refl
same_lengths (x ∷ a) [] h = refl
same_lengths (x ∷ a) (y ∷ b) h = rw (same_lengths a b (λ e. h (ap suc e))) (and-false (eqb x y))

-- a longer text is another
pub same_longer : (a b : List ℕ) → length b < length a → same a b ≡ false
same_longer a b h = same_lengths a b (λ e. omega (arith, h, e))

-- the laws by which lengths tell two texts apart
pub ruleset length_laws = (same_lengths, same_longer)
