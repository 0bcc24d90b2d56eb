-- Where each node holds something or has children, a forest is no higher than the longest of its held filters. Assumes nothing.
use mathlib.Core.Path.{◌≡◌, refl}
use mathlib.Core.List.{List, [], ◌∷◌, ◌++◌, map}
use Prim.Native.Nat.{ℕ, zero, suc, ◌-◌, ◌≤◌}
use native.Mathlib.Omega.{arith}
use lib.ListN.{length}
use Rattle.held.specs.Order.{Level, Filter}
use Rattle.held.specs.Ascending.{All}
use Rattle.held.specs.Forest.{Forest, leaf, fork, under, held, Full}
use Rattle.walk.specs.Height.{height_f}
use Rattle.walk.proofs.Heights.{no_height}
use Rattle.held.proofs.Entries.{all_before, all_behind}

module _ {X : Type 0} where
  abbrev pub Short : ℕ → Filter × X → Type 0
  Short m e = length e.0 ≤ m

  shorter : (t : Level) (m : ℕ) (l : List (Filter × X)) → All (Short m) (map (under t) l) → All (Short (m - 1)) l
  shorter t m [] h = tt
  shorter t m (e ∷ l) h = (omega (arith, h.0), shorter t m l h.1)

  pub height-held : (F : Forest X) (m : ℕ) → Full F → All (Short m) (held F) → height_f F ≤ m
  unfolding held height_f
  height-held leaf m f h = omega arith
  height-held (fork t v k n) m f h =
      let own : List (Filter × X) = map (λ x. (t ∷ [], x)) v in
      let low : List (Filter × X) = map (under t) (held k) in
      let rest = all_behind (Short m) own (low ++ held n) h in
      let kids : height_f k ≤ m - 1 = height-held k (m - 1) f.1 (shorter t m (held k) (all_before (Short m) low (held n) rest)) in
      let next : height_f n ≤ m = height-held n m f.2 (all_behind (Short m) low (held n) rest) in
      omega (arith, kids, next, some m (all_before (Short m) own (low ++ held n) h) kids)
    where
      some : (m : ℕ) → All (Short m) (map (λ x. (t ∷ [], x)) v) → height_f k ≤ m - 1 → 1 ≤ m
      some zero h l = absurd (f.0 (none v h) (no_height k (omega (arith, l))))
        where
          none : (v : List X) → All (Short zero) (map (λ x. (t ∷ [], x)) v) → v ≡ []
          none [] h = refl
          none (x ∷ v) h = absurd (omega (arith, h.0))
      some (suc m) h l = omega arith
