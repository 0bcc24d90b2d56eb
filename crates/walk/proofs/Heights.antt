-- The height of a forest: a node's children are less high, and a forest of no height has no node. Assumes nothing.
use mathlib.Core.Path.{◌≡◌, refl}
use mathlib.Core.Bool.{Bool, true, false, cond}
use mathlib.Core.List.{List}
use Prim.Native.Nat.{ℕ, suc, ◌≤◌, ◌<◌, max}
use native.Mathlib.Omega.{arith}
use Rattle.level.specs.Kinds.{same}
use Rattle.held.specs.Order.{Level}
use Rattle.held.specs.Forest.{Forest, leaf, fork}
use Rattle.held.specs.Walks.{Hit, miss, hit, kid}
use Rattle.walk.specs.Height.{height_f}

module _ {X : Type 0} where
  pub height_fork : (t : Level) (v : List X) (k n : Forest X) → height_f (fork t v k n) ≡ max (suc (height_f k)) (height_f n)
  unfolding height_f
  height_fork t v k n = refl

  abbrev Lower : Hit X → ℕ → Type 0
  Lower miss m = Unit {0}
  Lower (hit v k) m = height_f k < m

  lower-more : (h : Hit X) (m n : ℕ) → m ≤ n → Lower h m → Lower h n
  lower-more miss m n l p = tt
  lower-more (hit v k) m n l p = omega arith

  kid_lower : (g : Level) (F : Forest X) → Lower (kid g F) (height_f F)
  unfolding kid
  kid_lower g leaf = tt
  kid_lower g (fork t v k n) = go (same g t) (kid_lower g n)
    where
      go : (b : Bool) → Lower (kid g n) (height_f n) → Lower (cond b (hit v k) (kid g n)) (height_f (fork t v k n))
      go true p = omega (arith, height_fork t v k n)
      go false p = lower-more (kid g n) (height_f n) (height_f (fork t v k n)) (omega (arith, height_fork t v k n)) p

  pub kid_height : (g : Level) (F : Forest X) (v : List X) (k : Forest X) → kid g F ≡ hit v k → height_f k < height_f F
  kid_height g F v k e = rw e at (kid_lower g F)

  pub no_height : (F : Forest X) → height_f F ≤ 0 → F ≡ leaf
  no_height leaf h = refl
  no_height (fork t v k n) h = absurd (omega (arith, height_fork t v k n))

  pub kid_leaf : (g : Level) (F : Forest X) → height_f F ≤ 0 → kid g F ≡ miss
  unfolding kid
  kid_leaf g F h = rw (no_height F h)
