-- A sweep makes nothing greater: units, nodes and cells are no more than before, and what fitted fits. Assumes nothing.
use mathlib.Core.Path.{◌≡◌, refl}
use mathlib.Core.Bool.{Bool}
use mathlib.Core.List.{List, [], ◌∷◌}
use Prim.Native.Nat.{ℕ, ◌+◌, ◌≤◌, ◌<◌}
use native.Mathlib.Omega.{arith}
use lib.ListN.{length}
use Rattle.held.specs.Order.{Level}
use Rattle.held.specs.Ascending.{All, keep}
use Rattle.held.specs.Forest.{Forest, leaf, fork}
use Rattle.held.specs.Edit.{pruned, sweep_f, weigh_f}
use Rattle.held.proofs.Entries.{all_keep}
use Rattle.held.proofs.Bounds.{length-keep}
use Rattle.region.specs.Layout.{level_units, units_f}
use Rattle.region.specs.Forms.{Fits, leaf_fits, fork_fits}
use Rattle.forest.proofs.StandsLaws.{fork_units, fits_fork}

module _ {X : Type 0} where
  units-pruned : (l : Level) (v : List X) (k n : Forest X) → units_f (pruned l v k n) ≤ level_units l + length v + (units_f k + units_f n)
  unfolding pruned units_f
  units-pruned l [] leaf n = omega arith
  units-pruned l [] (fork a b c d) n = omega arith
  units-pruned l (x ∷ v) k n = omega arith

  weigh-pruned : (c : Level → ℕ) (l : Level) (v : List X) (k n : Forest X) → weigh_f c (pruned l v k n) ≤ c l + (weigh_f c k + weigh_f c n)
  unfolding pruned weigh_f
  weigh-pruned c l [] leaf n = omega arith
  weigh-pruned c l [] (fork a b e d) n = omega arith
  weigh-pruned c l (x ∷ v) k n = omega arith

  fits-pruned : {Small : X → Type 0} (l : Level) (v : List X) (k n : Forest X) → length l < 65536 → length v < 65536 → units_f k < 65536 → All Small v → Fits Small k → Fits Small n → Fits Small (pruned l v k n)
  unfolding pruned
  fits-pruned l [] leaf n a b c d e f = f
  fits-pruned l [] (fork t w i j) n a b c d e f = fork_fits a b c d e f
  fits-pruned l (x ∷ v) k n a b c d e f = fork_fits a b c d e f

  module _ (q : X → Bool) where
    pub units_sweep : (F : Forest X) → units_f (sweep_f q F) ≤ units_f F
    unfolding sweep_f
    units_sweep leaf = omega arith
    units_sweep (fork l v k n) =
        omega (arith, units-pruned l (keep q v) (sweep_f q k) (sweep_f q n), length-keep q v, units_sweep k, units_sweep n, fork_units l v k n)

    weigh_fork : (c : Level → ℕ) (l : Level) (v : List X) (k n : Forest X) → weigh_f c (fork l v k n) ≡ c l + (weigh_f c k + weigh_f c n)
    unfolding weigh_f
    weigh_fork c l v k n = refl

    pub weigh_sweep : (c : Level → ℕ) (F : Forest X) → weigh_f c (sweep_f q F) ≤ weigh_f c F
    unfolding sweep_f
    weigh_sweep c leaf = omega arith
    weigh_sweep c (fork l v k n) =
        omega (arith, weigh-pruned c l (keep q v) (sweep_f q k) (sweep_f q n), weigh_sweep c k, weigh_sweep c n, weigh_fork c l v k n)

    pub fits_sweep : {Small : X → Type 0} (F : Forest X) → Fits Small F → Fits Small (sweep_f q F)
    unfolding sweep_f
    fits_sweep leaf f = leaf_fits
    fits_sweep {Small} (fork l v k n) f =
        let p = fits_fork l v k n f in
        fits-pruned l (keep q v) (sweep_f q k) (sweep_f q n) p.text (omega (arith, length-keep q v, p.own)) (omega (arith, units_sweep k, p.below))
        (all_keep Small q v p.small) (fits_sweep k p.kids) (fits_sweep n p.next)
