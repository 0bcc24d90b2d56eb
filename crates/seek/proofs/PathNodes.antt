-- What a path holds, level by level. Assumes nothing.
use mathlib.Core.Path.{◌≡◌, refl, sym, ap, ◌∙◌}
use mathlib.Core.List.{List, [], ◌∷◌}
use native.Mathlib.Omega.{arith}
use lib.ListN.{length}
use Rattle.held.specs.Order.{Level, Filter}
use Rattle.held.specs.Forest.{Forest}
use Rattle.held.specs.Walks.{Hit, miss, hit, kid, values_at}
use Rattle.held.specs.Edit.{missing}
use Rattle.held.proofs.Walks.{at_miss}
use Rattle.seek.proofs.Descent.{missing_hit}

module _ {X : Type 0} where
  -- what a path holds, level by level
  pub values_end : (v : List X) (k : Forest X) → values_at [] (hit v k) ≡ v
  unfolding values_at
  values_end v k = refl

  pub values_hit : (g : Level) (gs : Filter) (w v : List X) (F k : Forest X) → kid g F ≡ hit v k → values_at (g ∷ gs) (hit w F) ≡ values_at gs (hit v k)
  unfolding values_at
  values_hit g gs w v F k e = ap (values_at gs) e

  -- where a level is missing, nothing
  pub values-missing : (gs : Filter) (v : List X) (F : Forest X) (h : Level) (hs : Filter) → missing gs F ≡ h ∷ hs → values_at gs (hit v F) ≡ []
  unfolding missing values_at
  values-missing [] v F h hs e = absurd (omega (arith, ap length e))
  values-missing (g ∷ gs) v F h hs e = go (kid g F) refl (λ w k. values-missing gs w k h hs)
    where
      go : (x : Hit X) → kid g F ≡ x → ((w : List X) (k : Forest X) → missing gs k ≡ h ∷ hs → values_at gs (hit w k) ≡ []) → values_at gs (kid g F) ≡ []
      go miss q f = rw q (at_miss gs)
      go (hit w k) q f = rw q (f w k (sym (missing_hit g gs 0 F w k q) ∙ e))
