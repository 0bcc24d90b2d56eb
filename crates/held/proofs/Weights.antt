-- What a change adds to a count of nodes or cells, and what it takes from it. Assumes nothing.
use mathlib.Core.Path.{◌≡◌, refl}
use Prim.Native.Nat.{ℕ, ◌+◌}
use mathlib.Core.Bool.{Bool, true, false}
use mathlib.Core.List.{List, [], ◌∷◌}
use native.Mathlib.Omega.{arith}
use Rattle.level.specs.Kinds.{same}
use Rattle.held.specs.Order.{Level, Filter, level_lt}
use Rattle.held.specs.Forest.{Forest, leaf, fork, Over, Rows}
use Rattle.held.specs.Walks.{miss, kid}
use Rattle.held.specs.Edit.{edit_own, chain, grow_f, pruned, cut_f, weigh_f, missing, weigh, lost, gone}
use Rattle.held.proofs.Orders.{Tri, lower, alike, higher, tri, eq_higher, level_order}
use Rattle.held.proofs.Walks.{kid_over}
use Rattle.held.proofs.Edits.{over_mono}

-- what growth adds to a count: the weight of the levels that were missing
module _ {X : Type 0} (c : Level → ℕ) (u : List X → List X) where
  weigh-chain : (p : Filter) → weigh_f c (chain u p) ≡ weigh c p
  unfolding chain weigh_f
  weigh-chain [] = refl
  weigh-chain (g ∷ gs) = omega (arith, weigh-chain gs)

  weigh_step : (t g : Level) (gs : Filter) (v : List X) (k n : Forest X) → Over t n
      → weigh_f c (grow_f u gs k) ≡ weigh_f c k + weigh c (missing gs k)
      → weigh_f c (grow_f u (g ∷ gs) n) ≡ weigh_f c n + weigh c (missing (g ∷ gs) n)
      → Tri level_lt g t → weigh_f c (grow_f u (g ∷ gs) (fork t v k n)) ≡ weigh_f c (fork t v k n) + weigh c (missing (g ∷ gs) (fork t v k n))
  unfolding kid grow_f weigh_f missing chain
  weigh_step t g gs v k n o a b (lower p q) =
      let m : kid g (fork t v k n) ≡ miss = kid_over g (fork t v k n) (p, over_mono u g t n p o) in
      rw (p, m) (omega (arith, weigh-chain gs))
  weigh_step t g gs v k n o a b (alike z) =
      let e : same t t ≡ true = level_order.eq_refl t in
      rw (z, level_order.irrefl t, e) (omega (arith, a))
  weigh_step t g gs v k n o a b (higher p q) =
      let e : same g t ≡ false = eq_higher level_order g t q in
      rw (p, q, e) (omega (arith, b))

  pub weigh_grow : (F : Forest X) → Rows F → (p : Filter) → weigh_f c (grow_f u p F) ≡ weigh_f c F + weigh c (missing p F)
  unfolding kid chain grow_f weigh_f missing
  weigh_grow leaf r [] = refl
  weigh_grow leaf r (g ∷ gs) = omega (arith, weigh-chain (g ∷ gs))
  weigh_grow (fork t v k n) r [] = omega arith
  weigh_grow (fork t v k n) r (g ∷ gs) = weigh_step t g gs v k n r.0 (weigh_grow k r.1 gs) (weigh_grow n r.2 (g ∷ gs)) (tri level_order g t)

-- what a removal takes from a count: the weight of the levels whose nodes go
module _ {X : Type 0} (c : Level → ℕ) (u : List X → List X) where
  weigh-pruned : (t : Level) (v : List X) (k n : Forest X) (r : Filter) → weigh_f c (pruned t v k n) + weigh c (lost t v k r) ≡ c t + (weigh_f c k + weigh_f c n) + weigh c r
  unfolding weigh_f pruned
  weigh-pruned t [] leaf n r = omega arith
  weigh-pruned t [] (fork a b d e) n r = refl
  weigh-pruned t (x ∷ v) k n r = refl

  cut-weigh : (t g : Level) (gs : Filter) (v : List X) (k n : Forest X)
      → weigh_f c (cut_f u gs k) + weigh c (gone u gs k) ≡ weigh_f c k
      → weigh_f c (cut_f u (g ∷ gs) n) + weigh c (gone u (g ∷ gs) n) ≡ weigh_f c n
      → (s : Bool) → same g t ≡ s → weigh_f c (cut_f u (g ∷ gs) (fork t v k n)) + weigh c (gone u (g ∷ gs) (fork t v k n)) ≡ weigh_f c (fork t v k n)
  unfolding kid cut_f weigh_f gone
  cut-weigh t g gs v k n a b true e =
      let z : g ≡ t = level_order.eq_true g t e in
      rw (e, z) (omega (arith, weigh-pruned t (edit_own u gs v) (cut_f u gs k) n (gone u gs k), a))
  cut-weigh t g gs v k n a b false e = rw e (omega (arith, b))

  pub weigh_cut : (F : Forest X) (p : Filter) → weigh_f c (cut_f u p F) + weigh c (gone u p F) ≡ weigh_f c F
  unfolding kid cut_f weigh_f gone
  weigh_cut leaf [] = refl
  weigh_cut leaf (g ∷ gs) = refl
  weigh_cut (fork t v k n) [] = omega arith
  weigh_cut (fork t v k n) (g ∷ gs) = cut-weigh t g gs v k n (weigh_cut k gs) (weigh_cut n (g ∷ gs)) (same g t) refl
