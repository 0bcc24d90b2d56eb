-- What a change along a path does to what a forest holds. Assumes nothing.
use mathlib.Core.Path.{◌≡◌, refl, sym, subst, ◌∙◌}
use mathlib.Core.Bool.{Bool, true, false, cond, ◌&&◌}
use mathlib.Core.List.{List, [], ◌∷◌}
use Rattle.level.specs.Kinds.{same}
use Rattle.held.specs.Order.{Level, Filter, same_filter, level_lt}
use Rattle.held.specs.Forest.{Forest, leaf, fork, Over, Rows}
use Rattle.held.specs.Walks.{miss, hit, kid, values_at}
use Rattle.held.specs.Edit.{edit_own, chain, grow_f, pruned, cut_f}
use Rattle.held.proofs.Orders.{Tri, lower, alike, higher, tri, eq_higher, same_sym, level_order}
use Rattle.held.proofs.Walks.{at_miss, kid_over}

module _ {X : Type 0} (u : List X → List X) where
  at_none : (gs : Filter) → values_at {X = X} gs (hit [] leaf) ≡ []
  unfolding kid values_at
  at_none [] = refl
  at_none (h ∷ hs) = at_miss hs

  -- a node on the path, with other children, and with u done to what it holds if the path ends there
  node : (qs : Filter) (v : List X) (k k' : Forest X) → ((h : Level) (hs : Filter) → values_at hs (kid h k') ≡ cond (same_filter (h ∷ hs) qs) (u (values_at hs (kid h k))) (values_at hs (kid h k)))
      → (gs : Filter) → values_at gs (hit (edit_own u qs v) k') ≡ cond (same_filter gs qs) (u (values_at gs (hit v k))) (values_at gs (hit v k))
  unfolding values_at
  node [] v k k' e [] = refl
  node (q ∷ qs) v k k' e [] = refl
  node [] v k k' e (h ∷ hs) = e h hs
  node (q ∷ qs) v k k' e (h ∷ hs) = e h hs

  node_row : (t : Level) (qs : Filter) (v : List X) (k k' n : Forest X) → ((h : Level) (hs : Filter) → values_at hs (kid h k') ≡ cond (same_filter (h ∷ hs) qs) (u (values_at hs (kid h k))) (values_at hs (kid h k)))
      → (h : Level) (hs : Filter) → values_at hs (kid h (fork t (edit_own u qs v) k' n)) ≡ cond (same_filter (h ∷ hs) (t ∷ qs)) (u (values_at hs (kid h (fork t v k n)))) (values_at hs (kid h (fork t v k n)))
  unfolding kid
  node_row t qs v k k' n e h hs = go (same h t)
    where
      go : (s : Bool) → values_at hs (cond s (hit (edit_own u qs v) k') (kid h n)) ≡ cond (s && same_filter hs qs) (u (values_at hs (cond s (hit v k) (kid h n)))) (values_at hs (cond s (hit v k) (kid h n)))
      go true = node qs v k k' e hs
      go false = refl

  new_node : (gs : Filter) → ((h : Level) (hs : Filter) → values_at hs (kid h (chain u gs)) ≡ cond (same_filter (h ∷ hs) gs) (u []) [])
      → (hs : Filter) → values_at hs (hit (edit_own u gs []) (chain u gs)) ≡ cond (same_filter hs gs) (u []) []
  unfolding kid values_at
  new_node gs e hs = rw at_none at (node gs [] leaf (chain u gs) (λ h hs. rw (at_miss hs) (e h hs)) hs)

  at-chain : (p : Filter) (h : Level) (hs : Filter) → values_at hs (kid h (chain u p)) ≡ cond (same_filter (h ∷ hs) p) (u []) []
  unfolding kid values_at chain
  at-chain [] h hs = at_miss hs
  at-chain (g ∷ gs) h hs = go (same h g) (new_node gs (at-chain gs) hs)
    where
      go : (s : Bool) → values_at hs (hit (edit_own u gs []) (chain u gs)) ≡ cond (same_filter hs gs) (u []) []
          → values_at hs (cond s (hit (edit_own u gs []) (chain u gs)) miss) ≡ cond (s && same_filter hs gs) (u []) []
      go true e = e
      go false e = at_miss hs

  pub over_mono : (a b : Level) (F : Forest X) → level_lt a b ≡ true → Over b F → Over a F
  over_mono a b leaf p h = tt
  over_mono a b (fork t v k n) p h = (level_order.trans a b t p h.0, over_mono a b n p h.1)

  -- where the node stays and the rest of its row changes
  rest_row : (t g : Level) (gs : Filter) (v : List X) (k n n' : Forest X) → same g t ≡ false
      → ((h : Level) (hs : Filter) → values_at hs (kid h n') ≡ cond (same_filter (h ∷ hs) (g ∷ gs)) (u (values_at hs (kid h n))) (values_at hs (kid h n)))
      → (h : Level) (hs : Filter) → values_at hs (kid h (fork t v k n')) ≡ cond (same_filter (h ∷ hs) (g ∷ gs)) (u (values_at hs (kid h (fork t v k n)))) (values_at hs (kid h (fork t v k n)))
  unfolding kid
  rest_row t g gs v k n n' d e h hs = go (same h t) refl
    where
      go : (s : Bool) → same h t ≡ s → values_at hs (cond s (hit v k) (kid h n')) ≡ cond (same_filter (h ∷ hs) (g ∷ gs)) (u (values_at hs (cond s (hit v k) (kid h n)))) (values_at hs (cond s (hit v k) (kid h n)))
      go true q =
          let z : h ≡ t = level_order.eq_true h t q in
          let c : same h g ≡ false = rw z (same_sym level_order g t false d) in
          rw c
      go false q = e h hs

  -- what stands at each path after u was done at one
  grow_step : (t g : Level) (gs : Filter) (v : List X) (k n : Forest X) → Over t n
      → ((h : Level) (hs : Filter) → values_at hs (kid h (grow_f u gs k)) ≡ cond (same_filter (h ∷ hs) gs) (u (values_at hs (kid h k))) (values_at hs (kid h k)))
      → ((h : Level) (hs : Filter) → values_at hs (kid h (grow_f u (g ∷ gs) n)) ≡ cond (same_filter (h ∷ hs) (g ∷ gs)) (u (values_at hs (kid h n))) (values_at hs (kid h n)))
      → Tri level_lt g t → (h : Level) (hs : Filter)
      → values_at hs (kid h (grow_f u (g ∷ gs) (fork t v k n))) ≡ cond (same_filter (h ∷ hs) (g ∷ gs)) (u (values_at hs (kid h (fork t v k n)))) (values_at hs (kid h (fork t v k n)))
  unfolding grow_f kid values_at
  grow_step t g gs v k n o a b (lower p q) h hs = rw p (go (same h g) refl)
    where
      go : (s : Bool) → same h g ≡ s → values_at hs (cond s (hit (edit_own u gs []) (chain u gs)) (kid h (fork t v k n))) ≡ cond (s && same_filter hs gs) (u (values_at hs (kid h (fork t v k n)))) (values_at hs (kid h (fork t v k n)))
      go true e =
          let z : h ≡ g = level_order.eq_true h g e in
          let m : kid h (fork t v k n) ≡ miss = subst (λ (x : Level). kid x (fork t v k n) ≡ miss) (sym z) (kid_over g (fork t v k n) (p, over_mono g t n p o)) in
          rw (m, at_miss hs) (new_node gs (at-chain gs) hs)
      go false e = refl
  grow_step t g gs v k n o a b (alike z) h hs = rw (z, level_order.irrefl t) (node_row t gs v k (grow_f u gs k) n a h hs)
  grow_step t g gs v k n o a b (higher p q) h hs = rw (p, q) (rest_row t g gs v k n (grow_f u (g ∷ gs) n) (eq_higher level_order g t q) b h hs)

  pub at_grow : (F : Forest X) → Rows F → (p : Filter) (h : Level) (hs : Filter) → values_at hs (kid h (grow_f u p F)) ≡ cond (same_filter (h ∷ hs) p) (u (values_at hs (kid h F))) (values_at hs (kid h F))
  unfolding kid values_at grow_f
  at_grow leaf r p h hs = rw (at_miss hs) (at-chain p h hs)
  at_grow (fork t v k n) r [] h hs = refl
  at_grow (fork t v k n) r (g ∷ gs) h hs = grow_step t g gs v k n r.0 (at_grow k r.1 gs) (at_grow n r.2 (g ∷ gs)) (tri level_order g t) h hs

  -- pruning changes nothing that is held
  pub at-pruned : (t : Level) (v : List X) (k n : Forest X) → Over t n → (h : Level) (hs : Filter) → values_at hs (kid h (pruned t v k n)) ≡ values_at hs (kid h (fork t v k n))
  unfolding kid pruned
  at-pruned t [] leaf n o h hs = go (same h t) refl
    where
      go : (s : Bool) → same h t ≡ s → values_at hs (kid h n) ≡ values_at hs (cond s (hit [] leaf) (kid h n))
      go true e =
          let z : h ≡ t = level_order.eq_true h t e in
          let m : kid h n ≡ miss = rw z (kid_over t n o) in
          rw (m, at_none hs) (at_miss hs)
      go false e = refl
  at-pruned t [] (fork a b c d) n o h hs = refl
  at-pruned t (x ∷ v) k n o h hs = refl

  cut_step : (t g : Level) (gs : Filter) (v : List X) (k n : Forest X) → Over t n
      → ((h : Level) (hs : Filter) → values_at hs (kid h (cut_f u gs k)) ≡ cond (same_filter (h ∷ hs) gs) (u (values_at hs (kid h k))) (values_at hs (kid h k)))
      → ((h : Level) (hs : Filter) → values_at hs (kid h (cut_f u (g ∷ gs) n)) ≡ cond (same_filter (h ∷ hs) (g ∷ gs)) (u (values_at hs (kid h n))) (values_at hs (kid h n)))
      → (s : Bool) → same g t ≡ s → (h : Level) (hs : Filter)
      → values_at hs (kid h (cut_f u (g ∷ gs) (fork t v k n))) ≡ cond (same_filter (h ∷ hs) (g ∷ gs)) (u (values_at hs (kid h (fork t v k n)))) (values_at hs (kid h (fork t v k n)))
  unfolding kid values_at cut_f
  cut_step t g gs v k n o a b true e h hs =
      let z : g ≡ t = level_order.eq_true g t e in
      rw e (at-pruned t (edit_own u gs v) (cut_f u gs k) n o h hs ∙ rw z (node_row t gs v k (cut_f u gs k) n a h hs))
  cut_step t g gs v k n o a b false e h hs = rw e (rest_row t g gs v k n (cut_f u (g ∷ gs) n) e b h hs)

  pub at_cut : u [] ≡ [] → (F : Forest X) → Rows F → (p : Filter) (h : Level) (hs : Filter) → values_at hs (kid h (cut_f u p F)) ≡ cond (same_filter (h ∷ hs) p) (u (values_at hs (kid h F))) (values_at hs (kid h F))
  unfolding kid values_at cut_f
  at_cut z leaf r p h hs = rw (at_miss hs, z) (sym (go (same_filter (h ∷ hs) p)))
    where
      go : (t : Bool) → ◌≡◌ {A = List X} (cond t [] []) []
      go true = refl
      go false = refl
  at_cut z (fork t v k n) r [] h hs = refl
  at_cut z (fork t v k n) r (g ∷ gs) h hs = cut_step t g gs v k n r.0 (at_cut z k r.1 gs) (at_cut z n r.2 (g ∷ gs)) (same g t) refl h hs

  -- what is kept: the order of rows
  pub over-pruned : (s t : Level) (v : List X) (k n : Forest X) → level_lt s t ≡ true → Over s n → Over s (pruned t v k n)
  unfolding pruned
  over-pruned s t [] leaf n p o = o
  over-pruned s t [] (fork a b c d) n p o = (p, o)
  over-pruned s t (x ∷ v) k n p o = (p, o)

  pub rows-pruned : (t : Level) (v : List X) (k n : Forest X) → Over t n → Rows k → Rows n → Rows (pruned t v k n)
  unfolding pruned
  rows-pruned t [] leaf n o a b = b
  rows-pruned t [] (fork c d e f) n o a b = (o, a, b)
  rows-pruned t (x ∷ v) k n o a b = (o, a, b)

  rows-chain : (p : Filter) → Rows (chain u p)
  unfolding chain
  rows-chain [] = tt
  rows-chain (g ∷ gs) = (tt, rows-chain gs, tt)

  over_grow : (s g : Level) (gs : Filter) (F : Forest X) → level_lt s g ≡ true → Over s F → Over s (grow_f u (g ∷ gs) F)
  unfolding chain grow_f
  over_grow s g gs leaf p o = (p, tt)
  over_grow s g gs (fork t v k n) p o = go (tri level_order g t) (over_grow s g gs n p o.1)
    where
      go : Tri level_lt g t → Over s (grow_f u (g ∷ gs) n) → Over s (grow_f u (g ∷ gs) (fork t v k n))
      go (lower a b) i = rw a (p, o)
      go (alike z) i = rw (z, level_order.irrefl t) o
      go (higher a b) i = rw (a, b) (o.0, i)

  pub rows_grow : (p : Filter) (F : Forest X) → Rows F → Rows (grow_f u p F)
  unfolding chain grow_f
  rows_grow p leaf r = rows-chain p
  rows_grow [] (fork t v k n) r = r
  rows_grow (g ∷ gs) (fork t v k n) r = go (tri level_order g t) (rows_grow gs k r.1) (rows_grow (g ∷ gs) n r.2)
    where
      go : Tri level_lt g t → Rows (grow_f u gs k) → Rows (grow_f u (g ∷ gs) n) → Rows (grow_f u (g ∷ gs) (fork t v k n))
      go (lower a b) i j = rw a ((a, over_mono g t n a r.0), rows-chain gs, r)
      go (alike z) i j = rw (z, level_order.irrefl t) (r.0, i, r.2)
      go (higher a b) i j = rw (a, b) (over_grow t g gs n b r.0, r.1, j)

  over_cut : (s : Level) (p : Filter) (F : Forest X) → Rows F → Over s F → Over s (cut_f u p F)
  unfolding cut_f
  over_cut s p leaf r o = tt
  over_cut s [] (fork t v k n) r o = o
  over_cut s (g ∷ gs) (fork t v k n) r o = go (same g t) (over_cut s (g ∷ gs) n r.2 o.1)
    where
      go : (c : Bool) → Over s (cut_f u (g ∷ gs) n) → Over s (cond c (pruned t (edit_own u gs v) (cut_f u gs k) n) (fork t v k (cut_f u (g ∷ gs) n)))
      go true i = over-pruned s t (edit_own u gs v) (cut_f u gs k) n o.0 o.1
      go false i = (o.0, i)

  pub rows_cut : (p : Filter) (F : Forest X) → Rows F → Rows (cut_f u p F)
  unfolding cut_f
  rows_cut p leaf r = tt
  rows_cut [] (fork t v k n) r = r
  rows_cut (g ∷ gs) (fork t v k n) r = go (same g t) (rows_cut gs k r.1) (rows_cut (g ∷ gs) n r.2)
    where
      go : (c : Bool) → Rows (cut_f u gs k) → Rows (cut_f u (g ∷ gs) n) → Rows (cond c (pruned t (edit_own u gs v) (cut_f u gs k) n) (fork t v k (cut_f u (g ∷ gs) n)))
      go true i j = rows-pruned t (edit_own u gs v) (cut_f u gs k) n r.0 i r.2
      go false i j = (over_cut t (g ∷ gs) n r.2 r.0, r.1, j)
