-- Every path leads somewhere; there the code finds it, and there a change is made. Assumes nothing.
use mathlib.Core.Path.{◌≡◌, refl, ap, ◌∙◌}
use mathlib.Core.Bool.{true, false, true≢false}
use mathlib.Core.List.{List, [], ◌∷◌, ◌++◌}
use Prim.Native.Nat.{ℕ, suc, ◌+◌}
use native.Mathlib.Omega.{arith}
use native.Mathlib.Nat.{add-zero}
use lib.ListN.{length}
use Rattle.held.specs.Order.{Level, Filter, level_lt}
use Rattle.held.specs.Forest.{Forest, leaf, fork, Rows}
use Rattle.held.specs.Walks.{kid}
use Rattle.held.specs.Edit.{chain, grow_f, pruned, cut_f, missing}
use Rattle.held.proofs.Orders.{Tri, lower, alike, higher, tri, asym, eq_higher, level_order}
use Rattle.held.proofs.Equations.{kid_here, kid_next, kid_past, grow_before, grow_after, grow-here, cut_here, cut_next}
use Rattle.region.specs.Layout.{row_units, units_f}
use Rattle.forest.specs.Paths.{seek_at, nodes_at, spot_at}
use Rattle.change.specs.Ways.{past, down, Way, plug, ahead, downs}
use Rattle.change.specs.Reach.{Reach, ended, before, there, pass, into, grow_here, last_node}

pub no_cons : (g : Level) (gs : Filter) → ◌≡◌ {A = Filter} [] (g ∷ gs) → ⊥
no_cons g gs e = let z : 0 ≡ suc (length gs) = ap length e in omega (arith, z)

pub no_fork : {X : Type 0} (t : Level) (v : List X) (k n : Forest X) → ◌≡◌ {A = Forest X} (fork t v k n) leaf → ⊥
no_fork t v k n e = let z : true ≡ false = cc in true≢false z

seek-none : (X : Type 0) (g : Level) (at : ℕ) → seek_at {X = X} g at leaf ≡ at
unfolding seek_at
seek-none X g at = refl

-- every path leads somewhere
pub record Reached {X : Type 0} (p : Filter) (F : Forest X) : Type 0 where
  pub way : Way X
  pub row : Forest X
  pub missed : Filter
  pub is : Reach p F way row missed

module _ {X : Type 0} where
  reach_pass : {g t : Level} {gs : Filter} (v : List X) (k n : Forest X) → level_lt t g ≡ true → Reached (g ∷ gs) n → Reached (g ∷ gs) (fork t v k n)
  reach_pass v k n q r = record { way = past _ v k ∷ r.way; row = r.row; missed = r.missed; is = pass q r.is }

  reach_into : (g h : Level) (hs : Filter) (v : List X) (k n : Forest X) → Reached (h ∷ hs) k → Reached (g ∷ h ∷ hs) (fork g v k n)
  reach_into g h hs v k n r = record { way = down g v n ∷ r.way; row = r.row; missed = r.missed; is = into r.is }

  pub reach : (g : Level) (gs : Filter) (F : Forest X) → Reached (g ∷ gs) F
  reach g gs leaf = record { way = []; row = leaf; missed = g ∷ gs; is = ended }
  reach g gs (fork t v k n) = go (tri level_order g t) (reach g gs n) (λ (h : Level) (hs : Filter). reach h hs k)
    where
      here : (gs : Filter) → ((h : Level) (hs : Filter) → Reached (h ∷ hs) k) → Reached (t ∷ gs) (fork t v k n)
      here [] f = record { way = []; row = fork t v k n; missed = []; is = there }
      here (h ∷ hs) f = reach_into t h hs v k n (f h hs)

      go : Tri level_lt g t → Reached (g ∷ gs) n → ((h : Level) (hs : Filter) → Reached (h ∷ hs) k) → Reached (g ∷ gs) (fork t v k n)
      go (lower p q) r f = record { way = []; row = fork t v k n; missed = g ∷ gs; is = before p }
      go (alike z) r f = rw z (here gs f)
      go (higher p q) r f = reach_pass v k n q r

  pub reach_plug : {p m : Filter} {F G : Forest X} {w : Way X} → Reach p F w G m → plug w G ≡ F
  unfolding plug
  reach_plug ended = refl
  reach_plug (before q) = refl
  reach_plug there = refl
  reach_plug (pass {t = t} {v = v} {k = k} q r) = ap (fork t v k) (reach_plug r)
  reach_plug (into {g = g} {v = v} {n = n} r) = ap (λ (f : Forest X). fork g v f n) (reach_plug r)

  pub reach_grow : (u : List X → List X) {p m : Filter} {F G : Forest X} {w : Way X} → Reach p F w G m → grow_f u p F ≡ plug w (grow_here u m G)
  unfolding plug grow_here grow_f chain
  reach_grow u ended = refl
  reach_grow u (before {g = g} {t = t} {gs = gs} {v = v} {k = k} {n = n} q) = grow_before g t v k n u gs q
  reach_grow u (there {g = g} {v = v} {k = k} {n = n}) = grow-here g g v k n u [] refl ∙ ap (λ (f : Forest X). fork g (u v) f n) (grow-none k)
    where
      grow-none : (f : Forest X) → grow_f u [] f ≡ f
      grow-none leaf = refl
      grow-none (fork t v k n) = refl
  reach_grow u (pass {g = g} {t = t} {gs = gs} {v = v} {k = k} {n = n} q r) = grow_after g t v k n u gs q ∙ ap (fork t v k) (reach_grow u r)
  reach_grow u (into {g = g} {h = h} {hs = hs} {v = v} {k = k} {n = n} r) = grow-here g g v k n u (h ∷ hs) refl ∙ ap (λ (f : Forest X). fork g v f n) (reach_grow u r)

  -- what the code finds
  seek-on : (g t : Level) (at : ℕ) (v : List X) (k n : Forest X) → level_lt t g ≡ true → seek_at g at (fork t v k n) ≡ seek_at g (at + (row_units t v + units_f k)) n
  unfolding seek_at
  seek-on g t at v k n q = rw q

  seek_stop : (g t : Level) (at : ℕ) (v : List X) (k n : Forest X) → level_lt t g ≡ false → seek_at g at (fork t v k n) ≡ at
  unfolding seek_at
  seek_stop g t at v k n q = rw q

  pub reach-missing : {p m : Filter} {F G : Forest X} {w : Way X} → Rows F → Reach p F w G m → missing p F ≡ m
  unfolding missing kid
  reach-missing o ended = refl
  reach-missing o (before {g = g} {t = t} {v = v} {k = k} {n = n} q) = rw (kid_past g t v k n q o.0)
  reach-missing o (there {g = g} {v = v} {k = k} {n = n}) = rw (kid_here g g v k n (level_order.eq_refl g))
  reach-missing o (pass {g = g} {t = t} {v = v} {k = k} {n = n} q r) = rw (kid_next g t v k n (eq_higher level_order g t q)) (reach-missing o.2 r)
  reach-missing o (into {g = g} {v = v} {k = k} {n = n} r) = rw (kid_here g g v k n (level_order.eq_refl g)) (reach-missing o.1 r)

  pub reach_nodes : (at : ℕ) {p m : Filter} {F G : Forest X} {w : Way X} → Rows F → Reach p F w G m → nodes_at p at F ≡ downs at w ++ last_node m (at + ahead w)
  unfolding nodes_at downs ahead kid
  reach_nodes at o ended = refl
  reach_nodes at o (before {g = g} {t = t} {v = v} {k = k} {n = n} q) = rw (kid_past g t v k n q o.0)
  reach_nodes at o (there {g = g} {v = v} {k = k} {n = n}) =
      rw (kid_here g g v k n (level_order.eq_refl g), seek_stop g g at v k n (level_order.irrefl g), add-zero)
  reach_nodes at o (pass {g = g} {t = t} {v = v} {k = k} {n = n} {w = w} q r) =
      let e : at + (row_units t v + units_f k + ahead w) ≡ at + (row_units t v + units_f k) + ahead w = omega arith in
      rw (kid_next g t v k n (eq_higher level_order g t q), seek-on g t at v k n q, e) (reach_nodes (at + (row_units t v + units_f k)) o.2 r)
  reach_nodes at o (into {g = g} {v = v} {k = k} {n = n} {w = w} r) =
      let e : at + (row_units g v + ahead w) ≡ at + row_units g v + ahead w = omega arith in
      rw (kid_here g g v k n (level_order.eq_refl g), seek_stop g g at v k n (level_order.irrefl g), e) (ap (λ (l : List ℕ). at ∷ l) (reach_nodes (at + row_units g v) o.1 r))

  -- where the first missing one would stand
  pub reach_spot : (at : ℕ) {p m : Filter} {F G : Forest X} {w : Way X} → Rows F → Reach p F w G m → (g : Level) (gs : Filter) → m ≡ g ∷ gs → spot_at p at F ≡ at + ahead w
  unfolding spot_at ahead kid
  reach_spot at o (ended {g = g}) h hs e = rw (seek-none X g at, add-zero)
  reach_spot at o (before {g = g} {t = t} {v = v} {k = k} {n = n} q) h hs e =
      rw (kid_past g t v k n q o.0, seek_stop g t at v k n (asym level_order g t q), add-zero)
  reach_spot at o there h hs e = absurd (no_cons h hs e)
  reach_spot at o (pass {g = g} {t = t} {v = v} {k = k} {n = n} {w = w} q r) h hs e =
      let z : at + (row_units t v + units_f k + ahead w) ≡ at + (row_units t v + units_f k) + ahead w = omega arith in
      rw (kid_next g t v k n (eq_higher level_order g t q), seek-on g t at v k n q, z) (reach_spot (at + (row_units t v + units_f k)) o.2 r h hs e)
  reach_spot at o (into {g = g} {v = v} {k = k} {n = n} {w = w} r) h hs e =
      let z : at + (row_units g v + ahead w) ≡ at + row_units g v + ahead w = omega arith in
      rw (kid_here g g v k n (level_order.eq_refl g), seek_stop g g at v k n (level_order.irrefl g), z) (reach_spot (at + row_units g v) o.1 r h hs e)

-- the cut at a path that is there, where its last node stays
module _ {X : Type 0} (u : List X → List X) where
  pub pruned_fork : (t : Level) (v : List X) (k n : Forest X) → (v ≡ [] → k ≡ leaf → ⊥) → pruned t v k n ≡ fork t v k n
  unfolding pruned
  pruned_fork t [] leaf n h = absurd (h refl refl)
  pruned_fork t [] (fork a b c d) n h = refl
  pruned_fork t (x ∷ v) k n h = refl

  cut-none : (F : Forest X) → cut_f u [] F ≡ F
  unfolding cut_f
  cut-none leaf = refl
  cut-none (fork t v k n) = refl

  pub some_plug : (w : Way X) (t : Level) (v : List X) (k n : Forest X) → plug w (fork t v k n) ≡ leaf → ⊥
  unfolding plug
  some_plug [] t v k n e = no_fork t v k n e
  some_plug (past a b c ∷ w) t v k n e = no_fork a b c (plug w (fork t v k n)) e
  some_plug (down a b c ∷ w) t v k n e = no_fork a b (plug w (fork t v k n)) c e

  pub reach_cut : {p : Filter} {F : Forest X} {w : Way X} {t : Level} {v : List X} {k n : Forest X} → Reach p F w (fork t v k n) [] → (u v ≡ [] → k ≡ leaf → ⊥)
      → cut_f u p F ≡ plug w (fork t (u v) k n)
  unfolding plug
  reach_cut (there {g = g} {v = v} {k = k} {n = n}) h =
      cut_here g g v k n u [] (level_order.eq_refl g) ∙ rw (cut-none k) (pruned_fork g (u v) k n h)
  reach_cut (pass {g = g} {t = t} {gs = gs} {v = v} {k = k} {n = n} q r) h =
      cut_next g t v k n u gs (eq_higher level_order g t q) ∙ ap (fork t v k) (reach_cut r h)
  reach_cut {t = t} {v = o} {k = j} {n = m} (into {g = g} {h = l} {hs = hs} {v = v} {k = k} {n = n} {w = w} r) h =
      cut_here g g v k n u (l ∷ hs) (level_order.eq_refl g)
      ∙ rw (reach_cut r h) (pruned_fork g v (plug w (fork t (u o) j m)) n (λ (a : v ≡ []) (b : plug w (fork t (u o) j m) ≡ leaf). some_plug w t (u o) j m b))
