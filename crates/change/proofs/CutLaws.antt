-- The nodes that go: taking them away is the cut of the forest, and the code finds the first of them. Assumes nothing.
use mathlib.Core.Path.{◌≡◌, refl, ap, ◌∙◌}
use mathlib.Core.List.{List, [], ◌∷◌}
use Prim.Native.Nat.{ℕ, ◌+◌}
use native.Mathlib.Omega.{arith}
use lib.ListN.{length}
use Rattle.held.specs.Order.{Level, Filter}
use Rattle.held.specs.Room.{level_cells}
use Rattle.held.specs.Forest.{Forest, leaf, fork, held}
use Rattle.held.specs.Edit.{cut_f, pruned, weigh_f, weigh}
use Rattle.held.proofs.Orders.{level_order, eq_higher}
use Rattle.held.proofs.Equations.{cut_here, cut_next}
use Rattle.held.proofs.Lengths.{length-held}
use Rattle.region.specs.Layout.{row_units, units_f}
use Rattle.forest.proofs.StandsLaws.{fork_units}
use Rattle.room.specs.declared.Load.{Load}
use Rattle.change.specs.Ways.{Way, plug}
use Rattle.room.specs.Runs.{run_units, WantedFor}
use Rattle.room.specs.Changes.{no_load}
use Rattle.change.specs.Cut.{Alone, last, only, CutAt, here, pass, into}
use Rattle.change.proofs.ChainLaws.{weigh_one}
use Rattle.change.proofs.HoldsLaws.{Changes}
use Rattle.change.proofs.ReachLaws.{pruned_fork}

module _ {X : Type 0} (e : List X → List X) where
  pruned-none : (t : Level) (n : Forest X) → pruned t [] leaf n ≡ n
  unfolding pruned
  pruned-none t n = refl

  cut_leaf : (p : Filter) → cut_f e p leaf ≡ leaf
  unfolding cut_f
  cut_leaf p = refl

  -- a node that goes leaves the rest of its row
  pub alone_cut : {p : Filter} {t : Level} {v : List X} {k : Forest X} (n : Forest X) → Alone e p t v k → cut_f e p (fork t v k n) ≡ n
  alone_cut n (last {g = g} {y = y} z) =
      cut_here g g (y ∷ []) leaf n e [] (level_order.eq_refl g) ∙ rw (z, cut_leaf []) (pruned-none g n)
  alone_cut n (only {g = g} {h = h} {hs = hs} {v = v} {k = k} a) =
      cut_here g g [] (fork h v k leaf) n e (h ∷ hs) (level_order.eq_refl g) ∙ rw (alone_cut leaf a) (pruned-none g n)

  pub cut_is : {p q : Filter} {F : Forest X} {w : Way X} {t : Level} {v : List X} {k n : Forest X} → CutAt e p F w t v k n q → cut_f e p F ≡ plug w n
  unfolding plug
  cut_is (here {n = n} a) = alone_cut n a
  cut_is (pass {g = g} {a = a} {gs = gs} {b = b} {c = c} {m = m} z r) = cut_next g a b c m e gs (eq_higher level_order g a z) ∙ ap (fork a b c) (cut_is r)
  cut_is (into {g = g} {h = h} {hs = hs} {b = b} {c = c} {n = n} {m = m} {w = w} z r) =
      cut_here g g b c m e (h ∷ hs) (level_order.eq_refl g) ∙ rw (cut_is r) (pruned_fork e g b (plug w n) m z)

  pub cut_plug : {p q : Filter} {F : Forest X} {w : Way X} {t : Level} {v : List X} {k n : Forest X} → CutAt e p F w t v k n q → plug w (fork t v k n) ≡ F
  unfolding plug
  cut_plug (here a) = refl
  cut_plug (pass {a = a} {b = b} {c = c} z r) = ap (fork a b c) (cut_plug r)
  cut_plug (into {g = g} {b = b} {m = m} z r) = ap (λ (f : Forest X). fork g b f m) (cut_plug r)

  -- what goes is what new nodes for the rest of the path would take
  alone_units : {p : Filter} {t : Level} {v : List X} {k : Forest X} → Alone e p t v k → row_units t v + units_f k ≡ run_units p
  unfolding units_f run_units
  alone_units (last z) = omega arith
  alone_units (only a) = omega (arith, alone_units a)

  alone-weigh : (c : Level → ℕ) {p : Filter} {t : Level} {v : List X} {k : Forest X} → Alone e p t v k → c t + weigh_f c k ≡ weigh c p
  unfolding weigh_f
  alone-weigh c (last z) = omega arith
  alone-weigh c (only a) = omega (arith, alone-weigh c a)

  alone-held : {p : Filter} {t : Level} {v : List X} {k : Forest X} → Alone e p t v k → length v + length (held k) ≡ 1
  unfolding held
  alone-held (last z) = refl
  alone-held (only {h = h} {v = v} {k = k} a) = omega (arith, length-held h v k leaf, alone-held a)

  alone_of : {p q : Filter} {F : Forest X} {w : Way X} {t : Level} {v : List X} {k n : Forest X} → CutAt e p F w t v k n q → Alone e q t v k
  alone_of (here a) = a
  alone_of (pass z r) = alone_of r
  alone_of (into z r) = alone_of r

  pub cut_changes : {p q : Filter} {F : Forest X} {w : Way X} {t : Level} {v : List X} {k n : Forest X} → CutAt e p F w t v k n q → (load : Load) → WantedFor q load → Changes (fork t v k n) n no_load load
  unfolding weigh_f
  cut_changes {q = q} {t = t} {v = v} {k = k} {n = n} r load l =
      let a = alone_of r in
      record {
        nodes_change = omega (arith, l.nodes_are, alone-weigh (λ l. 1) a, weigh_one q);
        pairs_change = omega (arith, l.pairs_are, alone-held a, length-held t v k n);
        cells_change = omega (arith, l.cells_are, alone-weigh level_cells a);
        units_change = omega (arith, l.units_are, alone_units a, fork_units t v k n);
      }
