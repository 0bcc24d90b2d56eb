-- The four changes along a path of a forest that a region holds, for any such forest. Assumes nothing.
use mathlib.Core.Path.{◌≡◌, sym, ap, subst, ◌∙◌}
use mathlib.Core.List.{List, [], ◌∷◌, ◌++◌}
use Prim.Native.Nat.{ℕ, ◌+◌}
use native.Mathlib.Omega.{arith}
use lib.ListN.{length}
use Rattle.held.specs.Order.{Level, Filter}
use Rattle.held.specs.Forest.{Forest, leaf, fork, held, Full}
use Rattle.held.specs.Edit.{grow_f, cut_f}
use Rattle.held.proofs.Edits.{rows_grow, rows_cut}
use Rattle.held.proofs.RoomLaws.{Within}
use Rattle.region.specs.Layout.{unit_room, level_units, units_f}
use Rattle.region.specs.Forms.{Form}
use Rattle.region.specs.Store.{room_at}
use Rattle.forest.specs.Paths.{nodes_at, spot_at}
use Rattle.room.specs.declared.Load.{Load}
use Rattle.room.specs.Runs.{run_units, WantedFor}
use Rattle.room.specs.Changes.{made_chain, made_unit, taken_unit, taken_chain}
use Rattle.change.specs.Ways.{Way, plug, wide, ahead, downs}
use Rattle.change.specs.Reach.{Reach, grow_here}
use Rattle.change.specs.Holds.{Holds}
use Rattle.change.specs.Cut.{CutAt}
use Rattle.change.proofs.ReachLaws.{reach_plug, reach_grow}
use Rattle.change.proofs.WayLaws.{units_plug, wide_add}
use Rattle.change.proofs.ChainLaws.{before_units}
use Rattle.forest.proofs.StandsLaws.{fork_units}
use Rattle.change.proofs.EditLaws.{Becomes, Short, chain_becomes, unit_becomes, less_becomes, taken_becomes}
use Rattle.change.proofs.CutLaws.{cut_is, cut_plug, cut_changes}

module _ {X : Type 0} (u : Form X) (kind : ℕ) (s : List ℕ) (e : List X → List X) where
  -- new nodes for the levels that are missing
  module _ (y : X) (one : e [] ≡ y ∷ []) (small : u.Small y) (p : Filter) (g : Level) (gs : Filter) (short : Short (g ∷ gs)) (load : Load) (wanted : WantedFor (g ∷ gs) load) where
    abbrev Grows : Way X → Forest X → Forest X → Type 0
    Grows w G F =
        Holds u kind s F → Reach p F w G (g ∷ gs) → Full (grow_f e p F) → Within (room_at s) (held (grow_f e p F))
        → Becomes u kind s (made_chain (64 + unit_room (room_at s)) (units_f F) (nodes_at p 0 F) (spot_at p 0 F) (length (nodes_at p 0 F) + 1) (u.write y) (g ∷ gs) load s) (grow_f e p F)

    at_plug : (w : Way X) (G : Forest X) → Grows w G (plug w G)
    at_plug w G h r full within = chain_becomes u kind s w G h e y one small p g gs r short load wanted (rows_grow e p (plug w G) h.rows) full within

    pub chain_reached : {w : Way X} {G F : Forest X} → Reach p F w G (g ∷ gs) → Holds u kind s F → Full (grow_f e p F) → Within (room_at s) (held (grow_f e p F))
        → Becomes u kind s (made_chain (64 + unit_room (room_at s)) (units_f F) (nodes_at p 0 F) (spot_at p 0 F) (length (nodes_at p 0 F) + 1) (u.write y) (g ∷ gs) load s) (grow_f e p F)
    chain_reached {w} {G} r h full within = subst (Grows w G) (reach_plug r) (at_plug w G) h r full within

  -- a unit more
  module _ (p : Filter) (x : X) (small : u.Small x) (w : Way X) (l : Level) (k n : Forest X) (a b : List X) where
    abbrev Adds : List X → Forest X → Type 0
    Adds own F =
        Holds u kind s F → Reach p F w (fork l own k n) [] → e own ≡ a ++ (x ∷ b) → Full (grow_f e p F) → Within (room_at s) (held (grow_f e p F))
        → Becomes u kind s (made_unit (64 + unit_room (room_at s)) (units_f F) (downs 0 w) (ahead w) (ahead w + level_units l + length a) (u.write x) s) (grow_f e p F)

    adds : Adds (a ++ b) (plug w (fork l (a ++ b) k n))
    adds h r put full within = unit_becomes u kind s w l a b k n h e x put small p r (rows_grow e p (plug w (fork l (a ++ b) k n)) h.rows) full within

    pub unit_reached : (own : List X) (F : Forest X) → own ≡ a ++ b → Adds own F
    unit_reached own F z h r =
        subst (Adds own) (reach_plug r) (subst (λ (o : List X). Adds o (plug w (fork l o k n))) (sym z) adds) h r

  -- a unit less, where the node stays
  module _ (p : Filter) (x : X) (w : Way X) (l : Level) (k n : Forest X) (a b : List X) (stays : a ++ b ≡ [] → k ≡ leaf → ⊥) where
    abbrev Lacks : List X → Forest X → Type 0
    Lacks own F =
        Holds u kind s F → Reach p F w (fork l own k n) [] → e own ≡ a ++ b → Full (cut_f e p F) → Within (room_at s) (held (cut_f e p F))
        → Becomes u kind s (taken_unit (64 + unit_room (room_at s)) (units_f F) (downs 0 w) (ahead w) (ahead w + level_units l + length a) s) (cut_f e p F)

    lacks : Lacks (a ++ (x ∷ b)) (plug w (fork l (a ++ (x ∷ b)) k n))
    lacks h r cut full within = less_becomes u kind s w l a x b k n h e cut stays p r (rows_cut e p (plug w (fork l (a ++ (x ∷ b)) k n)) h.rows) full within

    pub less_reached : (own : List X) (F : Forest X) → own ≡ a ++ (x ∷ b) → Lacks own F
    less_reached own F z h r =
        subst (Lacks own) (reach_plug r) (subst (λ (o : List X). Lacks o (plug w (fork l o k n))) (sym z) lacks) h r

  -- the nodes that go
  pub cut_reached : {p q : Filter} {F : Forest X} {w : Way X} {t : Level} {v : List X} {k n : Forest X} → CutAt e p F w t v k n q → (load : Load) → WantedFor q load → Holds u kind s F
      → Full (cut_f e p F) → Within (room_at s) (held (cut_f e p F)) → Becomes u kind s (taken_chain (64 + unit_room (room_at s)) (units_f F) (downs 0 w) (ahead w) load s) (cut_f e p F)
  cut_reached {p} {q} {F} {w} {t} {v} {k} {n} r load wanted h full within =
      let c : cut_f e p F ≡ plug w n = cut_is e r in
      let b = taken_becomes u kind s w t v k n (rw (cut_plug e r) h) load (cut_changes e r load wanted) (rw c at (rows_cut e p F h.rows)) (rw c at full) (rw c at within) in
      rw (c, ← ap units_f (cut_plug e r)) b

-- the units that a forest has then
module _ {X : Type 0} (e : List X → List X) where
  pub unit_units : {p : Filter} {F : Forest X} {w : Way X} {l : Level} {own : List X} {k n : Forest X} → Reach p F w (fork l own k n) [] → length (e own) ≡ length own + 1
      → units_f (grow_f e p F) ≡ units_f F + 1
  unfolding grow_here
  unit_units {w = w} {l = l} {own = own} {k = k} {n = n} r h =
      let a : units_f (fork l (e own) k n) ≡ units_f (fork l own k n) + 1 = omega (arith, fork_units l (e own) k n, fork_units l own k n, h) in
      ap units_f (reach_grow e r) ∙ units_plug w (fork l (e own) k n) ∙ ap (wide w) a ∙ wide_add w (units_f (fork l own k n)) 1
      ∙ ap (λ (c : ℕ). c + 1) (sym (units_plug w (fork l own k n)) ∙ ap units_f (reach_plug r))

  pub chain_units : {p : Filter} {F G : Forest X} {w : Way X} {g : Level} {gs : Filter} (y : X) → e [] ≡ y ∷ [] → Reach p F w G (g ∷ gs) → units_f (grow_f e p F) ≡ units_f F + run_units (g ∷ gs)
  chain_units {G = G} {w = w} {g = g} {gs = gs} y one r =
      let a : units_f (grow_here e (g ∷ gs) G) ≡ units_f G + run_units (g ∷ gs) = before_units e y one g gs G ∙ omega arith in
      ap units_f (reach_grow e r) ∙ units_plug w (grow_here e (g ∷ gs) G) ∙ ap (wide w) a ∙ wide_add w (units_f G) (run_units (g ∷ gs))
      ∙ ap (λ (c : ℕ). c + run_units (g ∷ gs)) (sym (units_plug w G) ∙ ap units_f (reach_plug r))
