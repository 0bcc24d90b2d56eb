-- A region that holds a forest, and the path of a text in it: what the calls that change a store know. Assumes nothing.
use Rattle.std.specs.Prelude.{Some, Err, None, Option}
use mathlib.Core.Path.{◌≡◌, sym, subst, ◌∙◌}
use mathlib.Core.Bool.{false}
use mathlib.Core.List.{List, [], ◌∷◌, ◌++◌}
use Prim.Native.Nat.{ℕ, suc, ◌+◌, ◌-◌, ◌≤◌, ◌<◌}
use native.Mathlib.Omega.{arith}
use borrow.Author.Tests.{lt-ltb, le-ltb}
use lib.ListN.{length, take, get_or}
use Rattle.refusal.specs.declared.Refusal.TheVariants.{TooDeep}
use Rattle.lent.specs.Total.{read}
use Rattle.level.specs.Levels.{split}
use Rattle.level.specs.Places.{first}
use Rattle.level.proofs.Split.{split_cons, after}
use Rattle.topic.specs.Rules.{Rule}
use Rattle.topic.specs.Answers.{checked}
use Rattle.held.specs.Order.{Filter}
use Rattle.held.specs.Room.{level_cells, full_rules, depth_rule}
use Rattle.held.specs.Forest.{Forest, held}
use Rattle.held.specs.Walks.{hit, values_at}
use Rattle.held.specs.Edit.{size_f, cells_f, weigh}
use Rattle.held.proofs.Counts.{node-count, cell-count}
use Rattle.region.specs.Layout.{unit_room, units_f}
use Rattle.region.specs.Forms.{Form}
use Rattle.region.specs.Store.{room_at}
use Rattle.region.specs.declared.Shape.{Shape}
use Rattle.region.specs.Shapes.{NoUnits, UnitsOf, ShapeOf}
use Rattle.region.proofs.CountLaws.{nodes_kept, pairs_kept, cells_kept}
use Rattle.forest.specs.Stands.{Stands}
use Rattle.seek.specs.declared.Path.{Path}
use Rattle.seek.specs.PathFound.{PathFound, PathOf}
use Rattle.seek.proofs.Raw.{written_stands}
use Rattle.seek.proofs.PathLaws.{path-of, all_there}
use Rattle.change.specs.Holds.{Holds}
use Rattle.change.specs.Ways.{ahead, downs}
use Rattle.change.proofs.ReachLaws.{reach, reach-missing}
use Rattle.change.proofs.ChainLaws.{weigh_one}
use Rattle.change.proofs.HoldsLaws.{units-within}
use Rattle.change.proofs.StoreLaws.{used_is}
use Rattle.edit.specs.Adding.{fitting}
use Rattle.edit.proofs.LastLaws.{Last, reach_last, last-own, last_nodes, all_but_last, last_one}

-- too many levels come first
pub depth-first : (f : List ℕ) → length (split f) ≤ 128 → (rules : List Rule) → checked (depth_rule f ∷ rules) ≡ checked rules
unfolding depth_rule
depth-first f few rules = rw (le-ltb 128 (length (split f)) few)

pub deep_rule : (f : List ℕ) (rules : List Rule) → 128 < length (split f) → checked (depth_rule f ∷ rules) ≡ Err TooDeep
unfolding depth_rule
deep_rule f rules h = rw (lt-ltb 128 (length (split f)) h)

-- the header, told as a shape: of a region that holds a forest it is units
pub units-told : {s : List ℕ} {r : Option Shape} {u : Shape} → ShapeOf s r → r ≡ Some u → UnitsOf s u.base u.used u.room
units-told {s} h e = subst (ShapeOf s) e h

pub no_units-told : {X : Type 0} (u : Form X) (kind : ℕ) (s : List ℕ) (F : Forest X) → Holds u kind s F → {r : Option Shape} → ShapeOf s r → r ≡ None → ⊥
no_units-told u kind s F h w e =
    let q : NoUnits s = subst (ShapeOf s) e w in
    q.none h.written.long (omega (arith, used_is u kind s F h.written h.rows h.full, units-within u kind s F h))

module _ {X : Type 0} (u : Form X) (kind : ℕ) (s : List ℕ) {base n room : ℕ} (units : UnitsOf s base n room) (F : Forest X) (h : Holds u kind s F) where
  pub base_is : base ≡ 64 + unit_room (room_at s)
  base_is = omega (arith, units.base_is, units.room_is)

  pub all_is : n ≡ units_f F
  all_is = units.used_is ∙ used_is u kind s F h.written h.rows h.full

  pub stands : Stands u.write u.Small base s 1 0 n F
  stands = rw (base_is, all_is) (written_stands u kind s F h.written h.rows h.fits)

  -- the rules for room, by what the header says and the levels that are missing
  pub fits_as : (m : Filter) → checked (full_rules (room_at s) false (size_f F + weigh (λ t. 1) m) (suc (length (held F))) (cells_f F + weigh level_cells m)) ≡ fitting s (length m) (weigh level_cells m)
  fits_as m =
      let a : read 2 10 s + length m ≡ size_f F + weigh (λ t. 1) m = omega (arith, nodes_kept F s h.written, node-count F h.rows h.full, weigh_one m) in
      let b : read 2 12 s + 1 ≡ suc (length (held F)) = omega (arith, pairs_kept F s h.written) in
      let d : read 2 14 s + weigh level_cells m ≡ cells_f F + weigh level_cells m = omega (arith, cells_kept F s h.written, cell-count F h.rows h.full) in
      rw (a, b, d)

  module _ (f : List ℕ) (few : length (split f) ≤ 128) {p : Path} (pf : PathFound base s n f p) where
    pub path : PathOf F f p
    path = path-of base s n f p pf u F stands few

    -- the last node, where all are there
    module _ (q : length f < p.from) where
      pub last : Last F (split f)
      last =
          let e : split f ≡ first f ∷ after f = split_cons f in
          let r = reach (first f) (after f) F in
          let m : r.missed ≡ [] = sym (reach-missing h.rows r.is) ∙ (rw e at (all_there base s n f p pf u F stands few q)) in
          rw e (reach_last r.is m)

      pub own_is : values_at (split f) (hit [] F) ≡ last.own
      own_is = last-own u base s n F stands (split f) last

      module _ (full : length p.nodes ≡ 128) where
        nodes-all : take p.depth p.nodes ≡ downs 0 last.way ++ (ahead last.way ∷ [])
        nodes-all = path.nodes_are ∙ last_nodes u base s n F stands (split f) last

        pub node_is : get_or p.nodes (p.depth - 1) 0 ≡ ahead last.way
        node_is = last_one p.nodes (downs 0 last.way) (ahead last.way) p.depth nodes-all (omega (arith, pf.few, full))

        pub downs_are : take (p.depth - 1) p.nodes ≡ downs 0 last.way
        downs_are = all_but_last p.nodes (downs 0 last.way) (ahead last.way) p.depth nodes-all (omega (arith, pf.few, full))
