-- What is held once a unit was taken from a node, or the nodes that go with it: the change that the code makes, in the words of the
-- forest. Assumes nothing.
use Rattle.std.specs.Prelude.{Ok, Result}
use Rattle.refusal.specs.declared.Refusal.{Refusal}
use mathlib.Core.Path.{◌≡◌, sym, ap, subst, ◌∙◌}
use mathlib.Core.Bool.{true, false, ◌&&◌, true≢false}
use mathlib.Core.List.{List, [], ◌∷◌, ◌++◌}
use Prim.Native.Nat.{ℕ, ◌+◌, ◌-◌, ◌≤◌, ◌<◌}
use native.Mathlib.Omega.{arith}
use native.Mathlib.Nat.{zero-add}
use lib.Dec.{eqb}
use lib.ListN.{length, take, get_or, length-append, length-take}
use lib.Seq.{take-take, get_or-take}
use borrow.Author.Tests.{eq-eqb, eqb-true}
use Rattle.level.specs.Levels.{split, start_of}
use Rattle.level.specs.Places.{levels_at}
use Rattle.level.proofs.Split.{began}
use Rattle.held.specs.Order.{Level, Filter}
use Rattle.held.specs.Room.{level_cells}
use Rattle.held.specs.Forest.{Forest, leaf, fork, held, Full}
use Rattle.held.specs.Edit.{cut_f}
use Rattle.held.proofs.Orders.{and_left, and_right}
use Rattle.held.proofs.Weights.{weigh_cut}
use Rattle.held.proofs.Counts.{node-count, cell-count}
use Rattle.held.proofs.Edits.{rows_cut}
use Rattle.held.proofs.RoomLaws.{Within}
use Rattle.region.specs.Layout.{level_units, units_f}
use Rattle.region.specs.Forms.{Form}
use Rattle.region.specs.Store.{room_at}
use Rattle.region.specs.Shapes.{UnitsOf}
use Rattle.seek.specs.declared.Path.{Path}
use Rattle.seek.specs.PathFound.{PathFound}
use Rattle.room.specs.declared.Load.{Load}
use Rattle.room.specs.Runs.{WantedFor}
use Rattle.room.specs.Changes.{taken_unit, taken_chain}
use Rattle.room.specs.Stay.{staying}
use Rattle.change.specs.Holds.{Holds}
use Rattle.change.specs.Ways.{ahead, downs}
use Rattle.change.proofs.WayLaws.{units_plug, wide_ahead}
use Rattle.change.proofs.EditLaws.{Becomes}
use Rattle.change.proofs.PathEdits.{less_reached, cut_reached}
use Rattle.change.proofs.CutLaws.{cut_plug, cut_changes}
use Rattle.change.proofs.FoundLaws.{Cuts, goes, GoesHere, cuts, none_units, leaf_units}
use Rattle.edit.specs.Taking.{alone_in, Taken, no_units, taken, PathTaken, OneLess}
use Rattle.edit.proofs.LastLaws.{Last, last_end, last_past, last_count, last_inside}
use Rattle.edit.proofs.KnownPath.{base_is, all_is, stands, path, last, node_is, downs_are}

-- what is held after something went fits
pub cut-within : {X : Type 0} (u : Form X) (kind : ℕ) (s : List ℕ) (F : Forest X) (h : Holds u kind s F) (e : List X → List X) (p : Filter) → Full (cut_f e p F) → length (held (cut_f e p F)) ≤ length (held F)
    → Within (room_at s) (held (cut_f e p F))
cut-within u kind s F h e p ok fewer =
    let rows = rows_cut e p F h.rows in
    record {
      nodes = omega (arith, weigh_cut (λ (t : Level). 1) e F p, node-count F h.rows h.full, node-count (cut_f e p F) rows ok, h.written.nodes_fit);
      pairs = omega (arith, fewer, h.written.pairs_fit);
      cells = omega (arith, weigh_cut level_cells e F p, cell-count F h.rows h.full, cell-count (cut_f e p F) rows ok, h.written.cells_fit);
    }

same-less : {a b m n i j : ℕ} {v w : List ℕ} → a ≡ b → m ≡ n → v ≡ w → i ≡ j → (at : ℕ) (s : List ℕ) → taken_unit a m v i at s ≡ taken_unit b n w j at s
same-less e f g h at s = rw (e, f, g, h)

same_taken : {a b m n i j : ℕ} {v w : List ℕ} → a ≡ b → m ≡ n → v ≡ w → i ≡ j → (load : Load) (s : List ℕ) → taken_chain a m v i load s ≡ taken_chain b n w j load s
same_taken e f g h load s = rw (e, f, g, h)

module _ {X : Type 0} (u : Form X) (kind : ℕ) (s : List ℕ) {base n room : ℕ} (units : UnitsOf s base n room) (F : Forest X) (h : Holds u kind s F) (f : List ℕ) (few : length (split f) ≤ 128) {p : Path}
    (pf : PathFound base s n f p) (full : length p.nodes ≡ 128) (q : length f < p.from) where
  abbrev l : Last F (split f)
  l = last u kind s units F h f few pf q

  -- what the code tests: the node holds one and has no children
  alone_as : {node : ℕ} → node ≡ get_or p.nodes (p.depth - 1) 0
      → alone_in base s n node ≡ (eqb (length l.own) 1 && eqb (ahead l.way + level_units l.level + length l.own) (ahead l.way + level_units l.level + length l.own + units_f l.kids))
  alone_as at =
      let a = stands u kind s units F h in
      ap (λ (i : ℕ). alone_in base s n i) (at ∙ node_is u kind s units F h f few pf q full)
      ∙ rw (last_count u base s n F a (split f) l, last_end u base s n F a (split f) l, last_past u base s n F a (split f) l)

  pub alone_own : {node : ℕ} → node ≡ get_or p.nodes (p.depth - 1) 0 → alone_in base s n node ≡ true → (length l.own ≡ 1) × (l.kids ≡ leaf)
  alone_own at z =
      let t = sym (alone_as at) ∙ z in
      let one = eqb (length l.own) 1 in
      let bare = eqb (ahead l.way + level_units l.level + length l.own) (ahead l.way + level_units l.level + length l.own + units_f l.kids) in
      let c = eqb-true (ahead l.way + level_units l.level + length l.own) (ahead l.way + level_units l.level + length l.own + units_f l.kids) (and_right one bare t) in
      (eqb-true (length l.own) 1 (and_left one bare t), none_units l.kids (omega (arith, c)))

  pub not_alone : {node : ℕ} → node ≡ get_or p.nodes (p.depth - 1) 0 → alone_in base s n node ≡ false → length l.own ≡ 1 → l.kids ≡ leaf → ⊥
  not_alone at z c v =
      let d : ahead l.way + level_units l.level + length l.own ≡ ahead l.way + level_units l.level + length l.own + units_f l.kids = omega (arith, leaf_units l.kids v) in
      true≢false (sym (alone_as at ∙ rw (eq-eqb (length l.own) 1 c, eq-eqb (ahead l.way + level_units l.level + length l.own) (ahead l.way + level_units l.level + length l.own + units_f l.kids) d)) ∙ z)

  module _ (e : List X → List X) (ok : Full (cut_f e (split f) F)) (within : Within (room_at s) (held (cut_f e (split f) F))) (x : X) where
    -- one of several, or one whose node has children
    module _ (a b : List X) (all : l.own ≡ a ++ (x ∷ b)) (without : e l.own ≡ a ++ b) (others : a ++ b ≡ [] → l.kids ≡ leaf → ⊥) where
      becomes-less : {node : ℕ} → node ≡ ahead l.way
          → Becomes u kind s (taken_unit base n (take (p.depth - 1) p.nodes) node (ahead l.way + level_units l.level + length a) s) (cut_f e (split f) F)
      becomes-less z =
          subst (λ (t : List ℕ). Becomes u kind s t (cut_f e (split f) F))
          (sym (same-less (base_is u kind s units F h) (all_is u kind s units F h) (downs_are u kind s units F h f few pf q full) z (ahead l.way + level_units l.level + length a) s))
          (less_reached u kind s e (split f) x l.way l.level l.kids l.next a b others l.own F all h l.is without ok within)

      inside_at : ahead l.way + level_units l.level + length a < n
      inside_at = omega (arith, last_inside u base s n F (stands u kind s units F h) (split f) l, ap length all, length-append a (x ∷ b))

      pub unit-gone : (P : List ℕ → Result ℕ Refusal → Type 0) {answer : ℕ} → ((t : List ℕ) → Becomes u kind s t (cut_f e (split f) F) → P t (Ok answer)) → {node at : ℕ} → node ≡ ahead l.way
          → at ≡ ahead l.way + level_units l.level + length a → {t : List ℕ} {r : Result ℕ Refusal} → OneLess s base n (take (p.depth - 1) p.nodes) node at answer t r → P t r
      unit-gone P done y z (no_units g) = absurd (omega (arith, inside_at, z))
      unit-gone P done {node} {at} y z (taken g) =
          done (taken_unit base n (take (p.depth - 1) p.nodes) node at s) (subst (λ (i : ℕ). Becomes u kind s (taken_unit base n (take (p.depth - 1) p.nodes) node i s) (cut_f e (split f) F)) (sym z) (becomes-less y))

    -- the only one, of a node without children
    module _ (one : l.own ≡ x ∷ []) (bare : l.kids ≡ leaf) (without : e (x ∷ []) ≡ []) where
      goes_here : GoesHere u base s n e (fork l.level l.own l.kids l.next)
      goes_here = rw (one, bare) (goes without)

      abbrev nodes : List ℕ
      nodes = take p.depth p.nodes

      abbrev stay : ℕ
      stay = staying base s n nodes

      cut : Cuts e (split f) F 0 nodes stay
      cut = rw (path u kind s units F h f few pf).nodes_are (cuts u base s n e 1 0 n (stands u kind s units F h) (omega arith) l.is goes_here)

      long_is : length nodes ≡ p.depth
      long_is = rw length-take (omega (arith, pf.few, full))

      ups_are : take stay p.nodes ≡ downs 0 cut.way
      ups_are = sym (take-take stay p.depth p.nodes (omega (arith, cut.on, long_is))) ∙ sym cut.ups

      at_is : get_or p.nodes stay 0 ≡ ahead cut.way
      at_is = sym (get_or-take p.depth p.nodes stay 0 (omega (arith, cut.on, long_is))) ∙ cut.at ∙ zero-add (ahead cut.way)

      module _ (load : Load) (w : WantedFor (levels_at f (start_of f stay)) load) where
        wanted : WantedFor cut.rest load
        wanted = rw ((began f stay).levels ∙ sym cut.levels) at w

        becomes_cut : Becomes u kind s (taken_chain base n (take stay p.nodes) (get_or p.nodes stay 0) load s) (cut_f e (split f) F)
        becomes_cut =
            subst (λ (t : List ℕ). Becomes u kind s t (cut_f e (split f) F)) (sym (same_taken (base_is u kind s units F h) (all_is u kind s units F h) ups_are at_is load s))
            (cut_reached u kind s e cut.is load wanted h ok within)

        inside-run : ahead cut.way + load.units ≤ n
        inside-run =
            let node = fork cut.level cut.own cut.kids cut.next in
            omega (arith, all_is u kind s units F h, ap units_f (cut_plug e cut.is), units_plug cut.way node, wide_ahead cut.way (units_f node), (cut_changes e cut.is load wanted).units_change)

      pub path-gone : (P : List ℕ → Result ℕ Refusal → Type 0) {answer : ℕ} → ((t : List ℕ) → Becomes u kind s t (cut_f e (split f) F) → P t (Ok answer)) → {t : List ℕ} {r : Result ℕ Refusal} → PathTaken s base n p.nodes p.depth f answer t r → P t r
      path-gone P {answer} done a = go a.load a.wanted a.takes
        where
          go : (load : Load) → WantedFor (levels_at f (start_of f stay)) load → {t : List ℕ} {r : Result ℕ Refusal}
              → Taken s n (get_or p.nodes stay 0 + load.units) answer (taken_chain base n (take stay p.nodes) (get_or p.nodes stay 0) load s) t r → P t r
          go load w (no_units g) = absurd (omega (arith, inside-run load w, at_is))
          go load w (taken g) = done (taken_chain base n (take stay p.nodes) (get_or p.nodes stay 0) load s) (becomes_cut load w)
