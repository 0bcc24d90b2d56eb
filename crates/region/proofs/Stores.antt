-- When a region is a store: what opening leaves, the two kinds apart, and the units that fit. Assumes nothing.
use mathlib.Core.Path.{◌≡◌, refl, sym, ap, subst, ◌∙◌}
use mathlib.Core.Bool.{Bool, true, false, cond, ◌||◌}
use mathlib.Core.List.{List, [], ◌∷◌}
use Prim.Native.Nat.{ℕ, ◌+◌, ◌*◌, ◌/◌, ◌≤◌, ◌<◌}
use native.Mathlib.Omega.{arith}
use native.Mathlib.Nat.{zero-add}
use lib.Dec.{eqb}
use lib.ListN.{length, get_or, length-append, length-map}
use Rattle.lent.specs.Numbers.{bytes, be}
use Rattle.lent.specs.Parts.{part, patch}
use Rattle.lent.proofs.Parts.{part-part, part-patch, length-patch}
use Rattle.lent.proofs.Digits.{be-bytes}
use Rattle.held.specs.Order.{Level}
use Rattle.held.specs.Room.{Room, in_range, all_leads, nodes_of, node_count, level_cells, cell_count}
use Rattle.held.specs.Forest.{Forest, leaf, fork, held, Rows, Full}
use Rattle.held.specs.Edit.{weigh_f, size_f, cells_f}
use Rattle.held.proofs.Bounds.{in-range}
use Rattle.held.proofs.Counts.{node-count, cell-count}
use Rattle.region.specs.Layout.{needed_bytes, level_units, units_f, unit_bytes, marks_of, Used, header_bytes}
use Rattle.region.specs.Units.{value_bytes, value_of, stored_bytes, stored_of}
use Rattle.region.specs.Opening.{nothing}
use Rattle.region.specs.Decode.{decode}
use Rattle.region.specs.Store.{room_at, forest_at, WrittenIn, SubscriptionStore, RetainedStore}
use Rattle.region.proofs.Sizes.{length_header}
use Rattle.region.proofs.Decoded.{decode-none}

-- the header's numbers
module _ (kind : ℕ) (r : Room) (u : Used) where
  nodes-read : r.nodes < 65536 → be (part 4 2 (header_bytes kind r u)) ≡ r.nodes
  unfolding header_bytes bytes part
  nodes-read h = be-bytes 2 r.nodes h

  pairs-read : r.pairs < 65536 → be (part 6 2 (header_bytes kind r u)) ≡ r.pairs
  unfolding header_bytes bytes part
  pairs-read h = be-bytes 2 r.pairs h

  cells-read : r.cells < 65536 → be (part 8 2 (header_bytes kind r u)) ≡ r.cells
  unfolding header_bytes bytes part
  cells-read h = be-bytes 2 r.cells h

  pub units-read : u.units < 65536 → be (part 16 2 (header_bytes kind r u)) ≡ u.units
  unfolding header_bytes bytes part
  units-read h = be-bytes 2 u.units h

  -- a region with this header says of itself that it has these capacities
  module _ (s : List ℕ) (e : part 0 18 s ≡ header_bytes kind r u) where
    pub header_field : (o : ℕ) → o + 2 ≤ 18 → part o 2 s ≡ part o 2 (header_bytes kind r u)
    header_field o h = rw zero-add at (sym (part-part o 2 0 18 s h)) ∙ ap (part o 2) e

    pub header_room : in_range r ≡ true → room_at s ≡ r
    header_room range =
        let i = in-range r range in
        rw (header_field 4 (omega arith), header_field 6 (omega arith), header_field 8 (omega arith), nodes-read (omega (arith, i.nodes.1)), pairs-read (omega (arith, i.pairs.1)), cells-read (omega (arith, i.cells.1)))

-- what an opened region says of itself
module _ (kind : ℕ) (r : Room) (s : List ℕ) (range : in_range r ≡ true) (long : needed_bytes r ≤ length s) where
  head-fits : 0 + length (header_bytes kind r nothing) ≤ length s
  head-fits = rw length_header (omega arith)

  pub opened_header : part 0 18 (patch 0 (header_bytes kind r nothing) s) ≡ header_bytes kind r nothing
  opened_header = rw length_header at (part-patch 0 (header_bytes kind r nothing) s head-fits)

  pub opened_room : room_at (patch 0 (header_bytes kind r nothing) s) ≡ r
  opened_room = header_room kind r nothing (patch 0 (header_bytes kind r nothing) s) opened_header range

  pub opened_forest : {X : Type 0} (read : List ℕ → X) → forest_at read (patch 0 (header_bytes kind r nothing) s) ≡ leaf
  unfolding decode part
  opened_forest read =
      let z : be (part 16 2 (patch 0 (header_bytes kind r nothing) s)) ≡ 0 = ap be (header_field kind r nothing (patch 0 (header_bytes kind r nothing) s) opened_header 16 (omega arith)) ∙ units-read kind r nothing (omega arith) in
      rw z (decode-none read 0 [] refl)

  pub opened_written : {X : Type 0} (write : X → List ℕ) → WrittenIn kind write leaf (patch 0 (header_bytes kind r nothing) s)
  unfolding node_count cell_count nodes_of all_leads held units_f marks_of unit_bytes part
  opened_written write =
      record {
        range = subst (λ (x : Room). in_range x ≡ true) (sym opened_room) range;
        long = subst (λ (x : Room). needed_bytes x ≤ length (patch 0 (header_bytes kind r nothing) s)) (sym opened_room)
            (rw (length-patch 0 (header_bytes kind r nothing) s head-fits) long);
        header = opened_header ∙ ap (λ (x : Room). header_bytes kind x nothing) (sym opened_room);
        marks = refl;
        units = refl;
        nodes_fit = omega arith;
        pairs_fit = omega arith;
        cells_fit = omega arith;
      }

-- an opened region is a store of its kind, and holds nothing
module _ (r : Room) (s : List ℕ) (range : in_range r ≡ true) (long : needed_bytes r ≤ length s) where
  pub opened-subscriptions : SubscriptionStore (patch 0 (header_bytes 1 r nothing) s)
  unfolding held
  opened-subscriptions =
      let e = opened_forest 1 r s range long value_of in
      record {
        written = rw e (opened_written 1 r s range long value_bytes);
        well = rw e (record { rows = tt; ends = tt; owns = tt; full = tt });
        texts = rw e tt;
      }

  pub opened-retained : RetainedStore (patch 0 (header_bytes 2 r nothing) s)
  unfolding held
  opened-retained =
      let e = opened_forest 2 r s range long stored_of in
      record {
        written = rw e (opened_written 2 r s range long stored_bytes);
        well = rw e (record { rows = tt; owns = tt; full = tt });
        texts = rw e tt;
      }

-- one kind is never the other: the header tells them apart
kind_at : (kind : ℕ) (r : Room) (u : Used) → get_or (header_bytes kind r u) 2 0 ≡ kind
unfolding header_bytes
kind_at kind r u = refl

pub kinds_apart : (s : List ℕ) → SubscriptionStore s → RetainedStore s → ⊥
kinds_apart s a b =
    let p : 1 ≡ get_or (part 0 18 s) 2 0 = sym (ap (λ (h : List ℕ). get_or h 2 0) a.written.header ∙ kind_at 1 _ _) in
    let q : get_or (part 0 18 s) 2 0 ≡ 2 = ap (λ (h : List ℕ). get_or h 2 0) b.written.header ∙ kind_at 2 _ _ in
    omega (arith, p, q)

-- the units of a forest are at most its nodes, pairs and cells: so N + P + C units are enough
level-fits : (l : Level) → level_units l ≤ 1 + level_cells l
level-fits [] = omega arith
level-fits (x ∷ []) = one (eqb x 43 || eqb x 35)
  where
    one : (t : Bool) → level_units (x ∷ []) ≤ 1 + cond t 0 ((length (x ∷ []) + 15) / 16)
    one true = omega arith
    one false = omega arith
level-fits (x ∷ y ∷ l) = omega arith

forest-fits : {X : Type 0} (F : Forest X) → units_f F ≤ size_f F + length (held F) + cells_f F
unfolding units_f weigh_f held
forest-fits leaf = omega arith
forest-fits (fork l v k n) =
    rw (length-append, length-append, length-map, length-map)
    (omega (arith, level-fits l, forest-fits k, forest-fits n))

pub units_fit : {X : Type 0} (F : Forest X) → Rows F → Full F → units_f F ≤ node_count (held F) + length (held F) + cell_count (held F)
units_fit F r f = rw (node-count F r f, cell-count F r f) (forest-fits F)

-- "at most 64 + 48N + 24P + 32C"
pub needed_most : (r : Room) → needed_bytes r ≤ 64 + 48 * r.nodes + 24 * r.pairs + 32 * r.cells
needed_most r = omega arith
