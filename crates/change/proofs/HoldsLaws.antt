-- A change at a place of a forest that a region holds: the region holds the changed forest. Assumes nothing.
use mathlib.Core.Path.{◌≡◌, sym, ap, subst, ◌∙◌}
use mathlib.Core.Bool.{true}
use mathlib.Core.List.{List, [], ◌∷◌}
use Prim.Native.Nat.{ℕ, ◌+◌, ◌*◌, ◌≤◌, ◌<◌}
use native.Mathlib.Omega.{arith}
use lib.ListN.{length}
use Rattle.lent.specs.Parts.{part}
use Rattle.lent.specs.Total.{Framed}
use Rattle.lent.proofs.Parts.{framed_trans, framed_before, framed_after, framed_wider}
use Rattle.held.specs.Order.{Level}
use Rattle.held.specs.Room.{Room, in_range, node_count, level_cells, cell_count}
use Rattle.held.specs.Forest.{Forest, held, Rows, Full}
use Rattle.held.specs.Edit.{weigh_f, size_f, cells_f}
use Rattle.held.proofs.Counts.{node-count, cell-count}
use Rattle.held.proofs.Bounds.{in-range}
use Rattle.held.proofs.RoomLaws.{Within}
use Rattle.region.specs.Layout.{unit_room, needed_bytes, units_f, unit_bytes, marks_of, header_bytes}
use Rattle.region.specs.Forms.{Form, Fits, fork_fits}
use Rattle.region.specs.Store.{room_at, used_by}
use Rattle.region.proofs.Sizes.{few_units, needed_units}
use Rattle.region.proofs.Stores.{units_fit, header_room}
use Rattle.forest.proofs.StandsLaws.{fits_fork}
use Rattle.room.specs.declared.Load.{Load}
use Rattle.change.specs.Ways.{past, down, Way, plug, wide}
use Rattle.room.specs.Changes.{moved, counts_moved}
use Rattle.change.specs.View.{View}
use Rattle.change.specs.Holds.{Holds}
use Rattle.change.proofs.WayLaws.{units_plug, wide_add}
use Rattle.change.proofs.HeaderLaws.{used_moved, SmallUsed, header-moved, framed-moved}
use Rattle.held.proofs.Lengths.{length-held}

-- what is counted in all changes as it does at the place
module _ {X : Type 0} where
  pub weigh_plug : (c : Level → ℕ) (w : Way X) (G H : Forest X) → weigh_f c (plug w H) + weigh_f c G ≡ weigh_f c (plug w G) + weigh_f c H
  unfolding plug weigh_f
  weigh_plug c [] G H = omega arith
  weigh_plug c (past t v k ∷ w) G H = omega (arith, weigh_plug c w G H)
  weigh_plug c (down t v n ∷ w) G H = omega (arith, weigh_plug c w G H)

  pub wide_moves : (w : Way X) (b c : ℕ) → wide w c + b ≡ wide w b + c
  wide_moves w b c = let e : c + b ≡ b + c = omega arith in omega (arith, wide_add w c b, wide_add w b c, ap (wide w) e)

  pub held_plug : (w : Way X) (G H : Forest X) → length (held (plug w H)) + length (held G) ≡ length (held (plug w G)) + length (held H)
  unfolding plug
  held_plug [] G H = omega arith
  held_plug (past t v k ∷ w) G H = omega (arith, held_plug w G H, length-held t v k (plug w G), length-held t v k (plug w H))
  held_plug (down t v n ∷ w) G H = omega (arith, held_plug w G H, length-held t v (plug w G) n, length-held t v (plug w H) n)

  pub fits_plug : {Small : X → Type 0} (w : Way X) (G H : Forest X) → Fits Small (plug w G) → Fits Small H → wide w (units_f H) < 65536 → Fits Small (plug w H)
  unfolding plug wide
  fits_plug [] G H f g s = g
  fits_plug (past t v k ∷ w) G H f g s =
      let p = fits_fork t v k (plug w G) f in
      fork_fits p.text p.own p.below p.small p.kids (fits_plug w G H p.next g (omega (arith, s)))
  fits_plug (down t v n ∷ w) G H f g s =
      let p = fits_fork t v (plug w G) n f in
      fork_fits {k = plug w H} p.text p.own (omega (arith, s, units_plug w H)) p.small (fits_plug w G H p.kids g (omega (arith, s))) p.next

-- what a region that holds a forest has in its units and marks
module _ {X : Type 0} (u : Form X) (kind : ℕ) (s : List ℕ) (F : Forest X) (h : Holds u kind s F) where
  pub units-within : units_f F ≤ unit_room (room_at s)
  units-within = omega (arith, units_fit F h.rows h.full, h.written.nodes_fit, h.written.pairs_fit, h.written.cells_fit)

  pub holds_view : View (unit_room (room_at s)) s (units_f F) (marks_of 1 F) (unit_bytes u.write F)
  holds_view = record { fits = units-within; long = omega (arith, h.written.long, needed_units (room_at s)); marks_are = h.written.marks; units_are = h.written.units }

  pub room_small : unit_room (room_at s) ≤ 20480
  room_small = few_units (room_at s) h.written.range

  used_small : SmallUsed (used_by F)
  used_small =
      let i = in-range (room_at s) h.written.range in
      record {
        nodes_small = omega (arith, h.written.nodes_fit, i.nodes.1);
        pairs_small = omega (arith, h.written.pairs_fit, i.pairs.1);
        cells_small = omega (arith, h.written.cells_fit, i.cells.1);
        units_small = omega (arith, units-within, room_small);
      }

-- what a change at a place takes more and less
pub record Changes {X : Type 0} (G H : Forest X) (a b : Load) : Type 0 where
  pub nodes_change : size_f G + a.nodes ≡ size_f H + b.nodes
  pub pairs_change : length (held G) + a.pairs ≡ length (held H) + b.pairs
  pub cells_change : cells_f G + a.cells ≡ cells_f H + b.cells
  pub units_change : units_f G + a.units ≡ units_f H + b.units

module _ {X : Type 0} (u : Form X) (kind : ℕ) (s : List ℕ) (w : Way X) (G H : Forest X) (h : Holds u kind s (plug w G))
    (rows : Rows (plug w H)) (full : Full (plug w H)) (within : Within (room_at s) (held (plug w H))) (small : Fits u.Small H)
    (a b : Load) (c : Changes G H a b) (t : List ℕ)
    (v : View (unit_room (room_at s)) t (units_f (plug w H)) (marks_of 1 (plug w H)) (unit_bytes u.write (plug w H)))
    (framed : Framed 64 (64 + 17 * unit_room (room_at s)) s t) where
  f : Framed 64 (needed_bytes (room_at s)) s t
  f = subst (λ (n : ℕ). Framed 64 n s t) (sym (needed_units (room_at s))) framed

  used_is : used_moved a b (used_by (plug w G)) ≡ used_by (plug w H)
  used_is =
      let n : moved a.nodes b.nodes (node_count (held (plug w G))) ≡ node_count (held (plug w H)) =
      omega (arith, node-count (plug w G) h.rows h.full, node-count (plug w H) rows full, weigh_plug (λ l. 1) w G H, c.nodes_change) in
      let p : moved a.pairs b.pairs (length (held (plug w G))) ≡ length (held (plug w H)) = omega (arith, held_plug w G H, c.pairs_change) in
      let k : moved a.cells b.cells (cell_count (held (plug w G))) ≡ cell_count (held (plug w H)) =
      omega (arith, cell-count (plug w G) h.rows h.full, cell-count (plug w H) rows full, weigh_plug level_cells w G H, c.cells_change) in
      let m : moved a.units b.units (units_f (plug w G)) ≡ units_f (plug w H) =
      omega (arith, units_plug w G, units_plug w H, wide_moves w (units_f G) (units_f H), c.units_change) in
      rw (n, p, k, m)

  abbrev after : List ℕ
  after = counts_moved a b t

  before_header : part 0 18 t ≡ header_bytes kind (room_at s) (used_by (plug w G))
  before_header = framed_before 64 (needed_bytes (room_at s)) 0 18 s t f (omega arith) ∙ h.written.header

  long : 18 ≤ length t
  long = omega (arith, v.long)

  counts_framed : Framed 0 18 t after
  counts_framed = framed-moved kind (room_at s) (used_by (plug w G)) a b t before_header (used_small u kind s (plug w G) h) long

  header : part 0 18 after ≡ header_bytes kind (room_at s) (used_by (plug w H))
  header = header-moved kind (room_at s) (used_by (plug w G)) a b t before_header (used_small u kind s (plug w G) h) long ∙ ap (header_bytes kind (room_at s)) used_is

  room_kept : room_at after ≡ room_at s
  room_kept = header_room kind (room_at s) (used_by (plug w H)) after header h.written.range

  -- the region holds the changed forest, and is changed nowhere else
  pub change-held : Holds u kind after (plug w H)
  change-held =
      let m : part 64 (units_f (plug w H)) after ≡ marks_of 1 (plug w H) = framed_after 0 18 64 (units_f (plug w H)) t after counts_framed (omega arith) ∙ v.marks_are in
      let n : part (64 + unit_room (room_at s)) (units_f (plug w H) * 16) after ≡ unit_bytes u.write (plug w H) =
      framed_after 0 18 (64 + unit_room (room_at s)) (units_f (plug w H) * 16) t after counts_framed (omega arith) ∙ v.units_are in
      let l : needed_bytes (room_at s) ≤ length after = omega (arith, v.long, counts_framed.long) in
      record {
        written = record {
          range = subst (λ (r : Room). in_range r ≡ true) (sym room_kept) h.written.range;
          long = subst (λ (r : Room). needed_bytes r ≤ length after) (sym room_kept) l;
          header = header ∙ ap (λ (r : Room). header_bytes kind r (used_by (plug w H))) (sym room_kept);
          marks = m;
          units = subst (λ (r : Room). part (64 + unit_room r) (units_f (plug w H) * 16) after ≡ unit_bytes u.write (plug w H)) (sym room_kept) n;
          nodes_fit = subst (λ (r : Room). node_count (held (plug w H)) ≤ r.nodes) (sym room_kept) within.nodes;
          pairs_fit = subst (λ (r : Room). length (held (plug w H)) ≤ r.pairs) (sym room_kept) within.pairs;
          cells_fit = subst (λ (r : Room). cell_count (held (plug w H)) ≤ r.cells) (sym room_kept) within.cells;
        };
        rows = rows;
        full = full;
        fits = fits_plug w G H h.fits small (omega (arith, v.fits, units_plug w H, room_small u kind s (plug w G) h));
      }

  pub change_room : room_at after ≡ room_at s
  change_room = room_kept

  pub change_framed : Framed 0 (needed_bytes (room_at s)) s after
  change_framed =
      framed_trans 0 (needed_bytes (room_at s)) s t after
      (framed_wider 64 (needed_bytes (room_at s)) 0 (needed_bytes (room_at s)) s t f (omega arith) (omega arith))
      (framed_wider 0 18 0 (needed_bytes (room_at s)) t after counts_framed (omega arith) (omega arith))
