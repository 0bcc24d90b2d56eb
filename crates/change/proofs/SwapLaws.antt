-- A unit that a node holds, written over by another: the region holds the changed forest, and nothing else changes. Assumes nothing.
use mathlib.Core.Path.{◌≡◌, sym, ap, subst, ◌∙◌}
use mathlib.Core.Bool.{true}
use mathlib.Core.List.{List, [], ◌∷◌, ◌++◌}
use Prim.Native.Nat.{ℕ, ◌+◌, ◌*◌, ◌≤◌}
use native.Mathlib.Omega.{arith}
use lib.ListN.{length, length-append}
use Rattle.lent.specs.Parts.{part, patch}
use Rattle.lent.specs.Total.{Framed}
use Rattle.lent.proofs.Parts.{part_add, length_part, part-patch, part-patch_before, part-patch_after, framed-patch, framed_before, framed_wider}
use Rattle.held.specs.Order.{Level, Filter}
use Rattle.held.specs.Ascending.{All}
use Rattle.held.specs.Room.{Room, in_range, node_count, level_cells, cell_count}
use Rattle.held.specs.Forest.{Forest, fork, held, Rows, Full}
use Rattle.held.specs.Edit.{grow_f, weigh_f}
use Rattle.held.proofs.Counts.{node-count, cell-count}
use Rattle.held.proofs.Edits.{rows_grow}
use Rattle.region.specs.Layout.{unit_room, needed_bytes, level_units, units_f, unit_bytes, marks_of, header_bytes}
use Rattle.region.specs.Forms.{Form, Fits, fork_fits}
use Rattle.region.specs.Store.{room_at, used_by}
use Rattle.region.proofs.Stores.{header_room}
use Rattle.forest.specs.Places.{unit_at}
use Rattle.forest.proofs.StandsLaws.{fork_units, ForkFits, fits_fork}
use Rattle.change.specs.Ways.{Way, plug, wide, ahead}
use Rattle.change.specs.Reach.{Reach, grow_here}
use Rattle.change.specs.Holds.{Holds}
use Rattle.change.proofs.WayLaws.{units_plug, bytes_plug, marks_plug, wide_ahead}
use Rattle.change.proofs.ReachLaws.{reach_grow, reach_plug}
use Rattle.change.proofs.HoldsLaws.{weigh_plug, held_plug, units-within, room_small, fits_plug}
use Rattle.change.proofs.Gaps.{first_is, rest_is}
use Rattle.change.proofs.PlaceLaws.{lead, trail, row_units_with, row_marks_with, lead_long}
use Rattle.change.proofs.EditLaws.{Becomes, fits_at}
use Rattle.held.proofs.Lengths.{length-held}

-- bytes between others, written over by as many
module _ (b e : ℕ) (s x y z : List ℕ) (holds : part b e s ≡ x ++ (y ++ z)) (within : b + e ≤ length s) (r : List ℕ) (same : length r ≡ length y) where
  long_is : e ≡ length x + (length r + length z)
  long_is = sym (length_part b e s within) ∙ ap length holds ∙ length-append x (y ++ z) ∙ rw (length-append, ← same)

  last_is : part (b + length x + length r) (length z) s ≡ z
  last_is =
      let v : part (b + length x) (length (y ++ z)) s ≡ y ++ z = rest_is b e s x (y ++ z) holds within in
      let l : b + length x + length (y ++ z) ≤ length s = rw length-append (omega (arith, long_is, same)) in
      rw same (rest_is (b + length x) (length (y ++ z)) s y z v l)

  swapped : part b e (patch (b + length x) r s) ≡ x ++ (r ++ z)
  swapped =
      let l : b + length x + length r ≤ length s = omega (arith, long_is) in
      let i : part b (length x) (patch (b + length x) r s) ≡ x = part-patch_before (b + length x) r s l b (length x) (omega arith) ∙ first_is b e s x (y ++ z) holds within in
      let j : part (b + length x) (length r) (patch (b + length x) r s) ≡ r = part-patch (b + length x) r s l in
      let k : part (b + length x + length r) (length z) (patch (b + length x) r s) ≡ z =
      part-patch_after (b + length x) r s l (b + length x + length r) (length z) (omega arith) ∙ last_is in
      rw (long_is, part_add b (length x) (length r + length z) (patch (b + length x) r s), part_add (b + length x) (length r) (length z) (patch (b + length x) r s), i, j, k)

module _ {X : Type 0} (u : Form X) (kind : ℕ) (s : List ℕ) (w : Way X) (l : Level) (a : List X) (y x : X) (b : List X) (k n : Forest X)
    (h : Holds u kind s (plug w (fork l (a ++ (y ∷ b)) k n))) (small : u.Small x) where
  abbrev old : Forest X
  old = fork l (a ++ (y ∷ b)) k n

  abbrev new : Forest X
  new = fork l (a ++ (x ∷ b)) k n

  abbrev base : ℕ
  base = 64 + unit_room (room_at s)

  abbrev place : ℕ
  place = unit_at base (ahead w + level_units l + length a)

  abbrev t : List ℕ
  t = patch place (u.write x) s

  as_many : length (a ++ (x ∷ b)) ≡ length (a ++ (y ∷ b))
  as_many = omega (arith, length-append a (x ∷ b), length-append a (y ∷ b))

  same_row : units_f new ≡ units_f old
  same_row = omega (arith, fork_units l (a ++ (x ∷ b)) k n, fork_units l (a ++ (y ∷ b)) k n, as_many)

  same_units : units_f (plug w new) ≡ units_f (plug w old)
  same_units = units_plug w new ∙ ap (wide w) same_row ∙ sym (units_plug w old)

  same_marks : marks_of 1 (plug w new) ≡ marks_of 1 (plug w old)
  same_marks = marks_plug 1 w new ∙ row_marks_with u w l a b k n x ∙ sym (row_marks_with u w l a b k n y) ∙ sym (marks_plug 1 w old)

  abbrev before : List ℕ
  before = lead u w l a b k n (units_f old) (length (a ++ (y ∷ b)))

  abbrev after : List ℕ
  after = trail u w l a b k n

  old-bytes : unit_bytes u.write (plug w old) ≡ before ++ (u.write y ++ after)
  old-bytes = bytes_plug u w old ∙ row_units_with u w l a b k n (units_f old) y

  new-bytes : unit_bytes u.write (plug w new) ≡ before ++ (u.write x ++ after)
  new-bytes =
      let z : lead u w l a b k n (units_f new) (length (a ++ (x ∷ b))) ≡ before = rw (same_row, as_many) in
      bytes_plug u w new ∙ row_units_with u w l a b k n (units_f new) x ∙ ap (λ (q : List ℕ). q ++ (u.write x ++ after)) z

  inside : base + units_f (plug w old) * 16 ≤ length s
  inside = omega (arith, units-within u kind s (plug w old) h, h.written.long)

  place_is : base + length before ≡ place
  place_is = omega (arith, lead_long u w l a b k n (units_f old) (length (a ++ (y ∷ b))))

  new_units : part base (units_f (plug w old) * 16) t ≡ unit_bytes u.write (plug w new)
  new_units =
      let e : length (u.write x) ≡ length (u.write y) = u.long x ∙ sym (u.long y) in
      rw (← place_is) (swapped base (units_f (plug w old) * 16) s before (u.write y) after (h.written.units ∙ old-bytes) inside (u.write x) e) ∙ sym new-bytes

  frame : Framed 64 (needed_bytes (room_at s)) s t
  frame =
      framed-patch 64 (needed_bytes (room_at s)) place (u.write x) s (rw (u.long x) (omega (arith, in_place, inside))) (omega arith)
      (rw (u.long x) (omega (arith, in_place, units-within u kind s (plug w old) h)))
    where
      in_place : ahead w + level_units l + length a + 1 ≤ units_f (plug w old)
      in_place = omega (arith, wide_ahead w (units_f old), units_plug w old, fork_units l (a ++ (y ∷ b)) k n, length-append a (y ∷ b))

  -- what is counted stays
  module _ (rows : Rows (plug w new)) (full : Full (plug w new)) where
    nodes_stay : node_count (held (plug w new)) ≡ node_count (held (plug w old))
    unfolding weigh_f
    nodes_stay = omega (arith, node-count (plug w new) rows full, node-count (plug w old) h.rows h.full, weigh_plug (λ l. 1) w old new)

    cells_stay : cell_count (held (plug w new)) ≡ cell_count (held (plug w old))
    unfolding weigh_f
    cells_stay = omega (arith, cell-count (plug w new) rows full, cell-count (plug w old) h.rows h.full, weigh_plug level_cells w old new)

    pairs_stay : length (held (plug w new)) ≡ length (held (plug w old))
    pairs_stay = omega (arith, held_plug w old new, length-held l (a ++ (y ∷ b)) k n, length-held l (a ++ (x ∷ b)) k n, as_many)

    used-stays : used_by (plug w new) ≡ used_by (plug w old)
    used-stays = rw (nodes_stay, pairs_stay, cells_stay, same_units)

    header : part 0 18 t ≡ header_bytes kind (room_at s) (used_by (plug w new))
    header = framed_before 64 (needed_bytes (room_at s)) 0 18 s t frame (omega arith) ∙ h.written.header ∙ ap (header_bytes kind (room_at s)) (sym used-stays)

    room_kept : room_at t ≡ room_at s
    room_kept = header_room kind (room_at s) (used_by (plug w new)) t header h.written.range

    old-fits : ForkFits u.Small l (a ++ (y ∷ b)) k n
    old-fits = fits_fork l (a ++ (y ∷ b)) k n (fits_at u w old h.fits)

    small_then : (c d : List X) → All u.Small (c ++ (y ∷ d)) → All u.Small (c ++ (x ∷ d))
    small_then [] d q = (small, q.1)
    small_then (z ∷ c) d q = (q.0, small_then c d q.1)

    new-fits : Fits u.Small new
    new-fits = fork_fits {v = a ++ (x ∷ b)} old-fits.text (omega (arith, as_many, old-fits.own)) old-fits.below (small_then a b old-fits.small) old-fits.kids old-fits.next

    marks_stay : part 64 (units_f (plug w new)) t ≡ marks_of 1 (plug w new)
    marks_stay =
        let e : 64 + units_f (plug w old) ≤ place = omega (arith, units-within u kind s (plug w old) h) in
        let z : place + length (u.write x) ≤ length s = rw (u.long x) (omega (arith, frame.long, wide_ahead w (units_f old), units_plug w old, fork_units l (a ++ (y ∷ b)) k n, length-append a (y ∷ b), inside)) in
        rw same_units (part-patch_before place (u.write x) s z 64 (units_f (plug w old)) e ∙ h.written.marks ∙ sym same_marks)

    swap_holds : Holds u kind t (plug w new)
    swap_holds =
        let r : part (64 + unit_room (room_at s)) (units_f (plug w new) * 16) t ≡ unit_bytes u.write (plug w new) = rw same_units new_units in
        let i = units-within u kind s (plug w old) h in
        record {
          written = record {
            range = subst (λ (r : Room). in_range r ≡ true) (sym room_kept) h.written.range;
            long = subst (λ (r : Room). needed_bytes r ≤ length t) (sym room_kept) (omega (arith, frame.long, h.written.long));
            header = header ∙ ap (λ (r : Room). header_bytes kind r (used_by (plug w new))) (sym room_kept);
            marks = marks_stay;
            units = subst (λ (r : Room). part (64 + unit_room r) (units_f (plug w new) * 16) t ≡ unit_bytes u.write (plug w new)) (sym room_kept) r;
            nodes_fit = subst (λ (r : Room). node_count (held (plug w new)) ≤ r.nodes) (sym room_kept) (omega (arith, nodes_stay, h.written.nodes_fit));
            pairs_fit = subst (λ (r : Room). length (held (plug w new)) ≤ r.pairs) (sym room_kept) (omega (arith, pairs_stay, h.written.pairs_fit));
            cells_fit = subst (λ (r : Room). cell_count (held (plug w new)) ≤ r.cells) (sym room_kept) (omega (arith, cells_stay, h.written.cells_fit));
          };
          rows = rows;
          full = full;
          fits = fits_plug w old new h.fits new-fits (omega (arith, i, units_plug w old, units_plug w new, same_units, room_small u kind s (plug w old) h));
        }

    swap_becomes : Becomes u kind s t (plug w new)
    swap_becomes =
        record { holds = swap_holds; room = room_kept; framed = framed_wider 64 (needed_bytes (room_at s)) 0 (needed_bytes (room_at s)) s t frame (omega arith) (omega arith) }

-- along a path, whose last node holds what is written over
module _ {X : Type 0} (u : Form X) (kind : ℕ) (s : List ℕ) (e : List X → List X) (p : Filter) (x : X) (small : u.Small x) (w : Way X) (l : Level) (k n : Forest X) (a : List X) (y : X) (b : List X) where
  abbrev Swaps : List X → Forest X → Type 0
  Swaps own F =
      Holds u kind s F → Reach p F w (fork l own k n) [] → e own ≡ a ++ (x ∷ b) → Full (grow_f e p F)
      → Becomes u kind s (patch (unit_at (64 + unit_room (room_at s)) (ahead w + level_units l + length a)) (u.write x) s) (grow_f e p F)

  swaps : Swaps (a ++ (y ∷ b)) (plug w (fork l (a ++ (y ∷ b)) k n))
  unfolding grow_here
  swaps h r put full =
      let F : Forest X = plug w (fork l (a ++ (y ∷ b)) k n) in
      let g : grow_f e p F ≡ plug w (fork l (a ++ (x ∷ b)) k n) = reach_grow e r ∙ rw put in
      rw g (swap_becomes u kind s w l a y x b k n h small (rw g at (rows_grow e p F h.rows)) (rw g at full))

  pub swap_reached : (own : List X) (F : Forest X) → own ≡ a ++ (y ∷ b) → Swaps own F
  swap_reached own F z h r = subst (Swaps own) (reach_plug r) (subst (λ (o : List X). Swaps o (plug w (fork l o k n))) (sym z) swaps) h r
