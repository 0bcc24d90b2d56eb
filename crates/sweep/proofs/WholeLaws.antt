-- A whole region swept: where it is written, and that it holds what a sweep of its forest leaves. Assumes nothing.
use mathlib.Core.Path.{◌≡◌, sym, ap, subst, ◌∙◌}
use mathlib.Core.Bool.{true, not}
use mathlib.Core.List.{List, ◌∷◌, ◌++◌, append_assoc}
use Prim.Native.Nat.{ℕ, ◌+◌, ◌-◌, ◌*◌, ◌≤◌}
use native.Mathlib.Omega.{arith}
use lib.ListN.{length, drop, length-append}
use Rattle.lent.specs.Numbers.{bytes, be}
use Rattle.lent.specs.Parts.{part}
use Rattle.lent.specs.Total.{Framed, read, write}
use Rattle.lent.proofs.Parts.{framed_trans, framed_wider, framed_before, framed_after}
use Rattle.lent.proofs.Digits.{length-bytes}
use Rattle.lent.proofs.Anywhere.{write_framed}
use Rattle.held.specs.Order.{Filter}
use Rattle.held.specs.Ascending.{keep}
use Rattle.held.specs.Room.{Room, in_range, node_count, cell_count, level_cells}
use Rattle.held.specs.Retained.{Stored, unexpired}
use Rattle.held.specs.Forest.{Forest, held, Single, Owns, WellNamed}
use Rattle.held.specs.Edit.{sweep_f}
use Rattle.held.proofs.Counts.{node-count, cell-count}
use Rattle.held.proofs.Lengths.{length_sweep}
use Rattle.held.proofs.Names.{sweep_well, sweep-held}
use Rattle.region.specs.Layout.{unit_room, needed_bytes, units_f, unit_bytes, Used, header_bytes}
use Rattle.region.specs.Store.{room_at, used_by, WrittenIn}
use Rattle.region.specs.Units.{stored_bytes}
use Rattle.region.proofs.Instances.{records}
use Rattle.region.proofs.Sizes.{length_header}
use Rattle.region.proofs.Stores.{header_room}
use Rattle.region.proofs.CountLaws.{pairs_kept}
use Rattle.forest.specs.Places.{unit_at}
use Rattle.room.proofs.Middle.{write_mid}
use Rattle.walk.specs.Height.{height_f}
use Rattle.change.specs.Holds.{Holds}
use Rattle.change.proofs.ViewLaws.{split_at, replaced}
use Rattle.change.proofs.StoreLaws.{used_is}
use Rattle.sweep.specs.declared.Kept.{Kept}
use Rattle.sweep.specs.Swept.{Sweepable, Wholly, RowsSwept}
use Rattle.sweep.specs.Removed.{counts_put, RemovedFrom, Removed}
use Rattle.sweep.proofs.LessLaws.{weigh_sweep, fits_sweep}

-- the counts are written over the header's own, and nowhere else
counts_framed : (k : Kept) (s : List ℕ) → Framed 10 18 s (counts_put k s)
unfolding counts_put
counts_framed k s =
    let one : (p x : ℕ) (t : List ℕ) → 10 ≤ p → p + 2 ≤ 18 → Framed 10 18 t (write p (bytes 2 x) t) =
    λ p x t h j. framed_wider p (p + length (bytes 2 x)) 10 18 t (write p (bytes 2 x) t) (write_framed p (bytes 2 x) t) h (omega (arith, j, length-bytes 2 x)) in
    let s₁ = write 10 (bytes 2 k.nodes) s in
    let s₂ = write 12 (bytes 2 k.pairs) s₁ in
    let s₃ = write 14 (bytes 2 k.cells) s₂ in
    let s₄ = write 16 (bytes 2 k.to) s₃ in
    framed_trans 10 18 s s₁ s₄ (one 10 k.nodes s (omega arith) (omega arith))
    (framed_trans 10 18 s₁ s₂ s₄ (one 12 k.pairs s₁ (omega arith) (omega arith))
    (framed_trans 10 18 s₂ s₃ s₄ (one 14 k.cells s₂ (omega arith) (omega arith)) (one 16 k.to s₃ (omega arith) (omega arith))))

-- what the header says then
module _ (kind : ℕ) (r : Room) (u : Used) (k : Kept) (s : List ℕ) (e : part 0 18 s ≡ header_bytes kind r u) (long : 18 ≤ length s) where
  abbrev ten : List ℕ
  ten = 0x43 ∷ 0x4A ∷ kind ∷ 1 ∷ (bytes 2 r.nodes ++ (bytes 2 r.pairs ++ bytes 2 r.cells))

  ten_long : length ten ≡ 10
  ten_long = rw (length-append, length-append, length-bytes 2 r.nodes, length-bytes 2 r.pairs, length-bytes 2 r.cells)

  abbrev tail : List ℕ
  tail = drop 18 s

  abbrev now_used : Used
  now_used = record { nodes = k.nodes; pairs = k.pairs; cells = k.cells; units = k.to }

  shape : (n p c m : ℕ) → header_bytes kind r (record { nodes = n; pairs = p; cells = c; units = m }) ++ tail
      ≡ ten ++ (bytes 2 n ++ (bytes 2 p ++ (bytes 2 c ++ (bytes 2 m ++ tail))))
  unfolding header_bytes
  shape n p c m = simp append_assoc

  -- one of the four numbers, behind the bytes a
  one-put : (a z : List ℕ) (p old new : ℕ) → length a ≡ p → (write p (bytes 2 new) (a ++ (bytes 2 old ++ z)) ≡ (a ++ bytes 2 new) ++ z) × (length (a ++ bytes 2 new) ≡ p + 2)
  one-put a z p old new h = (
    write_mid a (bytes 2 old) (bytes 2 new) z p h (rw (length-bytes 2 old, length-bytes 2 new)) ∙ sym (append_assoc a (bytes 2 new) z),
    length-append a (bytes 2 new) ∙ rw (h, length-bytes 2 new),
  )

  put_all : counts_put k s ≡ header_bytes kind r now_used ++ tail
  unfolding counts_put
  put_all =
      let a₁ = ten ++ bytes 2 k.nodes in
      let a₂ = a₁ ++ bytes 2 k.pairs in
      let a₃ = a₂ ++ bytes 2 k.cells in
      let z₁ = bytes 2 u.pairs ++ (bytes 2 u.cells ++ (bytes 2 u.units ++ tail)) in
      let z₂ = bytes 2 u.cells ++ (bytes 2 u.units ++ tail) in
      let z₃ = bytes 2 u.units ++ tail in
      let o₁ = one-put ten z₁ 10 u.nodes k.nodes ten_long in
      let o₂ = one-put a₁ z₂ 12 u.pairs k.pairs o₁.1 in
      let o₃ = one-put a₂ z₃ 14 u.cells k.cells o₂.1 in
      let o₄ = one-put a₃ tail 16 u.units k.to o₃.1 in
      let s₀ : s ≡ ten ++ (bytes 2 u.nodes ++ z₁) = split_at 0 18 s long ∙ rw e (shape u.nodes u.pairs u.cells u.units) in
      let s₁ : write 10 (bytes 2 k.nodes) s ≡ a₁ ++ z₁ = ap (write 10 (bytes 2 k.nodes)) s₀ ∙ o₁.0 in
      let s₂ : write 12 (bytes 2 k.pairs) (write 10 (bytes 2 k.nodes) s) ≡ a₂ ++ z₂ = ap (write 12 (bytes 2 k.pairs)) s₁ ∙ o₂.0 in
      let s₃ : write 14 (bytes 2 k.cells) (write 12 (bytes 2 k.pairs) (write 10 (bytes 2 k.nodes) s)) ≡ a₃ ++ z₃ = ap (write 14 (bytes 2 k.cells)) s₂ ∙ o₃.0 in
      ap (write 16 (bytes 2 k.to)) s₃ ∙ o₄.0 ∙ rw (shape k.nodes k.pairs k.cells k.to) (simp append_assoc)

  header-put : part 0 18 (counts_put k s) ≡ header_bytes kind r now_used
  header-put = (replaced 0 18 s long (header_bytes kind r now_used) (counts_put k s) (length_header kind r now_used) put_all).0

module _ (clock base n : ℕ) (s t : List ℕ) (within : unit_at base n ≤ length s) (apart : 64 + n ≤ base) (k : Kept) (swept : RowsSwept clock base 1 0 n 0 s t k)
    (u : List ℕ) (put : u ≡ counts_put k t) (before : ℕ) (were : before ≡ read 2 12 s) where
  framed : Framed 10 18 t u
  framed = rw put (counts_framed k t)

  -- a region that holds F
  module _ (F : Forest Stored) (base_is : base ≡ 64 + unit_room (room_at s)) (n-is : n ≡ be (part 16 2 s)) (h : Holds records 2 s F) (single : Owns Single F) (low : height_f F ≤ 128) where
    abbrev G : Forest Stored
    G = sweep_f (unexpired clock) F

    units_are : n ≡ units_f F
    units_are = n-is ∙ used_is records 2 s F h.written h.rows h.full

    base_zero : unit_at base 0 ≡ 64 + unit_room (room_at s)
    base_zero = omega (arith, base_is)

    able : Sweepable base s 1 0 n F
    able =
        record {
          stands = record {
            size = omega (arith, units_are);
            units = rw base_zero h.written.units;
            marks = h.written.marks;
            rows = h.rows;
            fits = h.fits;
          };
          single = single;
          low = omega arith;
        }

    all : Wholly clock base t 1 0 k F
    all = swept.swept F able

    well : WellNamed G
    well = sweep_well clock F (record { rows = h.rows; owns = single; full = h.full })

    used_now : record { nodes = k.nodes; pairs = k.pairs; cells = k.cells; units = k.to } ≡ used_by G
    used_now =
        let a : k.nodes ≡ node_count (held G) = all.nodes ∙ sym (node-count G well.rows well.full) in
        let b : k.cells ≡ cell_count (held G) = all.cells ∙ sym (cell-count G well.rows well.full) in
        let c : k.to ≡ units_f G = omega (arith, all.size) in
        rw (a, all.pairs, b, c)

    long_t : 18 ≤ length t
    long_t = omega (arith, swept.touched.long, within, apart)

    header : part 0 18 u ≡ header_bytes 2 (room_at s) (used_by G)
    header =
        let e : part 0 18 t ≡ header_bytes 2 (room_at s) (used_by F) = swept.touched.before 0 18 (omega arith) ∙ h.written.header in
        rw put (header-put 2 (room_at s) (used_by F) k t e long_t) ∙ ap (header_bytes 2 (room_at s)) used_now

    room_is : room_at u ≡ room_at s
    room_is = header_room 2 (room_at s) (used_by G) u header h.written.range

    long : length u ≡ length s
    long = framed.long ∙ swept.touched.long

    fewer : length (held F) ≡ length (keep (λ (e : Filter × Stored). not (unexpired clock e.1)) (held F)) + length (held G)
    fewer = rw (sweep-held clock F) (length_sweep (room_at s) clock (held F))

    writes : WrittenIn 2 stored_bytes G u
    writes =
        let nodes : node_count (held G) ≤ (room_at s).nodes =
        omega (arith, node-count G well.rows well.full, node-count F h.rows h.full, weigh_sweep (unexpired clock) (λ l. 1) F, h.written.nodes_fit) in
        let cells : cell_count (held G) ≤ (room_at s).cells =
        omega (arith, cell-count G well.rows well.full, cell-count F h.rows h.full, weigh_sweep (unexpired clock) level_cells F, h.written.cells_fit) in
        let pairs : length (held G) ≤ (room_at s).pairs = omega (arith, fewer, h.written.pairs_fit) in
        let units : part (64 + unit_room (room_at s)) (units_f G * 16) u ≡ unit_bytes stored_bytes G =
        framed_after 10 18 (64 + unit_room (room_at s)) (units_f G * 16) t u framed (omega arith) ∙ (rw base_zero at all.units) in
        record {
          range = subst (λ (r : Room). in_range r ≡ true) (sym room_is) h.written.range;
          long = subst (λ (r : Room). needed_bytes r ≤ length u) (sym room_is) (omega (arith, long, h.written.long));
          header = header ∙ ap (λ (r : Room). header_bytes 2 r (used_by G)) (sym room_is);
          marks = framed_after 10 18 64 (units_f G) t u framed (omega arith) ∙ all.marks;
          units = subst (λ (r : Room). part (64 + unit_room r) (units_f G * 16) u ≡ unit_bytes stored_bytes G) (sym room_is) units;
          nodes_fit = subst (λ (r : Room). node_count (held G) ≤ r.nodes) (sym room_is) nodes;
          pairs_fit = subst (λ (r : Room). length (held G) ≤ r.pairs) (sym room_is) pairs;
          cells_fit = subst (λ (r : Room). cell_count (held G) ≤ r.cells) (sym room_is) cells;
        }

    removed_from : RemovedFrom clock s u (before - k.pairs) F
    removed_from =
        record {
          holds = record { written = writes; rows = well.rows; full = well.full; fits = fits_sweep (unexpired clock) F h.fits };
          room = room_is;
          count = omega (arith, were, pairs_kept F s h.written, all.pairs, fewer);
        }

  pub removed-all : {r : ℕ} → r ≡ before - k.pairs → Removed clock base n s u r
  removed-all {r} e =
      rw e
      (record {
        long = framed.long ∙ swept.touched.long;
        start = λ q w h. framed_before 10 18 q w t u framed h ∙ swept.touched.before q w (omega arith);
        spare = λ q w h j. framed_after 10 18 q w t u framed h ∙ swept.touched.before q w (omega arith);
        between = λ q w h j. framed_after 10 18 q w t u framed (omega arith) ∙ swept.touched.between q w h (omega arith);
        behind = λ q w h. framed_after 10 18 q w t u framed (omega arith) ∙ swept.touched.behind q w h;
        swept = removed_from;
      })
