-- The header of a region: its tests one by one, and the bytes that it is written as. Assumes nothing.
use mathlib.Core.Path.{◌≡◌, refl, sym, ap, ◌∙◌}
use Prim.Native.Nat.{ℕ, ◌+◌, ◌≤◌, ◌<◌}
use mathlib.Core.Bool.{Bool, true, false, ◌&&◌, true≢false}
use mathlib.Core.List.{List, [], ◌∷◌}
use native.Mathlib.Omega.{arith}
use native.Mathlib.Nat.{zero-add}
use lib.Dec.{eqb, leb}
use lib.ListN.{length}
use borrow.Author.Tests.{eqb-true, eq-eqb, leb-true, le-leb}
use Rattle.lent.specs.Numbers.{be, bytes, AreBytes}
use Rattle.lent.specs.Parts.{part}
use Rattle.lent.proofs.Parts.{part-part}
use Rattle.lent.proofs.Digits.{be-bytes}
use Rattle.held.specs.Room.{in_range}
use Rattle.region.specs.declared.Kind.{Kind}
use Rattle.region.specs.declared.Kind.TheVariants.{Subscriptions, Retained}
use Rattle.region.specs.Layout.{unit_room, needed_bytes, Used, header_bytes}
use Rattle.region.specs.Opening.{kind_byte}
use Rattle.region.specs.Store.{room_at}
use Rattle.audit.specs.Whole.{mark_of, left_at, used_units, used_fine, header_fine}
use Rattle.content.proofs.PartLaws.{bytes-part, part_number, part_both}

-- the tests of a header, one by one
pub record HeaderFine (k : Kind) (s : List ℕ) : Type 0 where
  pub range : in_range (room_at s) ≡ true
  pub long : needed_bytes (room_at s) ≤ length s
  pub mark : be (part 0 4 s) ≡ mark_of k
  pub nodes : (left_at s).nodes ≤ (room_at s).nodes
  pub pairs : (left_at s).pairs ≤ (room_at s).pairs
  pub cells : (left_at s).cells ≤ (room_at s).cells
  pub units : used_units s ≤ unit_room (room_at s)

module _ (k : Kind) (s : List ℕ) where
  parts : (a b c d e f g : Bool) → (a && (b && (c && (d && (e && (f && g)))))) ≡ true → (a ≡ true) × (b ≡ true) × (c ≡ true) × (d ≡ true) × (e ≡ true) × (f ≡ true) × (g ≡ true)
  parts true true true true true true g q = (refl, refl, refl, refl, refl, refl, q)
  parts true true true true true false g q = absurd (true≢false (sym q))
  parts true true true true false f g q = absurd (true≢false (sym q))
  parts true true true false e f g q = absurd (true≢false (sym q))
  parts true true false d e f g q = absurd (true≢false (sym q))
  parts true false c d e f g q = absurd (true≢false (sym q))
  parts false b c d e f g q = absurd (true≢false (sym q))

  pub header_yes : header_fine k s ≡ true → HeaderFine k s
  unfolding header_fine used_fine
  header_yes e =
      let p = parts (in_range (room_at s)) (leb (needed_bytes (room_at s)) (length s)) (eqb (be (part 0 4 s)) (mark_of k)) (leb (left_at s).nodes (room_at s).nodes) (leb (left_at s).pairs (room_at s).pairs)
      (leb (left_at s).cells (room_at s).cells) (leb (used_units s) (unit_room (room_at s))) e in
      record {
        range = p.0;
        long = leb-true (needed_bytes (room_at s)) (length s) p.1;
        mark = eqb-true (be (part 0 4 s)) (mark_of k) p.2;
        nodes = leb-true (left_at s).nodes (room_at s).nodes p.3;
        pairs = leb-true (left_at s).pairs (room_at s).pairs p.4;
        cells = leb-true (left_at s).cells (room_at s).cells p.5;
        units = leb-true (used_units s) (unit_room (room_at s)) p.6;
      }

  pub header_no : HeaderFine k s → header_fine k s ≡ true
  unfolding header_fine used_fine
  header_no h =
      rw (
        h.range,
        le-leb (needed_bytes (room_at s)) (length s) h.long,
        eq-eqb (be (part 0 4 s)) (mark_of k) h.mark,
        le-leb (left_at s).nodes (room_at s).nodes h.nodes,
        le-leb (left_at s).pairs (room_at s).pairs h.pairs,
        le-leb (left_at s).cells (room_at s).cells h.cells,
        le-leb (used_units s) (unit_room (room_at s)) h.units,
      )

-- the mark, the kind and the shape
front_of : (k : Kind) → bytes 4 (mark_of k) ≡ 0x43 ∷ 0x4A ∷ kind_byte k ∷ 1 ∷ []
unfolding bytes
front_of Subscriptions = refl
front_of Retained = refl

mark_small : (k : Kind) → mark_of k < 0x100000000
mark_small Subscriptions = omega arith
mark_small Retained = omega arith

module _ (k : Kind) (s : List ℕ) (u : Used) where
  -- the numbers of a header, one after another
  pub header-bytes : AreBytes s → 64 ≤ length s → be (part 0 4 s) ≡ mark_of k → u.nodes ≡ be (part 10 2 s) → u.pairs ≡ be (part 12 2 s) → u.cells ≡ be (part 14 2 s) → u.units ≡ be (part 16 2 s)
      → part 0 18 s ≡ header_bytes (kind_byte k) (room_at s) u
  unfolding header_bytes
  header-bytes o h m en ep ec eu =
      rw (en, ep, ec, eu)
      (part_both 0 4 14 18 s (0x43 ∷ 0x4A ∷ kind_byte k ∷ 1 ∷ []) _ refl (part_number 0 4 (mark_of k) s o (omega arith) m ∙ front_of k)
      (part_both 4 2 12 14 s (bytes 2 (be (part 4 2 s))) _ refl (sym (bytes-part 4 2 s o (omega arith)))
      (part_both 6 2 10 12 s (bytes 2 (be (part 6 2 s))) _ refl (sym (bytes-part 6 2 s o (omega arith)))
      (part_both 8 2 8 10 s (bytes 2 (be (part 8 2 s))) _ refl (sym (bytes-part 8 2 s o (omega arith)))
      (part_both 10 2 6 8 s (bytes 2 (be (part 10 2 s))) _ refl (sym (bytes-part 10 2 s o (omega arith)))
      (part_both 12 2 4 6 s (bytes 2 (be (part 12 2 s))) _ refl (sym (bytes-part 12 2 s o (omega arith)))
      (part_both 14 2 2 4 s (bytes 2 (be (part 14 2 s))) _ refl (sym (bytes-part 14 2 s o (omega arith)))
      (sym (bytes-part 16 2 s o (omega arith))))))))))

  -- and what is written there is read
  module _ (e : part 0 18 s ≡ header_bytes (kind_byte k) (room_at s) u) where
    field : (o w : ℕ) → o + w ≤ 18 → part o w s ≡ part o w (header_bytes (kind_byte k) (room_at s) u)
    field o w h = sym (rw zero-add at (part-part o w 0 18 s h)) ∙ ap (part o w) e

    front : part 0 4 (header_bytes (kind_byte k) (room_at s) u) ≡ 0x43 ∷ 0x4A ∷ kind_byte k ∷ 1 ∷ []
    unfolding header_bytes part
    front = refl

    pub mark_back : be (part 0 4 s) ≡ mark_of k
    mark_back = ap be (field 0 4 (omega arith) ∙ front ∙ sym (front_of k)) ∙ be-bytes 4 (mark_of k) (mark_small k)

    nodes_field : part 10 2 (header_bytes (kind_byte k) (room_at s) u) ≡ bytes 2 u.nodes
    unfolding header_bytes part bytes
    nodes_field = refl

    pairs_field : part 12 2 (header_bytes (kind_byte k) (room_at s) u) ≡ bytes 2 u.pairs
    unfolding header_bytes part bytes
    pairs_field = refl

    cells_field : part 14 2 (header_bytes (kind_byte k) (room_at s) u) ≡ bytes 2 u.cells
    unfolding header_bytes part bytes
    cells_field = refl

    units_field : part 16 2 (header_bytes (kind_byte k) (room_at s) u) ≡ bytes 2 u.units
    unfolding header_bytes part bytes
    units_field = refl

    pub nodes_back : u.nodes < 65536 → be (part 10 2 s) ≡ u.nodes
    nodes_back h = ap be (field 10 2 (omega arith) ∙ nodes_field) ∙ be-bytes 2 u.nodes h

    pub pairs_back : u.pairs < 65536 → be (part 12 2 s) ≡ u.pairs
    pairs_back h = ap be (field 12 2 (omega arith) ∙ pairs_field) ∙ be-bytes 2 u.pairs h

    pub cells_back : u.cells < 65536 → be (part 14 2 s) ≡ u.cells
    cells_back h = ap be (field 14 2 (omega arith) ∙ cells_field) ∙ be-bytes 2 u.cells h

    pub units_back : u.units < 65536 → be (part 16 2 s) ≡ u.units
    units_back h = ap be (field 16 2 (omega arith) ∙ units_field) ∙ be-bytes 2 u.units h
