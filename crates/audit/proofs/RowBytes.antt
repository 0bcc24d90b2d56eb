-- A row whose tests pass is written as what is read from it, and the other way round. Assumes nothing.
use mathlib.Core.Path.{◌≡◌, refl, sym, ap, subst, ◌∙◌}
use Prim.Native.Nat.{ℕ, ◌+◌, ◌-◌, ◌*◌, ◌^◌, ◌≤◌, ◌<◌, min}
use mathlib.Core.Bool.{true}
use mathlib.Core.List.{List, [], ◌∷◌, ◌++◌}
use native.Mathlib.Omega.{arith}
use lib.Dec.{eqb}
use lib.ListN.{length, take, drop, get_or, replicate, length-take, length-drop}
use borrow.Author.Tests.{eqb-true, eq-eqb}
use Rattle.lent.specs.Numbers.{be, bytes, AreBytes}
use Rattle.lent.specs.Parts.{part}
use Rattle.lent.proofs.Parts.{part-eq, length_part}
use Rattle.lent.proofs.Digits.{be-bytes, be-lt, length-bytes, part_one}
use Rattle.held.specs.Bytes.{each}
use Rattle.held.proofs.Orders.{and_left, and_right}
use Rattle.region.specs.Layout.{level_units, row_units, head_bytes, level_bytes}
use Rattle.region.specs.Decode.{units_to}
use Rattle.region.specs.declared.Kind.{Kind}
use Rattle.forest.specs.Places.{unit_at, len_at, own_at, below_at, level_units_at, row_end, kids_end, level_in, own_in}
use Rattle.content.specs.Contents.{every, own_fine}
use Rattle.audit.specs.Tests.{held_at, end_at, past_at, marks_fine, fill_fine}
use Rattle.content.proofs.PartLaws.{are-drop, are-part, bytes-part, part_number, part_both, part_front, part_back, every_is, is-every, units-length, units-take}
use Rattle.content.proofs.Holdings.{Holding}
use Rattle.audit.proofs.Down.{RowHere}

-- a number of two bytes
pub number_small : (p : ℕ) (s : List ℕ) → AreBytes s → p + 2 ≤ length s → be (part p 2 s) < 65536
number_small p s o h =
    let b : be (part p 2 s) < 256 ^ length (part p 2 s) = be-lt (part p 2 s) (are-part p 2 s o) in
    rw (length_part p 2 s h) at b

module _ {X : Type 0} {kind : Kind} (u : Holding X kind) (base : ℕ) (s : List ℕ) (o : AreBytes s) (i n : ℕ) (some : i < n) (within : unit_at base n ≤ length s) (marked : 64 + n ≤ base) where
  pub own-length : length (own_in u.form.read base s i n) ≡ own_at base s i
  unfolding own_in
  own-length = units-length u.form.read (own_at base s i) (part (unit_at base (i + level_units_at base s i)) ((n - (i + level_units_at base s i)) * 16) s)

  pub level_short : length (level_in base s i n) ≤ len_at base s i
  unfolding level_in part
  level_short = rw length-take (omega arith)

  -- where nothing is cut off
  module _ (fits : past_at base s i ≤ n) where
    pub level_is : level_in base s i n ≡ part (unit_at base i + 8) (len_at base s i) s
    unfolding level_in
    level_is = let e : min (len_at base s i) ((n - i) * 16 - 8) ≡ len_at base s i = omega arith in rw e

    pub level-length : length (level_in base s i n) ≡ len_at base s i
    level-length = rw level_is (length_part (unit_at base i + 8) (len_at base s i) s (omega arith))

    pub own_is : own_in u.form.read base s i n ≡ units_to u.form.read (own_at base s i) (drop (unit_at base (held_at base s i)) s)
    unfolding own_in
    own_is =
        ap (units_to u.form.read (own_at base s i)) (part-eq (unit_at base (held_at base s i)) ((n - held_at base s i) * 16) s)
        ∙ units-take u.form.read (own_at base s i) ((n - held_at base s i) * 16) (drop (unit_at base (held_at base s i)) s) (omega arith)

    pub end_is : row_end base s i n ≡ end_at base s i
    unfolding row_end
    end_is = omega arith

    pub past_is : kids_end base s i n ≡ past_at base s i
    unfolding kids_end
    past_is = rw end_is (omega arith)

    room-held : own_at base s i * 16 ≤ length (drop (unit_at base (held_at base s i)) s)
    room-held = rw length-drop (omega arith)

    take-held : take (own_at base s i * 16) (drop (unit_at base (held_at base s i)) s) ≡ part (unit_at base (held_at base s i)) (own_at base s i * 16) s
    take-held = sym (part-eq (unit_at base (held_at base s i)) (own_at base s i * 16) s)

    -- the head, as it is read
    head_yes : be (part (unit_at base i + 6) 2 s) ≡ 0 → part (unit_at base i) 8 s ≡ head_bytes (level_in base s i n) (length (own_in u.form.read base s i n)) (below_at base s i)
    unfolding head_bytes
    head_yes z =
        rw (level-length, own-length)
        (part_both (unit_at base i) 2 6 8 s (bytes 2 (len_at base s i)) (bytes 2 (own_at base s i) ++ (bytes 2 (below_at base s i) ++ bytes 2 0)) refl (sym (bytes-part (unit_at base i) 2 s o (omega arith)))
        (part_both (unit_at base i + 2) 2 4 6 s (bytes 2 (own_at base s i)) (bytes 2 (below_at base s i) ++ bytes 2 0) refl (sym (bytes-part (unit_at base i + 2) 2 s o (omega arith)))
        (rw four (part_both (unit_at base i + 4) 2 2 4 s (bytes 2 (below_at base s i)) (bytes 2 0) refl (sym (bytes-part (unit_at base i + 4) 2 s o (omega arith)))
        (rw six (part_number (unit_at base i + 6) 2 0 s o (omega arith) z))))))
      where
        four : unit_at base i + 2 + 2 ≡ unit_at base i + 4
        four = omega arith

        six : unit_at base i + 4 + 2 ≡ unit_at base i + 6
        six = omega arith

    -- the level with its fill
    text_yes : fill_fine base s i ≡ true → part (unit_at base i + 8) (level_units (level_in base s i n) * 16 - 8) s ≡ level_bytes (level_in base s i n)
    unfolding level_bytes fill_fine
    text_yes e =
        let w : ℕ = level_units_at base s i * 16 - 8 - len_at base s i in
        let q = every_is 0 (part (unit_at base i + 8 + len_at base s i) w s) e in
        let r : part (unit_at base i + 8 + len_at base s i) w s ≡ replicate w 0 =
        subst (λ (x : ℕ). part (unit_at base i + 8 + len_at base s i) w s ≡ replicate x 0) (length_part (unit_at base i + 8 + len_at base s i) w s (omega arith)) q in
        rw level-length
        (part_both (unit_at base i + 8) (len_at base s i) w (level_units_at base s i * 16 - 8) s (level_in base s i n) (replicate w 0) (omega arith) (sym level_is) r)

    -- what it holds
    holds_yes : own_fine kind (own_at base s i) (drop (unit_at base (held_at base s i)) s) ≡ true
        → (part (unit_at base (i + level_units (level_in base s i n))) (length (own_in u.form.read base s i n) * 16) s ≡ each u.form.write (own_in u.form.read base s i n))
        × u.Fit (own_in u.form.read base s i n)
    holds_yes e =
        let r = u.yes (own_at base s i) (drop (unit_at base (held_at base s i)) s) (are-drop (unit_at base (held_at base s i)) s o) room-held e in (
          rw (level-length, own-length, own_is) (sym take-held ∙ sym r.0),
          rw own_is r.1,
        )

    -- the marks
    mark_yes : (d : ℕ) → marks_fine s d i (end_at base s i) ≡ true → part (64 + i) 1 s ≡ d ∷ []
    unfolding marks_fine
    mark_yes d e =
        part_one (64 + i) s (omega arith)
        ∙ ap (λ (x : ℕ). x ∷ []) (eqb-true (get_or s (64 + i) 0) d (and_left (eqb (get_or s (64 + i) 0) d) (every 255 (part (64 + i + 1) (end_at base s i - (i + 1)) s)) e))

    row-length : row_units (level_in base s i n) (own_in u.form.read base s i n) ≡ end_at base s i - i
    row-length = rw (level-length, own-length) (omega arith)

    others_yes : (d : ℕ) → marks_fine s d i (end_at base s i) ≡ true
        → part (64 + i + 1) (row_units (level_in base s i n) (own_in u.form.read base s i n) - 1) s ≡ replicate (row_units (level_in base s i n) (own_in u.form.read base s i n) - 1) 255
    unfolding marks_fine
    others_yes d e =
        let w : row_units (level_in base s i n) (own_in u.form.read base s i n) - 1 ≡ end_at base s i - (i + 1) = omega (arith, row-length) in
        let q = every_is 255 (part (64 + i + 1) (end_at base s i - (i + 1)) s) (and_right (eqb (get_or s (64 + i) 0) d) (every 255 (part (64 + i + 1) (end_at base s i - (i + 1)) s)) e) in
        rw w (subst (λ (x : ℕ). part (64 + i + 1) (end_at base s i - (i + 1)) s ≡ replicate x 255) (length_part (64 + i + 1) (end_at base s i - (i + 1)) s (omega arith)) q)

    pub row_here : (d : ℕ) → be (part (unit_at base i + 6) 2 s) ≡ 0 → marks_fine s d i (end_at base s i) ≡ true → fill_fine base s i ≡ true
        → own_fine kind (own_at base s i) (drop (unit_at base (held_at base s i)) s) ≡ true
        → RowHere u.form base s d i (level_in base s i n) (own_in u.form.read base s i n) (below_at base s i) × u.Fit (own_in u.form.read base s i n)
    row_here d z m f e =
        let r = holds_yes e in (
          record { head = head_yes z; text = text_yes f; holds = r.0; mark = mark_yes d m; others = others_yes d m },
          r.1,
        )

  -- and the other way round: what is written tells the numbers of the head
  module _ (d below : ℕ) (small : below < 65536) (r : RowHere u.form base s d i (level_in base s i n) (own_in u.form.read base s i n) below) where
    head_parts : (part (unit_at base i) 2 s ≡ bytes 2 (length (level_in base s i n))) × (part (unit_at base i + 4) 2 s ≡ bytes 2 below) × (part (unit_at base i + 6) 2 s ≡ bytes 2 0)
    unfolding head_bytes
    head_parts =
        let l : List ℕ = bytes 2 (length (level_in base s i n)) in
        let v : List ℕ = bytes 2 (length (own_in u.form.read base s i n)) in
        let a = part_back (unit_at base i) 2 6 8 s l (v ++ (bytes 2 below ++ bytes 2 0)) refl (length-bytes 2 (length (level_in base s i n))) r.head in
        let b = part_back (unit_at base i + 2) 2 4 6 s v (bytes 2 below ++ bytes 2 0) refl (length-bytes 2 (length (own_in u.form.read base s i n))) a in
        let four : unit_at base i + 2 + 2 ≡ unit_at base i + 4 = omega arith in
        let six : unit_at base i + 4 + 2 ≡ unit_at base i + 6 = omega arith in
        let c : part (unit_at base i + 4) 4 s ≡ bytes 2 below ++ bytes 2 0 = rw four at b in (
          part_front (unit_at base i) 2 6 8 s l (v ++ (bytes 2 below ++ bytes 2 0)) refl (length-bytes 2 (length (level_in base s i n))) r.head,
          part_front (unit_at base i + 4) 2 2 4 s (bytes 2 below) (bytes 2 0) refl (length-bytes 2 below) c,
          rw six at (part_back (unit_at base i + 4) 2 2 4 s (bytes 2 below) (bytes 2 0) refl (length-bytes 2 below) c),
        )

    pub len_back : len_at base s i ≡ length (level_in base s i n)
    len_back =
        ap be head_parts.0
        ∙ be-bytes 2 (length (level_in base s i n)) (omega (arith, level_short, number_small (unit_at base i) s o (omega arith)))

    pub below_back : below_at base s i ≡ below
    below_back = ap be head_parts.1 ∙ be-bytes 2 below small

    pub spare_back : be (part (unit_at base i + 6) 2 s) ≡ 0
    spare_back = ap be head_parts.2 ∙ be-bytes 2 0 (omega arith)

    pub past_back : i + row_units (level_in base s i n) (own_in u.form.read base s i n) + below ≡ past_at base s i
    past_back = rw (← len_back, own-length, below_back) (omega arith)

    module _ (fits : past_at base s i ≤ n) where
      pub fill_back : fill_fine base s i ≡ true
      unfolding level_bytes fill_fine
      fill_back =
          let w : ℕ = level_units_at base s i * 16 - 8 - len_at base s i in
          let t : part (unit_at base i + 8) (level_units_at base s i * 16 - 8) s ≡ level_in base s i n ++ replicate w 0 = rw (level-length fits) at r.text in
          let q : part (unit_at base i + 8 + len_at base s i) w s ≡ replicate w 0 =
          part_back (unit_at base i + 8) (len_at base s i) w (level_units_at base s i * 16 - 8) s (level_in base s i n) (replicate w 0) (omega arith) (level-length fits) t in
          rw q (is-every 0 w)

      pub holds_back : u.Fit (own_in u.form.read base s i n) → own_fine kind (own_at base s i) (drop (unit_at base (held_at base s i)) s) ≡ true
      holds_back p =
          let h : part (unit_at base (held_at base s i)) (own_at base s i * 16) s ≡ each u.form.write (own_in u.form.read base s i n) =
          rw (level-length fits, own-length) at r.holds in
          u.no (own_at base s i) (drop (unit_at base (held_at base s i)) s) (room-held fits)
          (rw (← own_is fits) (sym h ∙ sym (take-held fits)))
          (rw (own_is fits) at p)

      pub marks_back : marks_fine s d i (end_at base s i) ≡ true
      unfolding marks_fine
      marks_back =
          let w : row_units (level_in base s i n) (own_in u.form.read base s i n) - 1 ≡ end_at base s i - (i + 1) = omega (arith, row-length fits) in
          let m : get_or s (64 + i) 0 ≡ d = ap (λ (x : List ℕ). get_or x 0 0) (sym (part_one (64 + i) s (omega arith)) ∙ r.mark) in
          let q : part (64 + i + 1) (end_at base s i - (i + 1)) s ≡ replicate (end_at base s i - (i + 1)) 255 = rw w at r.others in
          rw (eq-eqb (get_or s (64 + i) 0) d m, q) (is-every 255 (end_at base s i - (i + 1)))
