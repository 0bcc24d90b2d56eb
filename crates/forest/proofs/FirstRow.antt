-- The forest in some units, by its first row: the two equations behind which the decoder hides. Assumes nothing.
use mathlib.Core.Path.{◌≡◌, refl, sym, ap, ◌∙◌}
use mathlib.Core.List.{List, []}
use Prim.Native.Nat.{ℕ, ◌+◌, ◌-◌, ◌*◌, ◌≤◌, ◌<◌, min}
use native.Mathlib.Omega.{arith}
use lib.ListN.{length, take, drop}
use native.Mathlib.Nat.{add-zero}
use Rattle.lent.specs.Numbers.{be}
use Rattle.lent.specs.Parts.{part}
use Rattle.lent.proofs.Parts.{part-eq, part-part, part_same, drop-part, take_part, length_part}
use Rattle.held.specs.Forest.{leaf, fork}
use Rattle.region.specs.Decode.{units_to, decode}
use Rattle.region.proofs.Decoded.{decode-none, decode_step}
use Rattle.forest.specs.Places.{unit_at, forest_in, len_at, own_at, below_at, level_units_at, row_end, kids_end, level_in, own_in}

module _ {X : Type 0} (read : List ℕ → X) (base : ℕ) (s : List ℕ) where
  pub forest-none : (i n : ℕ) → n ≤ i → forest_in read base s i n ≡ leaf
  unfolding forest_in decode part
  forest-none i n h =
      let z : (n - i) * 16 ≡ 0 = omega arith in
      rw z (decode-none read 0 [] refl)

  level-eq : (i n : ℕ) → level_in base s i n ≡ part (unit_at base i + 8) (min (len_at base s i) ((n - i) * 16 - 8)) s
  unfolding level_in
  level-eq i n = refl

  -- the first row of the units from i up to n
  module _ (i n : ℕ) (some : i < n) (within : unit_at base n ≤ length s) where
    long : length (part (unit_at base i) ((n - i) * 16) s) ≡ (n - i) * 16
    long = length_part (unit_at base i) ((n - i) * 16) s (omega arith)

    field : (o : ℕ) → o + 2 ≤ 8 → part o 2 (part (unit_at base i) ((n - i) * 16) s) ≡ part (unit_at base i + o) 2 s
    field o h = part-part o 2 (unit_at base i) ((n - i) * 16) s (omega arith)

    len_is : be (part 0 2 (part (unit_at base i) ((n - i) * 16) s)) ≡ len_at base s i
    len_is = ap be (rw add-zero at (field 0 (omega arith)))

    own_is : be (part 2 2 (part (unit_at base i) ((n - i) * 16) s)) ≡ own_at base s i
    own_is = ap be (field 2 (omega arith))

    below_is : be (part 4 2 (part (unit_at base i) ((n - i) * 16) s)) ≡ below_at base s i
    below_is = ap be (field 4 (omega arith))

    level_is : part 8 (len_at base s i) (part (unit_at base i) ((n - i) * 16) s) ≡ level_in base s i n
    level_is = part-eq 8 (len_at base s i) (part (unit_at base i) ((n - i) * 16) s)
        ∙ rw (drop-part 8 (unit_at base i) ((n - i) * 16) s, take_part (len_at base s i) (unit_at base i + 8) ((n - i) * 16 - 8) s) (sym (level-eq i n))

    holds_is : units_to read (own_at base s i) (drop (level_units_at base s i * 16) (part (unit_at base i) ((n - i) * 16) s)) ≡ own_in read base s i n
    unfolding own_in
    holds_is =
        ap (units_to read (own_at base s i)) (drop-part (level_units_at base s i * 16) (unit_at base i) ((n - i) * 16) s
        ∙ part_same (unit_at base i + level_units_at base s i * 16) (unit_at base (i + level_units_at base s i)) ((n - i) * 16 - level_units_at base s i * 16) ((n - (i + level_units_at base s i)) * 16) s (omega arith) (λ q. omega arith))

    row-end : row_end base s i n ≡ min (i + level_units_at base s i + own_at base s i) n
    unfolding row_end
    row-end = refl

    kids-end : kids_end base s i n ≡ min (row_end base s i n + below_at base s i) n
    unfolding kids_end
    kids-end = refl

    rest_is : drop ((level_units_at base s i + own_at base s i) * 16) (part (unit_at base i) ((n - i) * 16) s) ≡ part (unit_at base (row_end base s i n)) ((n - row_end base s i n) * 16) s
    rest_is =
        drop-part ((level_units_at base s i + own_at base s i) * 16) (unit_at base i) ((n - i) * 16) s
        ∙ part_same (unit_at base i + (level_units_at base s i + own_at base s i) * 16) (unit_at base (row_end base s i n)) ((n - i) * 16 - (level_units_at base s i + own_at base s i) * 16) ((n - row_end base s i n) * 16) s
        (omega (arith, row-end)) (λ q. omega (arith, row-end))

    kids_is : take (below_at base s i * 16) (part (unit_at base (row_end base s i n)) ((n - row_end base s i n) * 16) s) ≡ part (unit_at base (row_end base s i n)) ((kids_end base s i n - row_end base s i n) * 16) s
    kids_is =
        let e : min (below_at base s i * 16) ((n - row_end base s i n) * 16) ≡ (kids_end base s i n - row_end base s i n) * 16 = omega (arith, row-end, kids-end) in
        take_part (below_at base s i * 16) (unit_at base (row_end base s i n)) ((n - row_end base s i n) * 16) s ∙ rw e

    next_is : drop (below_at base s i * 16) (part (unit_at base (row_end base s i n)) ((n - row_end base s i n) * 16) s) ≡ part (unit_at base (kids_end base s i n)) ((n - kids_end base s i n) * 16) s
    next_is =
        drop-part (below_at base s i * 16) (unit_at base (row_end base s i n)) ((n - row_end base s i n) * 16) s
        ∙ part_same (unit_at base (row_end base s i n) + below_at base s i * 16) (unit_at base (kids_end base s i n)) ((n - row_end base s i n) * 16 - below_at base s i * 16) ((n - kids_end base s i n) * 16) s
        (omega (arith, row-end, kids-end)) (λ q. omega (arith, row-end, kids-end))

    pub forest_some : forest_in read base s i n
        ≡ fork (level_in base s i n) (own_in read base s i n) (forest_in read base s (row_end base s i n) (kids_end base s i n)) (forest_in read base s (kids_end base s i n) n)
    unfolding forest_in
    forest_some =
        decode_step read (part (unit_at base i) ((n - i) * 16) s) (rw long (omega arith))
        ∙ rw (len_is, own_is, below_is, level_is, holds_is, rest_is, kids_is, next_is)
