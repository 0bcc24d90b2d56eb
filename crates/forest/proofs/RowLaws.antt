-- A row as the code reads it. Assumes nothing.
use mathlib.Core.Path.{◌≡◌, refl, sym, ◌∙◌}
use mathlib.Core.List.{List}
use Prim.Native.Nat.{ℕ, ◌+◌, ◌-◌, ◌*◌, ◌/◌, ◌≤◌, ◌<◌, min}
use native.Mathlib.Omega.{arith}
use native.Mathlib.Nat.{add-zero}
use lib.ListN.{length, take, drop}
use Rattle.lent.specs.Total.{read}
use Rattle.lent.proofs.Parts.{part-eq}
use Rattle.lent.proofs.Anywhere.{read_in, from-part}
use Rattle.forest.specs.Places.{unit_at, len_at, own_at, below_at, row_end, kids_end, level_in, RowAt}

module _ (base i n : ℕ) (s : List ℕ) (some : i < n) (within : unit_at base n ≤ length s) where
  -- a number of the head, read from the part of the head
  len_read : read 2 0 (take (base + i * 16 + 8 - (base + i * 16)) (drop (base + i * 16) s)) ≡ len_at base s i
  len_read = from-part (base + i * 16) 8 0 2 s (omega arith) (omega arith) ∙ read_in 2 (base + i * 16 + 0) s (omega arith) ∙ rw add-zero

  own_read : read 2 2 (take (base + i * 16 + 8 - (base + i * 16)) (drop (base + i * 16) s)) ≡ own_at base s i
  own_read = from-part (base + i * 16) 8 2 2 s (omega arith) (omega arith) ∙ read_in 2 (base + i * 16 + 2) s (omega arith)

  below-read : read 2 4 (take (base + i * 16 + 8 - (base + i * 16)) (drop (base + i * 16) s)) ≡ below_at base s i
  below-read = from-part (base + i * 16) 8 4 2 s (omega arith) (omega arith) ∙ read_in 2 (base + i * 16 + 4) s (omega arith)

  end-eq : row_end base s i n ≡ min (i + (len_at base s i + 23) / 16 + own_at base s i) n
  unfolding row_end
  end-eq = refl

  past-eq : kids_end base s i n ≡ min (row_end base s i n + below_at base s i) n
  unfolding kids_end
  past-eq = refl

  pub row_is : {len own below end past : ℕ} → len ≡ read 2 0 (take (base + i * 16 + 8 - (base + i * 16)) (drop (base + i * 16) s)) → len < 65536
      → own ≡ read 2 2 (take (base + i * 16 + 8 - (base + i * 16)) (drop (base + i * 16) s)) → below ≡ read 2 4 (take (base + i * 16 + 8 - (base + i * 16)) (drop (base + i * 16) s))
      → end ≡ min (i + (len + 23) / 16 + own) n → past ≡ min (end + below) n → RowAt base s i n (record { len = len; own = own; end = end; past = past })
  row_is el hl eo eb ee ep =
      let l = el ∙ len_read in
      let o = eo ∙ own_read in
      let b = eb ∙ below-read in
      let e : _ ≡ row_end base s i n = ee ∙ rw (l, o) (sym end-eq) in
      record {
        len_is = l;
        own_is = o;
        end_is = e;
        past_is = ep ∙ rw (e, b) (sym past-eq);
        on = omega arith;
        within = omega arith;
        last = omega arith;
        short = hl;
      }

  pub level_is : {g len : ℕ} → g ≡ read 2 (base + i * 16) s → len ≡ min g ((n - i) * 16 - 8)
      → take (base + i * 16 + 8 + len - (base + i * 16 + 8)) (drop (base + i * 16 + 8) s) ≡ level_in base s i n
  unfolding level_in
  level_is {g} {len} eg e =
      let z : base + i * 16 + 8 + len - (base + i * 16 + 8) ≡ len = omega arith in
      rw (z, e, eg, read_in 2 (base + i * 16) s (omega arith)) (sym (part-eq (base + i * 16 + 8) (min (len_at base s i) ((n - i) * 16 - 8)) s))
