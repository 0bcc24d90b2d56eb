-- The values of a node, unit by unit. Assumes nothing.
use mathlib.Core.Path.{◌≡◌, refl, sym, ap, ◌∙◌}
use mathlib.Core.List.{List, [], ◌∷◌, ◌++◌, append_assoc, append-nil}
use Prim.Native.Nat.{ℕ, zero, suc, ◌+◌, ◌*◌, ◌^◌, ◌≤◌, ◌<◌}
use native.Mathlib.Numerals.{add-one}
use native.Mathlib.Omega.{arith}
use lib.ListN.{length, take, get_or, length-append}
use lib.Seq.{take-suc, take-length}
use Rattle.lent.specs.Numbers.{bytes, be}
use Rattle.lent.specs.Parts.{part, patch}
use Rattle.lent.specs.Total.{read, write}
use Rattle.lent.proofs.Parts.{part-part, patch-append}
use Rattle.lent.proofs.Turns.{patch-none}
use Rattle.lent.proofs.Digits.{length-bytes}
use Rattle.lent.proofs.Anywhere.{read_in, write_in, write_framed}
use Rattle.held.specs.Ascending.{All}
use Rattle.held.specs.Bytes.{each}
use Rattle.region.specs.Units.{value_bytes, value_of}
use Rattle.region.proofs.Instances.{values, value_back}
use Rattle.forest.specs.Places.{unit_at}
use Rattle.seek.proofs.Holds.{each_at}
use Rattle.listing.specs.Written.{unit_values, Values}

each_next : (xs : List ℕ) (x : ℕ) → each (bytes 4) (xs ++ x ∷ []) ≡ each (bytes 4) xs ++ bytes 4 x
each_next [] x = append-nil (bytes 4 x)
each_next (y ∷ xs) x = rw (each_next xs x) (sym (append_assoc (bytes 4 y) (each (bytes 4) xs) (bytes 4 x)))

-- so many values so far
module _ (base : ℕ) (s : List ℕ) (v : ℕ) where
  pub values_next : (n : ℕ) → unit_values base s v (n + 1) ≡ unit_values base s v n ++ be (part (unit_at base (v + n)) 4 s) ∷ []
  unfolding unit_values
  values_next n = rw (add-one n)

  pub length_values : (n : ℕ) → length (each (bytes 4) (unit_values base s v n)) ≡ 4 * n
  unfolding unit_values
  length_values zero = refl
  length_values (suc n) = rw (each_next, length-append, length-bytes) (omega (arith, length_values n))

pub record ValuesSoFar (base : ℕ) (s : List ℕ) (v n at : ℕ) (old new : List ℕ) (j : ℕ) : Type 0 where
  pub few : j ≤ n
  pub long : length new ≡ length old
  pub text : new ≡ patch at (each (bytes 4) (unit_values base s v j)) old

pub values-none : (base : ℕ) (s : List ℕ) (v n at : ℕ) (old : List ℕ) → ValuesSoFar base s v n at old old 0
unfolding unit_values
values-none base s v n at old = record { few = omega arith; long = refl; text = sym (patch-none at old) }

module _ (base : ℕ) (s : List ℕ) (v n at : ℕ) (old new : List ℕ) (j : ℕ) (z : ValuesSoFar base s v n at old new j) where
  pub values_step : unit_at base (v + n) ≤ length s → at + 4 * n ≤ length old → j < n → {x : ℕ} → x ≡ read 4 (base + (v + j) * 16) s → {new2 : List ℕ} → new2 ≡ write (at + 4 * j) (bytes 4 x) new
      → ValuesSoFar base s v n at old new2 (j + 1)
  values_step within room more {x} ex {new2} e =
      let d : List ℕ = each (bytes 4) (unit_values base s v j) in
      let y : x ≡ be (part (unit_at base (v + j)) 4 s) = ex ∙ read_in 4 (base + (v + j) * 16) s (omega (arith, within, more)) in
      let a : at + 4 * j ≡ at + length d = rw (length_values base s v j) in
      let r : at + length d + length (bytes 4 x) ≤ length old = rw (length_values base s v j, length-bytes) (omega (arith, room, more)) in
      record {
        few = omega (arith, more);
        long = ap length e ∙ (write_framed (at + 4 * j) (bytes 4 x) new).long ∙ z.long;
        text = e ∙ write_in (at + 4 * j) (bytes 4 x) new (rw (length-bytes, z.long) (omega (arith, room, more)))
            ∙ rw (a, z.text) (patch-append at d (bytes 4 x) old r)
            ∙ ap (λ (w : List ℕ). patch at w old) (sym (ap (each (bytes 4)) (values_next base s v j ∙ ap (λ (u : ℕ). unit_values base s v j ++ u ∷ []) (sym y)) ∙ each_next (unit_values base s v j) x));
      }

  pub values_done : n ≤ j → new ≡ patch at (each (bytes 4) (unit_values base s v n)) old
  values_done h = let q : n ≡ j = omega (arith, h, z.few) in rw q z.text

-- they are the node's
all_at : (P : ℕ → Type 0) (l : List ℕ) (j : ℕ) → j < length l → All P l → P (get_or l j 0)
all_at P [] j h a = absurd (omega arith)
all_at P (x ∷ l) zero h a = a.0
all_at P (x ∷ l) (suc j) h a = all_at P l j (omega arith) a.1

module _ (base : ℕ) (s : List ℕ) (v e : ℕ) (own : List ℕ) (w : Values base s v e own) where
  value_at : (j : ℕ) → j < length own → be (part (unit_at base (v + j)) 4 s) ≡ get_or own j 0
  unfolding value_of
  value_at j h =
      let p : unit_at base (v + j) ≡ unit_at base v + j * 16 + 0 = omega arith in
      let f : part (unit_at base v + j * 16) 16 s ≡ value_bytes (get_or own j 0) =
      sym (part-part (j * 16) 16 (unit_at base v) (length own * 16) s (omega (arith, h))) ∙ ap (part (j * 16) 16) w.units ∙ each_at values own j 0 h in
      rw p (ap be (sym (part-part 0 4 (unit_at base v + j * 16) 16 s (omega arith)) ∙ ap (part 0 4) f) ∙ value_back (get_or own j 0) (all_at (λ x. x < 256 ^ 4) own j h w.small))

  values-take : (n : ℕ) → n ≤ length own → unit_values base s v n ≡ take n own
  unfolding unit_values
  values-take zero h = refl
  values-take (suc n) h = rw (values-take n (omega arith), value_at n (omega arith)) (sym (take-suc own n 0 (omega arith)))

  pub values_are : unit_values base s v (length own) ≡ own
  values_are = values-take (length own) (omega arith) ∙ take-length own
