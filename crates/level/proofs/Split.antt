-- Laws of `split`: the level that begins at a position, and the levels after it. Assumes nothing.
use mathlib.Core.Path.{◌≡◌, refl, sym, ap, ◌∙◌}
use mathlib.Core.Bool.{Bool, true, false, cond}
use Rattle.std.specs.List.{count_by}
use Rattle.std.proofs.lemmas.List.Recursion.{is_count_by}
use Rattle.std.proofs.lemmas.List.Sums.{count_by-le-length}
use mathlib.Core.List.{List, [], ◌∷◌}
use Prim.Native.Nat.{ℕ, zero, suc, ◌+◌, ◌-◌, ◌≤◌, ◌<◌}
use native.Mathlib.Nat.{add-zero, zero-add, suc-add, add-suc, le_of_suc-le-suc, not-suc-le-zero}
use native.Mathlib.Numerals.{add-one}
use native.Mathlib.Omega.{arith}
use lib.Dec.{eqb}
use lib.ListN.{length, take, drop, get_or, length-drop, drop_of_length-le}
use lib.Seq.{drop-cons, take_all}
use native.Mathlib.Decide.{dec_le}
use borrow.Author.Tests.{ne_eqb}
use Rattle.level.specs.Levels.{push, split, width, start_of}
use Rattle.level.specs.Places.{keep, first, levels_at, end_of}

-- the levels after the first
abbrev pub skip : Bool → List (List ℕ) → List (List ℕ) → List (List ℕ)
skip true x y = x
skip false x y = y

abbrev pub after : List ℕ → List (List ℕ)
after [] = []
after (b ∷ s) = skip (eqb b 47) (split s) (after s)

push_cons : (t : Bool) (b : ℕ) (s : List ℕ) → split s ≡ first s ∷ after s
    → push t b (split s) ≡ keep t b (first s) ∷ skip t (split s) (after s)
push_cons true b s e = refl
push_cons false b s e = rw e

pub split_cons : (s : List ℕ) → split s ≡ first s ∷ after s
split_cons [] = refl
split_cons (b ∷ s) = push_cons (eqb b 47) b s (split_cons s)

-- the first level is a part of the text
take-keep : (t : Bool) (b : ℕ) (s : List ℕ) → take (length (first s)) s ≡ first s
    → take (length (keep t b (first s))) (b ∷ s) ≡ keep t b (first s)
take-keep true b s e = refl
take-keep false b s e = ap (λ (l : List ℕ). b ∷ l) e

pub take-first : (s : List ℕ) → take (length (first s)) s ≡ first s
take-first [] = refl
take-first (b ∷ s) = take-keep (eqb b 47) b s (take-first s)

length-keep : (t : Bool) (b : ℕ) (s : List ℕ) → length (first s) ≤ length s → length (keep t b (first s)) ≤ suc (length s)
length-keep true b s h = omega arith
length-keep false b s h = omega arith

pub length-first : (s : List ℕ) → length (first s) ≤ length s
length-first [] = omega arith
length-first (b ∷ s) = length-keep (eqb b 47) b s (length-first s)

-- what follows the first level
after-keep : (t : Bool) (b : ℕ) (s : List ℕ) → after s ≡ levels_at s (suc (length (first s)))
    → skip t (split s) (after s) ≡ levels_at s (length (keep t b (first s)))
after-keep true b s e = refl
after-keep false b s e = e

after_at : (s : List ℕ) → after s ≡ levels_at s (suc (length (first s)))
after_at [] = refl
after_at (b ∷ s) = after-keep (eqb b 47) b s (after_at s)

-- the level that begins at a position, and the levels after it
pub levels_cons : (s : List ℕ) (i : ℕ) → i ≤ length s → levels_at s i ≡ first (drop i s) ∷ levels_at s (suc (end_of s i))
levels_cons s zero h = rw zero-add (split_cons s ∙ ap (λ (l : List (List ℕ)). first s ∷ l) (after_at s))
levels_cons [] (suc i) h = absurd (not-suc-le-zero h)
levels_cons (b ∷ s) (suc i) h = rw suc-add (levels_cons s i (le_of_suc-le-suc h))

pub levels-none : (s : List ℕ) (i : ℕ) → length s < i → levels_at s i ≡ []
levels-none s zero h = absurd (not-suc-le-zero h)
levels-none [] (suc i) h = refl
levels-none (b ∷ s) (suc i) h = levels-none s i (le_of_suc-le-suc h)

pub end-within : (s : List ℕ) (i : ℕ) → i ≤ length s → end_of s i ≤ length s
end-within s i h = omega (arith, length-first (drop i s), length-drop i s)

-- where a list goes on
module _ {A : Type 0} where
  pub drop_next : (l : List A) (j : ℕ) (x : A) (y : List A) → drop j l ≡ x ∷ y → drop (suc j) l ≡ y
  drop_next [] zero x y e = cc
  drop_next [] (suc j) x y e = cc
  drop_next (a ∷ l) zero x y e = cc
  drop_next (a ∷ l) (suc j) x y e = drop_next l j x y e

  pub drop_end : (l : List A) (j : ℕ) → drop j l ≡ [] → length l ≤ j
  drop_end l j e = omega (arith, length-drop j l, ap length e)

width_next : (l : List (List ℕ)) (j : ℕ) (x : List ℕ) (y : List (List ℕ)) → drop j l ≡ x ∷ y
    → width (take (suc j) l) ≡ width (take j l) + suc (length x)
width_next [] zero x y e = cc
width_next [] (suc j) x y e = cc
width_next (a ∷ l) zero x y e =
    let p : a ≡ x = cc in
    rw p (omega arith)
width_next (a ∷ l) (suc j) x y e = omega (arith, width_next l j x y e)

-- where a level begins, and the levels from there on
pub record Began (s : List ℕ) (k : ℕ) : Type 0 where
  pub levels : levels_at s (start_of s k) ≡ drop k (split s)
  pub within : start_of s k ≤ suc (length s)

module _ (s : List ℕ) (k : ℕ) (b : Began s k) where
  here : start_of s k ≤ length s → drop k (split s) ≡ first (drop (start_of s k) s) ∷ levels_at s (suc (end_of s (start_of s k)))
  here h = sym b.levels ∙ levels_cons s (start_of s k) h

  next_start : start_of s k ≤ length s → start_of s (suc k) ≡ suc (end_of s (start_of s k))
  next_start h = width_next (split s) k _ _ (here h) ∙ add-suc _ _

  past : length s < start_of s k → length (split s) ≤ k
  past h = drop_end (split s) k (sym b.levels ∙ levels-none s (start_of s k) h)

  past_start : length s < start_of s k → (j : ℕ) → k ≤ j → start_of s j ≡ start_of s k
  past_start h j l =
      let p : length (split s) ≤ k = past h in
      let q : length (split s) ≤ j = omega arith in
      ap width (take_all j (split s) q ∙ sym (take_all k (split s) p))

  began_next : Dec (start_of s k ≤ length s) → Began s (suc k)
  began_next (yes h) =
      record {
        levels = rw (next_start h) (sym (drop_next (split s) k _ _ (here h)));
        within = rw (next_start h) (omega (arith, end-within s (start_of s k) h));
      }
  began_next (no h) =
      let g : length s < start_of s k = omega arith in
      record {
        levels =
            rw (past_start g (suc k) (omega arith))
            (levels-none s (start_of s k) g ∙ sym (drop_of_length-le (split s) {i = suc k} (omega (arith, past g))));
        within = rw (past_start g (suc k) (omega arith)) b.within;
      }

pub began : (s : List ℕ) (k : ℕ) → Began s k
began s zero = record { levels = refl; within = omega arith }
began s (suc k) = began_next s k (began s k) (dec_le (start_of s k) (length s))

-- a level that is there begins within the text
pub start-within : (s : List ℕ) (k : ℕ) → k < length (split s) → start_of s k ≤ length s
start-within s k h = within (dec_le (start_of s k) (length s))
  where
    within : Dec (start_of s k ≤ length s) → start_of s k ≤ length s
    within (yes l) = l
    within (no l) = absurd (omega (arith, past s k (began s k) (omega arith)))

-- the turns of `level_start`
pub start_step : (s : List ℕ) (j : ℕ) {at r : ℕ} → at ≡ start_of s j → at ≤ length s → r ≡ end_of s at → r + 1 ≡ start_of s (j + 1)
start_step s j {at} {r} e h q =
    let n : start_of s (suc j) ≡ suc (end_of s (start_of s j)) = next_start s j (began s j) (rw e at h) in
    rw (add-one j, n, q, e) (add-one (end_of s (start_of s j)))

pub start_stop : (s : List ℕ) (k j : ℕ) {at : ℕ} → at ≡ start_of s j → j ≤ k → length s < at → at ≡ start_of s k
start_stop s k j e l h = e ∙ sym (past_start s j (began s j) (rw e at h) k l)

-- what a caller of `level_start` uses: the levels from level k on
pub levels_in : (s : List ℕ) (k : ℕ) {at : ℕ} → at ≡ start_of s k → at ≤ length s → drop k (split s) ≡ first (drop at s) ∷ drop (suc k) (split s)
levels_in s k e h =
    let g : drop k (split s) ≡ first (drop (start_of s k) s) ∷ levels_at s (suc (end_of s (start_of s k))) = here s k (began s k) (rw e at h) in
    rw (drop_next (split s) k _ _ g, e) g

pub levels_out : (s : List ℕ) (k : ℕ) {at : ℕ} → at ≡ start_of s k → length s < at → drop k (split s) ≡ []
levels_out s k e h = drop_of_length-le (split s) (past s k (began s k) (rw e at h))

-- level k by its place in the list
pub get_or_from : {A : Type 0} (l : List A) (k : ℕ) (d : A) → get_or l k d ≡ get_or (drop k l) 0 d
get_or_from [] zero d = refl
get_or_from [] (suc k) d = refl
get_or_from (a ∷ l) zero d = refl
get_or_from (a ∷ l) (suc k) d = get_or_from l k d

-- the level that begins at a position, as a part
pub part-first : (s : List ℕ) (i : ℕ) → take (end_of s i - i) (drop i s) ≡ first (drop i s)
part-first s i =
    let e : end_of s i - i ≡ length (first (drop i s)) = omega arith in
    rw e (take-first (drop i s))

-- what a caller of `part_at` uses: where the part ends
pub part_end : (s : List ℕ) (i : ℕ) {l : List ℕ} → l ≡ first (drop i s) → i + length l ≡ end_of s i
part_end s i e = ap (λ (l : List ℕ). i + length l) e

pub part-fits : (s : List ℕ) (i : ℕ) {l : List ℕ} → i ≤ length s → l ≡ first (drop i s) → i + length l ≤ length s
part-fits s i h e = rw (part_end s i e) (end-within s i h)

-- no level begins past the end
pub part_past : (s : List ℕ) (i : ℕ) → length s < i → [] ≡ first (drop i s)
part_past s i h = rw (drop_of_length-le s {i = i} (omega arith))

pub count_end : (s : List ℕ) (i : ℕ) → length s ≤ i → length (split (drop i s)) ≡ 1
count_end s i h = rw (drop_of_length-le s h)

-- a text has a level more than it has '/'s
pub count_slashes : (s : List ℕ) → length (split s) - 1 ≡ count_by (λ b. eqb b 47) s
count_slashes = is_count_by (λ s. length (split s) - 1) (λ b. eqb b 47) refl (λ b s. less (eqb b 47) b s)
  where
    less : (t : Bool) (b : ℕ) (s : List ℕ) → length (push t b (split s)) - 1 ≡ cond t (1 + (length (split s) - 1)) (length (split s) - 1)
    less true b s = rw (split_cons s) (omega arith)
    less false b s = rw (split_cons s)

-- one step of the search for a level's end
pub end_here : (s : List ℕ) (i : ℕ) → i < length s → get_or s i 0 ≡ 47 → end_of s i ≡ i
end_here s i h e = rw (drop-cons s i 0 h, e) (add-zero i)

pub end_next : (s : List ℕ) (i : ℕ) → i < length s → (get_or s i 0 ≡ 47 → ⊥) → end_of s (i + 1) ≡ end_of s i
end_next s i h n =
    let e : eqb (get_or s i 0) 47 ≡ false = ne_eqb _ _ n in
    rw (drop-cons s i 0 h, e, add-one) (omega arith)

pub end_past : (s : List ℕ) (i : ℕ) → length s ≤ i → end_of s i ≡ i
end_past s i h = rw (drop_of_length-le s h) (add-zero i)

pub some_level : (s : List ℕ) → 0 < length (split s)
some_level s = rw (split_cons s) (omega arith)

-- a level, and those behind it
pub next_level : (s : List ℕ) (i : ℕ) {l : List ℕ} → i ≤ length s → l ≡ first (drop i s) → levels_at s i ≡ l ∷ levels_at s (i + (length l + 1))
next_level s i {l} h e = rw (e, levels_cons s i h, add-one (length (first (drop i s))), add-suc i (length (first (drop i s))))

-- a text has at most a level more than bytes
pub split_fits : (s : List ℕ) → length (split s) ≤ length s + 1
split_fits s = omega (arith, count_slashes s, count_by-le-length (λ b. eqb b 47) s)
