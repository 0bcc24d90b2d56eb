-- How long a listing can be, known before the walk: by the units, and by the levels of the name. Assumes nothing.
use mathlib.Core.Path.{◌≡◌, refl}
use mathlib.Core.Bool.{Bool, true, false, cond}
use mathlib.Core.List.{List, [], ◌∷◌}
use Prim.Native.Nat.{ℕ, zero, suc, ◌+◌, ◌*◌, ◌^◌, ◌≤◌, ◌<◌, min}
use native.Mathlib.Omega.{arith}
use native.Mathlib.Nat.{le_trans, mul-le-mul, mul-le-mul_left}
use native.Mathlib.Numerals.{add-one}
use lib.ListN.{length}
use Rattle.level.specs.Levels.{split}
use Rattle.topic.specs.Match.{lead_dollar}
use Rattle.held.specs.Order.{Filter}
use Rattle.held.specs.Forest.{Forest}
use Rattle.held.specs.Walks.{Hit, miss, hit, hash, plus, kid}
use Rattle.held.specs.Edit.{Plain}
use Rattle.held.specs.Stream.{one_of, hash_count, walk_count, literal_count, list_count}
use Rattle.region.specs.Layout.{units_f}
use Rattle.walk.specs.Bounds.{most_records, AtMost}
use Rattle.walk.proofs.SizeLaws.{count_miss, count_end, count-on}
use Rattle.walk.proofs.Small.{list_small, list_few, name-width}

-- by the number of levels
one_most : (v : List ℕ) → one_of v ≤ 1
one_most [] = omega arith
one_most (x ∷ v) = omega arith

hash_most : (h : Hit ℕ) → hash_count h ≤ 1
hash_most miss = omega arith
hash_most (hit v k) = one_most v

walk_many : (ns : Filter) (h : Hit ℕ) → walk_count ns h ≤ most_records (length ns)
walk_many [] miss = rw count_miss (omega arith)
walk_many [] (hit v k) = rw count_end (omega (arith, one_most v, hash_most (kid hash k)))
walk_many (n ∷ ns) miss = rw count_miss (omega arith)
walk_many (n ∷ ns) (hit v k) = rw count-on (omega (arith, hash_most (kid hash k), walk_many ns (kid plus k), walk_many ns (kid n k)))

list_many : (ls : Filter) (F : Forest ℕ) → list_count ls F ≤ most_records (length ls)
unfolding list_count literal_count
list_many ls F = go ls (lead_dollar ls)
  where
    go : (ls : Filter) (t : Bool) → cond t (literal_count ls F) (walk_count ls (hit [] F)) ≤ most_records (length ls)
    go [] true = omega arith
    go (g ∷ gs) true = omega (arith, walk_many gs (kid g F))
    go ls false = walk_many ls (hit [] F)

-- the doubling for each level
most_grows : (j k : ℕ) → j ≤ k → most_records j ≤ most_records k
most_grows zero zero h = omega arith
most_grows zero (suc k) h = omega (arith, most_grows zero k (omega arith))
most_grows (suc j) zero h = absurd (omega (arith, h))
most_grows (suc j) (suc k) h = omega (arith, most_grows j k (omega (arith, h)))

pub record Doubled (levels j most : ℕ) : Type 0 where
  pub few : j ≤ levels
  pub is : most ≡ most_records j

pub doubled-none : (levels : ℕ) → Doubled levels 0 2
doubled-none levels = record { few = omega arith; is = refl }

pub doubled_step : (levels j most : ℕ) → Doubled levels j most → j < levels → Doubled levels (j + 1) (2 * most + 1)
doubled_step levels j most d h = rw (add-one j) (record { few = omega (arith, h); is = rw d.is })

module _ (levels j most n : ℕ) (d : Doubled levels j most) {total : ℕ} (all : levels ≡ total) where
  pub doubled_early : n ≤ most → n ≡ min n (most_records total)
  doubled_early h = omega (arith, h, d.is, most_grows j total (omega (arith, d.few, all)))

  last : levels ≤ j → most ≡ most_records total
  last h = let e : j ≡ total = omega (arith, h, d.few, all) in rw e at d.is

  pub doubled_units : levels ≤ j → n < most → n ≡ min n (most_records total)
  doubled_units h l = omega (arith, l, last h)

  pub doubled_levels : levels ≤ j → most ≤ n → most ≡ min n (most_records total)
  doubled_levels h l = omega (arith, l, last h)

-- a bound by a number of records, and that it is a number of 64 bits
pub product-fits : {n wide : ℕ} → n ≤ 65535 → wide ≤ 131079 → n * wide < 2 ^ 64
product-fits few short = let a = mul-le-mul few short in omega (arith, a)

pub sum_fits : {n wide values : ℕ} → n ≤ 65535 → wide ≤ 131079 → values ≤ 262140 → n * wide + values < 2 ^ 64
sum_fits few short v = let a = mul-le-mul few short in omega (arith, a, v)

bytes_by : (n : ℕ) (name : List ℕ) (records : ℕ) → ((F : Forest ℕ) → units_f F ≤ n → Plain (split name) → list_count (split name) F ≤ records) → AtMost n name (records * (2 * length name + 9) + 4 * n)
bytes_by n name records count =
    record {
      is = λ F u q.
          let wide : ℕ = 2 * length name + 9 in
          let a = list_small wide (split name) q (omega (arith, name-width name)) F in
          let b : wide * list_count (split name) F ≤ wide * records = mul-le-mul_left wide (count F u q) in
          omega (arith, a, b, u);
    }

-- each record has a unit of its own
pub bytes_by_units : (n : ℕ) (name : List ℕ) → AtMost n name (n * (2 * length name + 9) + 4 * n)
bytes_by_units n name = bytes_by n name n (λ F u q. le_trans (list_few (split name) q F) u)

-- and no more than the levels of the name let be
pub bytes_by_levels : (n : ℕ) (name : List ℕ) (records : ℕ) → records ≡ min n (most_records (length (split name))) → AtMost n name (records * (2 * length name + 9) + 4 * n)
bytes_by_levels n name records e =
    bytes_by n name records (λ F u q. let a = list_few (split name) q F in let b = list_many (split name) F in omega (arith, a, b, u, e))
