-- The turns of the search for a value. Assumes nothing.
use Rattle.std.specs.Prelude.{Err, Ok}
use mathlib.Core.Path.{◌≡◌, refl, sym, ap, ◌∙◌}
use mathlib.Core.List.{List, [], ◌∷◌}
use Prim.Native.Nat.{ℕ, zero, suc, ◌+◌, ◌-◌, ◌*◌, ◌/◌, ◌%◌, ◌≤◌, ◌<◌}
use native.Mathlib.Omega.{arith}
use native.Mathlib.Nat.{add-zero}
use native.Mathlib.Numerals.{add-one}
use borrow.Author.Tests.{eq-eqb, ne_eqb, lt-ltb, le-ltb}
use Rattle.lent.specs.Numbers.{bytes}
use Rattle.lent.specs.Total.{read}
use Rattle.region.specs.Units.{value_bytes}
use Rattle.forest.specs.Places.{unit_at}
use Rattle.trie.specs.Values.{values_from, spot_from}

values_some : (base : ℕ) (s : List ℕ) (i n : ℕ) → 0 < n → values_from base s i n ≡ read 4 (unit_at base i) s ∷ values_from base s (i + 1) (n - 1)
unfolding values_from
values_some base s i zero h = absurd (omega arith)
values_some base s i (suc n) h =
    let z : suc n - 1 ≡ n = omega arith in
    rw (z, add-one)

values-none : (base : ℕ) (s : List ℕ) (i n : ℕ) → n ≤ 0 → values_from base s i n ≡ []
unfolding values_from
values-none base s i zero h = refl
values-none base s i (suc n) h = absurd (omega arith)

spot_on : (k x v : ℕ) (vs : List ℕ) → v < x → spot_from k x (v ∷ vs) ≡ spot_from (k + 1) x vs
unfolding spot_from
spot_on k x v vs h = rw (lt-ltb v x h, add-one)

spot_here : (k x v : ℕ) (vs : List ℕ) → v ≡ x → spot_from k x (v ∷ vs) ≡ Ok k
unfolding spot_from
spot_here k x v vs e = rw (le-ltb v x (omega (arith, e)), eq-eqb v x e)

spot_past : (k x v : ℕ) (vs : List ℕ) → x < v → spot_from k x (v ∷ vs) ≡ Err k
unfolding spot_from
spot_past k x v vs h = rw (le-ltb v x (omega arith), ne_eqb v x (λ (e : v ≡ x). omega (arith, e)))

spot-none : (k x : ℕ) → spot_from k x [] ≡ Err k
unfolding spot_from
spot-none k x = refl

-- what is left has the answer of all
pub record SpotLeft (base : ℕ) (s : List ℕ) (i own x k : ℕ) : Type 0 where
  pub same : spot_from k x (values_from base s (i + k) (own - k)) ≡ spot_from 0 x (values_from base s i own)
  pub on : k ≤ own

pub spot_begin : (base : ℕ) (s : List ℕ) (i own x : ℕ) → SpotLeft base s i own x 0
spot_begin base s i own x =
    let z : own - 0 ≡ own = omega arith in
    record { same = rw (z, add-zero); on = omega arith }

module _ (base : ℕ) (s : List ℕ) (i own x k : ℕ) (r : SpotLeft base s i own x k) where
  module _ (h : k < own) {v : ℕ} (e : v ≡ read 4 (base + (i + k) * 16) s) where
    first : values_from base s (i + k) (own - k) ≡ v ∷ values_from base s (i + (k + 1)) (own - (k + 1))
    first =
        let a : i + k + 1 ≡ i + (k + 1) = omega arith in
        let b : own - k - 1 ≡ own - (k + 1) = omega arith in
        values_some base s (i + k) (own - k) (omega arith) ∙ rw (a, b, ← e)

    pub spot_found : v ≤ x → x ≤ v → Ok k ≡ spot_from 0 x (values_from base s i own)
    spot_found p q = sym (spot_here k x v (values_from base s (i + (k + 1)) (own - (k + 1))) (omega arith)) ∙ ap (spot_from k x) (sym first) ∙ r.same

    pub spot_before : x < v → Err k ≡ spot_from 0 x (values_from base s i own)
    spot_before q = sym (spot_past k x v (values_from base s (i + (k + 1)) (own - (k + 1))) q) ∙ ap (spot_from k x) (sym first) ∙ r.same

    pub spot_again : v < x → SpotLeft base s i own x (k + 1)
    spot_again p =
        record {
          same = sym (spot_on k x v (values_from base s (i + (k + 1)) (own - (k + 1))) p) ∙ ap (spot_from k x) (sym first) ∙ r.same;
          on = omega arith;
        }

  pub spot_end : own ≤ k → Err k ≡ spot_from 0 x (values_from base s i own)
  spot_end h = sym (spot-none k x) ∙ ap (spot_from k x) (sym (values-none base s (i + k) (own - k) (omega arith))) ∙ r.same

-- the unit of a value, byte by byte
pub unit_is : (v : ℕ) {a b c d : ℕ} → a ≡ v / 256 / 256 / 256 % 256 → b ≡ v / 256 / 256 % 256 → c ≡ v / 256 % 256 → d ≡ v % 256
    → a ∷ b ∷ c ∷ d ∷ 0 ∷ 0 ∷ 0 ∷ 0 ∷ 0 ∷ 0 ∷ 0 ∷ 0 ∷ 0 ∷ 0 ∷ 0 ∷ 0 ∷ [] ≡ value_bytes v
unfolding value_bytes bytes
unit_is v ea eb ec ed = rw (ea, eb, ec, ed)
