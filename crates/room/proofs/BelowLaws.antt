-- The turns of the functions that move numbers, and that they keep the length. Assumes nothing.
use mathlib.Core.Path.{◌≡◌, refl, sym, ap, ◌∙◌}
use mathlib.Core.List.{List, [], ◌∷◌}
use Prim.Native.Nat.{ℕ, zero, suc, ◌+◌, ◌*◌, ◌≤◌, ◌<◌}
use native.Mathlib.Omega.{arith}
use native.Mathlib.Numerals.{add-one}
use lib.ListN.{length, take, drop, get_or, length-take, drop_of_length-le}
use lib.Seq.{drop-cons, get_or-take}
use Rattle.lent.specs.Numbers.{bytes}
use Rattle.lent.specs.Total.{read, write}
use Rattle.lent.proofs.Anywhere.{write_framed}
use Rattle.forest.specs.Places.{unit_at}
use Rattle.room.specs.declared.Load.{Load}
use Rattle.room.specs.Changes.{moved, counted, belows, counts_moved, Under, none_under, more_under}

pub length-counted : (at more less : ℕ) (s : List ℕ) → length (counted at more less s) ≡ length s
unfolding counted
length-counted at more less s = (write_framed at _ s).long

pub length-belows : (more less base : ℕ) (is s : List ℕ) → length (belows more less base is s) ≡ length s
unfolding belows
length-belows more less base [] s = refl
length-belows more less base (i ∷ is) s = length-belows more less base is (counted (unit_at base i + 4) more less s) ∙ length-counted (unit_at base i + 4) more less s

-- the nodes of an array from a place on
module _ (nodes : List ℕ) (count j : ℕ) (few : count ≤ length nodes) (h : j < count) where
  pub nodes-on : drop j (take count nodes) ≡ get_or nodes j 0 ∷ drop (j + 1) (take count nodes)
  nodes-on =
      let l : length (take count nodes) ≡ count = rw length-take (omega arith) in
      drop-cons (take count nodes) j 0 (omega (arith, l))
      ∙ rw (get_or-take count nodes j 0 h, add-one)

  under_at : (n : ℕ) (l : List ℕ) (k : ℕ) → Under n l → k < length l → get_or l k 0 < n
  under_at n [] k none_under q = absurd (omega arith)
  under_at n (i ∷ l) zero (more_under a u) q = a
  under_at n (i ∷ l) (suc k) (more_under a u) q = under_at n l k u (omega arith)

  pub node-under : (n : ℕ) → Under n (take count nodes) → get_or nodes j 0 < n
  node-under n u =
      let l : length (take count nodes) ≡ count = rw length-take (omega arith) in
      rw (get_or-take count nodes j 0 h) at (under_at n (take count nodes) j u (omega (arith, l)))

-- the turns of move_below
pub record BelowLeft (more less base : ℕ) (nodes : List ℕ) (count : ℕ) (s₀ : List ℕ) (j : ℕ) (s : List ℕ) : Type 0 where
  pub same : belows more less base (drop j (take count nodes)) s ≡ belows more less base (take count nodes) s₀
  pub long : length s ≡ length s₀
  pub on : j ≤ count

belows_some : (more less base i : ℕ) (is s : List ℕ) → belows more less base (i ∷ is) s ≡ belows more less base is (belows more less base (i ∷ []) s)
unfolding belows
belows_some more less base i is s = refl

pub one-moved : (more less base i : ℕ) (s : List ℕ) {t : List ℕ} → t ≡ counted (base + i * 16 + 4) more less s → t ≡ belows more less base (i ∷ []) s
unfolding belows
one-moved more less base i s f = f

pub count-moved : (at more less : ℕ) (s : List ℕ) {x y : ℕ} → x ≡ read 2 at s → y ≡ moved more less x → {t : List ℕ} → t ≡ write at (bytes 2 y) s → t ≡ counted at more less s
unfolding counted
count-moved at more less s ex ey f = rw (ey, ex) at f

pub counts-moved : (a b : Load) (s s₁ s₂ s₃ s₄ : List ℕ) → s₁ ≡ counted 10 a.nodes b.nodes s → s₂ ≡ counted 12 a.pairs b.pairs s₁
    → s₃ ≡ counted 14 a.cells b.cells s₂ → s₄ ≡ counted 16 a.units b.units s₃ → s₄ ≡ counts_moved a b s
unfolding counts_moved
counts-moved a b s s₁ s₂ s₃ s₄ e f g h = rw (g, f, e) at h

pub node_below : (nodes : List ℕ) (count j n : ℕ) → length nodes ≡ 128 → count ≤ 128 → j < count → Under n (take count nodes) → get_or nodes j 0 < n
node_below nodes count j n l few h u = node-under nodes count j (omega (arith, l)) h n u

module _ (more less base : ℕ) (nodes : List ℕ) (count : ℕ) where
  pub below_begin : (s₀ : List ℕ) → BelowLeft more less base nodes count s₀ 0 s₀
  below_begin s₀ = record { same = refl; long = refl; on = omega arith }

  module _ (s₀ s : List ℕ) (j : ℕ) (r : BelowLeft more less base nodes count s₀ j s) where
    pub below_step : length nodes ≡ 128 → count ≤ 128 → j < count → (t : List ℕ) → t ≡ belows more less base (get_or nodes j 0 ∷ []) s
        → BelowLeft more less base nodes count s₀ (j + 1) t
    below_step l few h t f =
        record {
          same =
              rw f (sym (belows_some more less base (get_or nodes j 0) (drop (j + 1) (take count nodes)) s))
              ∙ sym (ap (λ (is : List ℕ). belows more less base is s) (nodes-on nodes count j (omega (arith, l)) h)) ∙ r.same;
          long = ap length f ∙ length-belows more less base (get_or nodes j 0 ∷ []) s ∙ r.long;
          on = omega arith;
        }

    pub below_end : count ≤ j → s ≡ belows more less base (take count nodes) s₀
    unfolding belows
    below_end h =
        let l : length (take count nodes) ≤ j = rw length-take (omega (arith)) in
        rw (drop_of_length-le (take count nodes) {i = j} l) at r.same
