-- A row under a filter: with no levels left it gives nothing, and a level that is no wildcard takes one node of it. Assumes nothing.
use mathlib.Core.Path.{◌≡◌, refl, sym, ap, ◌∙◌}
use mathlib.Core.Bool.{Bool, true, false, not, cond, ◌&&◌}
use mathlib.Core.List.{List, [], ◌∷◌}
use Prim.Native.Nat.{ℕ}
use native.Mathlib.Omega.{arith}
use Rattle.level.specs.Kinds.{is_only, same, dollar}
use Rattle.held.specs.Order.{Level, Filter}
use Rattle.held.specs.Retained.{Stored}
use Rattle.held.specs.Forest.{Forest, leaf, fork, Rows}
use Rattle.held.specs.Walks.{Hit, miss, hit, kid, fits}
use Rattle.held.specs.Stream.{row_count, row_bytes}
use Rattle.held.proofs.Orders.{level_order}
use Rattle.held.proofs.Walks.{kid_over}
use Rattle.held.proofs.Equations.{kid_here, kid_next, count_none, count_out, row-none, row_out}

pub and-false : (a b : Bool) → b ≡ false → (a && b) ≡ false
and-false true b e = e
and-false false b e = refl

-- no levels are left
pub count-ended : (now : ℕ) (b : Bool) (F : Forest Stored) → row_count now b [] F ≡ 0
count-ended now b leaf = count_none [] b [] now
count-ended now b (fork t v k n) = count_out [] b [] now t v k n (and-false (not (b && dollar t)) false refl) ∙ count-ended now b n

pub bytes-ended : (now o l i : ℕ) (p : Filter) (b : Bool) (F : Forest Stored) → row_bytes now o l i p b [] F ≡ []
bytes-ended now o l i p b leaf = row-none p b [] now o l i
bytes-ended now o l i p b (fork t v k n) = row_out p b [] now t v k n o l i (and-false (not (b && dollar t)) false refl) ∙ bytes-ended now o l i p b n

-- what follows the first node gives nothing
count-first : (now : ℕ) (b : Bool) (fs : Filter) (t : Level) (v : List Stored) (k n : Forest Stored) → row_count now b fs n ≡ 0 → row_count now b fs (fork t v k n) ≡ row_count now b fs (fork t v k leaf)
unfolding row_count
count-first now b fs t v k n e = rw e

bytes-first : (now o l i : ℕ) (p : Filter) (b : Bool) (fs : Filter) (t : Level) (v : List Stored) (k n : Forest Stored) → ((j : ℕ) → row_bytes now o l j p b fs n ≡ []) → row_bytes now o l i p b fs (fork t v k n) ≡ row_bytes now o l i p b fs (fork t v k leaf)
unfolding row_bytes
bytes-first now o l i p b fs t v k n e = rw e

-- the one node with a level
abbrev pub only : Level → Hit Stored → Forest Stored
only g miss = leaf
only g (hit v k) = fork g v k leaf

pub no_miss : (v : List Stored) (k : Forest Stored) → hit v k ≡ miss → ⊥
no_miss v k e = let z : ◌≡◌ {A = ℕ} 0 1 = cc in absurd (omega arith)

module _ (now : ℕ) (b : Bool) (g : Level) (gs : Filter) (no-hash : is_only 35 g ≡ false) (no_plus : is_only 43 g ≡ false) where
  skips : (t : Level) → same g t ≡ false → (not (b && dollar t) && fits (g ∷ gs) t) ≡ false
  skips t e = and-false (not (b && dollar t)) (fits (g ∷ gs) t) (rw (no-hash, no_plus, e))

  count_missed : (F : Forest Stored) → kid g F ≡ miss → row_count now b (g ∷ gs) F ≡ 0
  count_missed leaf h = count_none [] b (g ∷ gs) now
  count_missed (fork t v k n) h = go (same g t) refl (count_missed n)
    where
      go : (x : Bool) → same g t ≡ x → (kid g n ≡ miss → row_count now b (g ∷ gs) n ≡ 0) → row_count now b (g ∷ gs) (fork t v k n) ≡ 0
      go true e f = absurd (no_miss v k (sym (kid_here g t v k n e) ∙ h))
      go false e f = count_out [] b (g ∷ gs) now t v k n (skips t e) ∙ f (sym (kid_next g t v k n e) ∙ h)

  bytes_missed : (o l i : ℕ) (p : Filter) (F : Forest Stored) → kid g F ≡ miss → row_bytes now o l i p b (g ∷ gs) F ≡ []
  bytes_missed o l i p leaf h = row-none p b (g ∷ gs) now o l i
  bytes_missed o l i p (fork t v k n) h = go (same g t) refl (bytes_missed o l i p n)
    where
      go : (x : Bool) → same g t ≡ x → (kid g n ≡ miss → row_bytes now o l i p b (g ∷ gs) n ≡ []) → row_bytes now o l i p b (g ∷ gs) (fork t v k n) ≡ []
      go true e f = absurd (no_miss v k (sym (kid_here g t v k n e) ∙ h))
      go false e f = row_out p b (g ∷ gs) now t v k n o l i (skips t e) ∙ f (sym (kid_next g t v k n e) ∙ h)

  -- behind it there is no other
  none_behind : (t : Level) (v : List Stored) (k n : Forest Stored) → Rows (fork t v k n) → g ≡ t → kid g n ≡ miss
  none_behind t v k n r z = rw z (kid_over t n r.0)

  pub count_only : (F : Forest Stored) → Rows F → row_count now b (g ∷ gs) F ≡ row_count now b (g ∷ gs) (only g (kid g F))
  unfolding kid
  count_only leaf r = refl
  count_only (fork t v k n) r = go (same g t) refl (count_only n r.2)
    where
      go : (x : Bool) → same g t ≡ x → row_count now b (g ∷ gs) n ≡ row_count now b (g ∷ gs) (only g (kid g n))
          → row_count now b (g ∷ gs) (fork t v k n) ≡ row_count now b (g ∷ gs) (only g (cond x (hit v k) (kid g n)))
      go true e f =
          let z : g ≡ t = level_order.eq_true g t e in
          count-first now b (g ∷ gs) t v k n (count_missed n (none_behind t v k n r z)) ∙ ap (λ (m : Level). row_count now b (g ∷ gs) (fork m v k leaf)) (sym z)
      go false e f = count_out [] b (g ∷ gs) now t v k n (skips t e) ∙ f

  pub bytes_only : (o l i : ℕ) (p : Filter) (F : Forest Stored) → Rows F → row_bytes now o l i p b (g ∷ gs) F ≡ row_bytes now o l i p b (g ∷ gs) (only g (kid g F))
  unfolding kid
  bytes_only o l i p leaf r = refl
  bytes_only o l i p (fork t v k n) r = go (same g t) refl (bytes_only o l i p n r.2)
    where
      go : (x : Bool) → same g t ≡ x → row_bytes now o l i p b (g ∷ gs) n ≡ row_bytes now o l i p b (g ∷ gs) (only g (kid g n))
          → row_bytes now o l i p b (g ∷ gs) (fork t v k n) ≡ row_bytes now o l i p b (g ∷ gs) (only g (cond x (hit v k) (kid g n)))
      go true e f =
          let z : g ≡ t = level_order.eq_true g t e in
          bytes-first now o l i p b (g ∷ gs) t v k n (λ j. bytes_missed o l j p n (none_behind t v k n r z)) ∙ ap (λ (m : Level). row_bytes now o l i p b (g ∷ gs) (fork m v k leaf)) (sym z)
      go false e f = row_out p b (g ∷ gs) now t v k n o l i (skips t e) ∙ f
