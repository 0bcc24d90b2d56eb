-- The loop that steps back over marks: what each turn has passed. Assumes nothing.
use mathlib.Core.Path.{◌≡◌}
use mathlib.Core.List.{List}
use mathlib.Core.Logic.{⊎_elim}
use Prim.Native.Nat.{ℕ, ◌-◌, ◌≤◌, ◌<◌}
use native.Mathlib.Omega.{arith}
use Rattle.lent.proofs.Anywhere.{lt-or_ge}
use Rattle.seek.specs.Probe.{mark_at, Probed}

-- from the unit mid back to the unit m all is deeper
pub record Passed (s : List ℕ) (d mid m : ℕ) : Type 0 where
  pub deep : (j : ℕ) → m < j → j ≤ mid → d < mark_at s j

pub passed_none : (s : List ℕ) (d mid : ℕ) → Passed s d mid mid
passed_none s d mid = record { deep = λ j a b. absurd (omega arith) }

module _ (s : List ℕ) (d a b mid m : ℕ) where
  pub passed_next : Passed s d mid m → d < mark_at s m → Passed s d mid (m - 1)
  passed_next p h =
      record {
        deep = λ j l k.
            ⊎_elim (λ (q : m < j). p.deep j q k) (λ (q : j ≤ m). let e : j ≡ m = omega arith in rw e h) (lt-or_ge m j);
      }

  module _ (low : a ≤ m) (high : m ≤ mid) (before : mid < b) (p : Passed s d mid m) where
    pub probe_here : mark_at s m ≤ d → (few : ℕ) → Probed s d a b (record { node = m; mid = mid; few = few })
    probe_here h few = record { low = low; high = high; before = before; flat = λ q. h; deep = p.deep }

    pub probe_end : m ≤ a → (few : ℕ) → Probed s d a b (record { node = m; mid = mid; few = few })
    probe_end h few = record { low = low; high = high; before = before; flat = λ q. absurd (omega arith); deep = p.deep }

pub probe-first : (s : List ℕ) (d a b : ℕ) → a < b → (few : ℕ) → Probed s d a b (record { node = a; mid = a; few = few })
probe-first s d a b h few = probe_end s d a b a a (omega arith) (omega arith) h (passed_none s d a) (omega arith) few
