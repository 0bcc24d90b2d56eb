-- The next level of a name, in the words of the code. Assumes nothing.
use mathlib.Core.Path.{◌≡◌}
use mathlib.Core.List.{List}
use Prim.Native.Nat.{ℕ, ◌+◌, ◌-◌, ◌≤◌}
use native.Mathlib.Numerals.{add-one}
use native.Mathlib.Omega.{arith}
use lib.ListN.{length, take, drop, length-take, length-drop}
use Rattle.level.specs.Places.{first, end_of}
use Rattle.level.proofs.Split.{levels_cons, part-first, end-within}
use Rattle.walk.specs.Steps.{Steps, Sizing, NextLevel}

pub next_level : (name : List ℕ) (from : ℕ) {stop : ℕ} → from ≤ length name → stop ≡ end_of name from → NextLevel name from stop
next_level name from {stop} h e =
    let l : take (stop - from) (drop from name) ≡ first (drop from name) = rw e (part-first name from) in
    record {
      levels = rw (l, add-one stop, e) (levels_cons name from h);
      long = rw (length-take, length-drop) (omega (arith, end-within name from h));
      on = omega (arith, e);
      within = rw e (end-within name from h);
    }

pub steps_next : (name : List ℕ) (depth from stop : ℕ) → Steps name depth from → NextLevel name from stop → Steps name (depth + 1) (stop + 1)
steps_next name depth from stop s n = record { low = omega (arith, s.low, n.on); high = omega (arith, n.within) }

-- the bytes of a path
module _ (name : List ℕ) (from size stop : ℕ) (z : Sizing name from size) (n : NextLevel name from stop) where
  pub sizing-plus : Sizing name (stop + 1) (size + 2)
  sizing-plus = record { small = omega (arith, z.small, n.on); short = z.short }

  pub sizing_level : Sizing name (stop + 1) (size + (stop - from) + 1)
  sizing_level = record { small = omega (arith, z.small, n.on); short = z.short }
