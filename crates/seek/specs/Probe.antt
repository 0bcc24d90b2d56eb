-- FOR THE CODE. The unit of a row that a search looks at next. Assumes nothing.
use Rattle.std.specs.Prelude.{ℕ, ◌+◌, ◌≤◌, ◌<◌, List, get_or}
use Rattle.seek.specs.declared.Probe.{Probe}

-- the mark of a unit
abbrev pub mark_at : List ℕ → ℕ → ℕ
mark_at s j = get_or s (64 + j) 0

-- in the units from a up to b a sibling stands at the node of the probe, and all of it up to the unit mid is deeper
pub record Probed (s : List ℕ) (d a b : ℕ) (p : Probe) : Type 0 where
  pub low : a ≤ p.node
  pub high : p.node ≤ p.mid
  pub before : p.mid < b
  pub flat : a < p.node → mark_at s p.node ≤ d
  pub deep : (j : ℕ) → p.node < j → j ≤ p.mid → d < mark_at s j
