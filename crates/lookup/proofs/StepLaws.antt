-- The levels of a filter along a walk, in the words of the code. Assumes nothing.
use mathlib.Core.Path.{◌≡◌, sym, ap, ◌∙◌}
use mathlib.Core.Bool.{Bool, true, false, ◌&&◌, or-true, or-false}
use mathlib.Core.List.{List, []}
use Prim.Native.Nat.{ℕ, ◌+◌, ◌-◌, ◌≤◌, ◌<◌}
use native.Mathlib.Omega.{arith}
use lib.Dec.{eqb, ltb}
use lib.ListN.{length, take, drop}
use borrow.Author.Tests.{eq-eqb, ne_eqb, le-leb, lt-leb}
use Rattle.level.specs.Kinds.{is_only, dollar}
use Rattle.level.specs.Places.{first, levels_at}
use Rattle.level.proofs.Split.{levels_cons, levels-none}
use Rattle.topic.specs.Match.{takes, lead_wild}
use Rattle.held.specs.Stream.{in_page}
use Rattle.walk.specs.Steps.{NextLevel}
use Rattle.lookup.specs.Steps.{StepOf}

-- nothing is left but what the parent takes
pub ends-none : (filter : List ℕ) (from : ℕ) → length filter < from → true ≡ takes (levels_at filter from) []
ends-none filter from h = rw (levels-none filter from h)

pub ends_some : (filter : List ℕ) (from : ℕ) → from ≤ length filter → {l : List ℕ} → l ≡ first (drop from filter) → {r : Bool} → r ≡ is_only 35 l → r ≡ takes (levels_at filter from) []
ends_some filter from h e f = f ∙ ap (is_only 35) e ∙ rw (levels_cons filter from h)

-- a level
module _ (filter : List ℕ) (from stop : ℕ) (n : NextLevel filter from stop) {h : Bool} (is : h ≡ is_only 35 (take (stop - from) (drop from filter))) where
  pub step-hash : h ≡ true → StepOf filter from (record { stop = stop; next = from; wild = true })
  step-hash t =
      let e : is_only 35 (take (stop - from) (drop from filter)) ≡ true = sym is ∙ t in
      record {
        level = n;
        goes = rw (n.levels, e);
        within = omega (arith, n.on, n.within);
        wild_is = sym (ap lead_wild n.levels ∙ rw e (or-true (is_only 43 (take (stop - from) (drop from filter)))));
      }

  pub step_level : h ≡ false → {w : Bool} → w ≡ is_only 43 (take (stop - from) (drop from filter)) → StepOf filter from (record { stop = stop; next = stop + 1; wild = w })
  step_level t {w} q =
      let e : is_only 35 (take (stop - from) (drop from filter)) ≡ false = sym is ∙ t in
      record {
        level = n;
        goes = rw (n.levels, e);
        within = omega (arith, n.within);
        wild_is = q ∙ sym (ap lead_wild n.levels ∙ rw e (or-false (is_only 43 (take (stop - from) (drop from filter)))));
      }
