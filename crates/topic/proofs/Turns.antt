-- Matching: what each turn of the loop over the two texts' levels finds. Assumes nothing.
use mathlib.Core.Path.{◌≡◌, refl, sym, ap, ◌∙◌}
use mathlib.Core.Bool.{Bool, true, false, ◌||◌}
use mathlib.Core.List.{List}
use Prim.Native.Nat.{ℕ, ◌+◌, ◌≤◌, ◌<◌}
use native.Mathlib.Numerals.{add-one}
use native.Mathlib.Omega.{arith}
use lib.Dec.{ltb}
use lib.ListN.{length, drop}
use borrow.Author.Tests.{ltb-true, ltb-false}
use Rattle.level.specs.Levels.{split}
use Rattle.level.specs.Kinds.{is_only, dollar}
use Rattle.level.specs.Places.{first, levels_at, end_of}
use Rattle.level.proofs.Split.{split_cons, levels_cons, levels-none, part-fits}
use Rattle.topic.specs.Match.{level_takes, takes, lead_wild, lead_dollar}

-- A turn: what the walk from i and j answers, `all`, from the filter's level `fl` at i and the name's level `nl` at j.
module _ (f n : List ℕ) (i j : ℕ) {all : Bool} (turn : takes (levels_at f i) (levels_at n j) ≡ all) (hi : i ≤ length f) where
  module _ {fl : List ℕ} (ef : fl ≡ first (drop i f)) where
    module _ (h : j ≤ length n) {r : Bool} (e : r ≡ is_only 35 fl) (t : r ≡ false) {nl : List ℕ} (en : nl ≡ first (drop j n)) where
      no-hash : is_only 35 (first (drop i f)) ≡ false
      no-hash = ap (is_only 35) (sym ef) ∙ sym e ∙ t

-- the '$' rule looks at the first levels
pub lead-wild_at : (s : List ℕ) → lead_wild (split s) ≡ (is_only 43 (first s) || is_only 35 (first s))
lead-wild_at s = rw (split_cons s)

pub lead-dollar_at : (s : List ℕ) → lead_dollar (split s) ≡ dollar (first s)
lead-dollar_at s = rw (split_cons s)

-- the laws by which the first levels are told
pub ruleset lead_laws = (lead-wild_at, lead-dollar_at)

-- what a call g(x) answered, of what x is
pub seen : {A B : Type 0} (g : A → B) {x y : A} {r v : B} → x ≡ y → r ≡ g x → r ≡ v → g y ≡ v
seen g p q e = ap g (sym p) ∙ sym q ∙ e
