-- Where a listing's walk begins, by the name's first level. Assumes nothing.
use Rattle.std.specs.Prelude.{Option}
use mathlib.Core.Path.{◌≡◌, refl, sym, ap, ◌∙◌}
use mathlib.Core.Bool.{Bool, true, false}
use mathlib.Core.List.{List, [], ◌∷◌}
use Prim.Native.Nat.{ℕ, ◌+◌, ◌-◌, ◌≤◌}
use native.Mathlib.Omega.{arith}
use lib.ListN.{length, take, drop}
use Rattle.lent.proofs.Turns.{part_none}
use Rattle.level.specs.Kinds.{dollar}
use Rattle.level.specs.Levels.{split}
use Rattle.level.specs.Places.{levels_at}
use Rattle.topic.specs.Match.{lead_dollar}
use Rattle.held.specs.Order.{Level, Filter}
use Rattle.held.specs.Forest.{Forest}
use Rattle.held.specs.Walks.{hit, kid}
use Rattle.held.specs.Stream.{walk_hit, literal_hit, list_hit, walk_count, literal_count, list_count, walk_bytes, literal_bytes, list_bytes}
use Rattle.forest.specs.Places.{unit_at}
use Rattle.walk.specs.declared.Node.{Node}
use Rattle.walk.specs.Nodes.{node_at, values_in, Listed, NodeIs, Kid}
use Rattle.walk.specs.Steps.{NextLevel}
use Rattle.walk.specs.Starts.{Started}

-- the node above the top row
top_is : (base n : ℕ) (s : List ℕ) → Listed base s n → NodeIs base s 0 (node_at 0 0 n) (hit [] (values_in base s n))
top_is base n s l =
    record { count = refl; few = omega arith; values = part_none (unit_at base 0) s; small = tt; stands = l.stands; shallow = omega (arith, l.shallow) }

-- a list's levels and what follows
module _ (ls : Filter) (F : Forest ℕ) where
  plain_hit : lead_dollar ls ≡ false → list_hit ls F ≡ walk_hit ls (hit [] F)
  unfolding list_hit
  plain_hit e = rw e

  plain_count : lead_dollar ls ≡ false → list_count ls F ≡ walk_count ls (hit [] F)
  unfolding list_count
  plain_count e = rw e

  plain-bytes : lead_dollar ls ≡ false → list_bytes ls F ≡ walk_bytes [] ls (hit [] F)
  unfolding list_bytes
  plain-bytes e = rw e

module _ (g : Level) (gs : Filter) (F : Forest ℕ) (e : dollar g ≡ true) where
  dollar_hit : list_hit (g ∷ gs) F ≡ walk_hit gs (kid g F)
  unfolding list_hit literal_hit
  dollar_hit = rw e

  dollar_count : list_count (g ∷ gs) F ≡ walk_count gs (kid g F)
  unfolding list_count literal_count
  dollar_count = rw e

  dollar-bytes : list_bytes (g ∷ gs) F ≡ walk_bytes (g ∷ []) gs (kid g F)
  unfolding list_bytes literal_bytes
  dollar-bytes = rw e

module _ (base n : ℕ) (s name : List ℕ) (stop : ℕ) (next : NextLevel name 0 stop) {t : Bool} (meta : t ≡ dollar (take (stop - 0) (drop 0 name))) where
  pub start_top : t ≡ false → unit_at base n ≤ length s → 64 + n ≤ base → Started base s n name (record { node = node_at 0 0 n; depth = 0; from = 0 })
  start_top e a b =
      let lead : lead_dollar (split name) ≡ false = rw next.levels (sym meta ∙ e) in
      record {
        inside = (omega arith, omega arith, a, b);
        few = omega arith;
        low = omega arith;
        high = omega arith;
        some = omega arith;
        levels = refl;
        size_is = refl;
        begun = λ l.
            let F : Forest ℕ = values_in base s n in
            record { at = hit [] F; at_is = top_is base n s l; hit_is = plain_hit (split name) F lead; count_is = plain_count (split name) F lead; bytes_are = plain-bytes (split name) F lead };
      }

  pub start-dollar : t ≡ true → {own : Option Node} → Kid base s 0 0 n (take (stop - 0) (drop 0 name)) own → Started base s n name (record { node = own; depth = 1; from = stop + 1 })
  start-dollar e {own} k =
      let g : Level = take (stop - 0) (drop 0 name) in
      let gs : Filter = levels_at name (stop + 1) in
      let d : dollar (take (stop - 0) (drop 0 name)) ≡ true = sym meta ∙ e in
      let parts : split name ≡ take (stop - 0) (drop 0 name) ∷ levels_at name (stop + 1) = next.levels in
      record {
        inside = k.inside;
        few = omega arith;
        low = omega arith;
        high = omega (arith, next.within);
        some = rw parts (omega arith);
        levels = rw parts;
        size_is = rw parts (omega (arith, next.long));
        begun = λ l.
            let F : Forest ℕ = values_in base s n in
            record {
              at = kid g F;
              at_is = k.is F l.stands (omega (arith, l.shallow));
              hit_is = ap (λ (ls : Filter). list_hit ls F) parts ∙ dollar_hit g gs F d;
              count_is = ap (λ (ls : Filter). list_count ls F) parts ∙ dollar_count g gs F d;
              bytes_are = ap (λ (ls : Filter). list_bytes ls F) parts ∙ dollar-bytes g gs F d ∙ rw parts;
            };
      }
