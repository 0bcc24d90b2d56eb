-- The path of a walk: one row more, and a path whose first rows are the same. Assumes nothing.
use mathlib.Core.Path.{◌≡◌, refl, sym, ap, ◌∙◌}
use mathlib.Core.List.{List, [], ◌∷◌, ◌++◌}
use Prim.Native.Nat.{ℕ, zero, suc, ◌+◌, ◌-◌, ◌≤◌, ◌<◌}
use native.Mathlib.Numerals.{add-one}
use native.Mathlib.Omega.{arith}
use lib.ListN.{length, take, set, get_or}
use lib.Seq.{take-suc, take-suc-set, get_or-take}
use Rattle.level.specs.Levels.{width}
use Rattle.held.specs.Order.{Filter}
use Rattle.forest.specs.Places.{level_in}
use Rattle.pages.specs.Paths.{levels_of, path_at, Trail}

module _ (base : ℕ) (s : List ℕ) (n : ℕ) where
  levels-more : (us : List ℕ) (u : ℕ) → levels_of base s n (us ++ u ∷ []) ≡ levels_of base s n us ++ level_in base s u n ∷ []
  unfolding levels_of
  levels-more [] u = refl
  levels-more (v ∷ us) u = ap (λ (r : Filter). level_in base s v n ∷ r) (levels-more us u)

  -- one row more
  pub path_next : (path : List ℕ) (j : ℕ) → j < length path → path_at base s n path (j + 1) ≡ path_at base s n path j ++ level_in base s (get_or path j 0) n ∷ []
  path_next path j h = rw (add-one j, take-suc path j 0 h) (levels-more (take j path) (get_or path j 0))

  pub path-set : (path : List ℕ) (j u : ℕ) → j < length path → path_at base s n (set path j u) (j + 1) ≡ path_at base s n path j ++ level_in base s u n ∷ []
  path-set path j u h = rw (add-one j, take-suc-set path j u h) (levels-more (take j path) u)

  -- a shorter path takes no more
  pub width-less : (path : List ℕ) (i j : ℕ) → i ≤ j → width (path_at base s n path i) ≤ width (path_at base s n path j)
  unfolding levels_of
  width-less path zero j h = omega arith
  width-less [] (suc i) zero h = absurd (omega arith)
  width-less [] (suc i) (suc j) h = omega arith
  width-less (u ∷ path) (suc i) zero h = absurd (omega arith)
  width-less (u ∷ path) (suc i) (suc j) h = omega (arith, width-less path i j (omega (arith, h)))

  -- the same first rows
  module _ (path kept : List ℕ) (left size : ℕ) (t : Trail base s n path left size) (same : take (128 - left) kept ≡ take (128 - left) path) (long : length kept ≡ 128) where
    pub trail_kept : Trail base s n kept left size
    trail_kept =
        record {
          within = t.within;
          path_in = record {
            deep = t.path_in.deep;
            long = long;
            units = t.path_in.units;
            rows = λ j h.
                let e : get_or kept j 0 ≡ get_or path j 0 =
                sym (get_or-take (128 - left) kept j 0 h) ∙ ap (λ (l : List ℕ). get_or l j 0) same ∙ get_or-take (128 - left) path j 0 h in
                rw e (t.path_in.rows j h);
          };
          size_is = rw same t.size_is;
          small = t.small;
        }
