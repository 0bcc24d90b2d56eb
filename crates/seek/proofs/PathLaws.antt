-- What a caller of `find_path` uses: its nodes lie within the units, and stand there; whether all levels are there; and where they
-- are, the last node and what it holds. Assumes nothing.
use mathlib.Core.Path.{◌≡◌, sym, ◌∙◌}
use mathlib.Core.List.{List, [], ◌∷◌}
use Prim.Native.Nat.{ℕ, zero, suc, ◌≤◌, ◌<◌}
use native.Mathlib.Omega.{arith}
use lib.ListN.{length, take, drop, get_or}
use Rattle.level.specs.Levels.{split}
use Rattle.level.specs.Places.{first, levels_at, end_of}
use Rattle.level.proofs.Split.{levels_cons, levels-none}
use Rattle.held.specs.Ascending.{All}
use Rattle.held.specs.Forest.{Forest}
use Rattle.held.specs.Walks.{hit, values_at}
use Rattle.held.specs.Edit.{missing}
use Rattle.region.specs.Forms.{Form}
use Rattle.forest.specs.Stands.{Stands}
use Rattle.seek.specs.declared.Path.{Path}
use Rattle.seek.specs.PathFound.{PathOf, PathFound}
use Rattle.seek.proofs.Raw.{raw_is, raw_stands, nodes-map, spot-map, missing-map}
use Rattle.seek.proofs.PathNodes.{values-missing}

all_take : (P : ℕ → Type 0) (l : List ℕ) (k : ℕ) → k ≤ length l → ((j : ℕ) → j < k → P (get_or l j 0)) → All P (take k l)
all_take P l zero h f = tt
all_take P [] (suc k) h f = tt
all_take P (x ∷ l) (suc k) h f = (f 0 (omega arith), all_take P l k (omega arith) (λ j q. f (suc j) (omega arith)))

module _ (base : ℕ) (s : List ℕ) (n : ℕ) (text : List ℕ) (p : Path) (f : PathFound base s n text p) where
  -- the nodes lie within the units, whatever their bytes are
  pub nodes-all : length p.nodes ≡ 128 → All (λ (i : ℕ). i < n) (take p.depth p.nodes)
  nodes-all h = all_take (λ (i : ℕ). i < n) p.nodes p.depth (omega (arith, f.few)) f.nodes_in

  -- where a forest stands in them, whatever its nodes hold
  module _ {X : Type 0} (u : Form X) (F : Forest X) (w : Stands u.write u.Small base s 1 0 n F) (few : length (split text) ≤ 128) where
    pub path-of : PathOf F text p
    path-of =
        let r = f.stands (raw_stands u base s 1 0 n F w) few in
        let e = raw_is u base s 1 0 n F w in
        record {
          nodes_are = r.nodes_are ∙ rw e (nodes-map u.write (split text) 0 F);
          place_is = r.place_is ∙ rw e (spot-map u.write (split text) 0 F);
          rest_is = r.rest_is ∙ rw e (missing-map u.write (split text) F);
        }

    -- whether all levels are there
    pub all_there : length text < p.from → missing (split text) F ≡ []
    all_there h = sym path-of.rest_is ∙ levels-none text p.from h

    pub one-missing : p.from ≤ length text → missing (split text) F ≡ first (drop p.from text) ∷ levels_at text (suc (end_of text p.from))
    one-missing h = sym path-of.rest_is ∙ levels_cons text p.from h

    pub holds-none : p.from ≤ length text → values_at (split text) (hit [] F) ≡ []
    holds-none h = values-missing (split text) [] F (first (drop p.from text)) (levels_at text (suc (end_of text p.from))) (one-missing h)
