-- FOR THE PROOFS. Changes of a forest along a path, and the counts of its nodes and cells. Assumes nothing.
use Rattle.std.specs.Prelude.{◌≡◌, ℕ, ◌+◌, Bool, true, false, not, cond, List, [], ◌∷◌, ◌++◌, map, eqb, ltb}
use Rattle.level.specs.Kinds.{is_only, same}
use Rattle.held.specs.Order.{Level, Filter, level_lt}
use Rattle.held.specs.Ascending.{keep, put}
use Rattle.held.specs.Room.{level_cells}
use Rattle.held.specs.Forest.{Forest, leaf, fork}
use Rattle.held.specs.Walks.{Hit, miss, hit, kid}

-- u is done where the path ends
abbrev pub edit_own : {X : Type 0} → (List X → List X) → Filter → List X → List X
edit_own u [] v = u v
edit_own u (h ∷ hs) v = v

-- new nodes for a path
unfoldable pub chain : {X : Type 0} → (List X → List X) → Filter → Forest X
chain u [] = leaf
chain u (g ∷ gs) = fork g (edit_own u gs []) (chain u gs) leaf

-- u is done to what stands at a path, whose nodes are made where they are not there
unfoldable pub grow_f : {X : Type 0} → (List X → List X) → Filter → Forest X → Forest X
grow_f u f leaf = chain u f
grow_f u [] (fork t v k n) = fork t v k n
grow_f u (g ∷ gs) (fork t v k n) =
    cond (level_lt g t) (fork g (edit_own u gs []) (chain u gs) (fork t v k n))
    (cond (level_lt t g) (fork t v k (grow_f u (g ∷ gs) n)) (fork t (edit_own u gs v) (grow_f u gs k) n))

-- a node in front of a row, unless it holds nothing and has no children
unfoldable pub pruned : {X : Type 0} → Level → List X → Forest X → Forest X → Forest X
pruned t [] leaf n = n
pruned t [] (fork u w j m) n = fork t [] (fork u w j m) n
pruned t (x ∷ v) k n = fork t (x ∷ v) k n

-- u is done to what stands at a path, and nodes that are left empty go
unfoldable pub cut_f : {X : Type 0} → (List X → List X) → Filter → Forest X → Forest X
cut_f u f leaf = leaf
cut_f u [] (fork t v k n) = fork t v k n
cut_f u (g ∷ gs) (fork t v k n) = cond (same g t) (pruned t (edit_own u gs v) (cut_f u gs k) n) (fork t v k (cut_f u (g ∷ gs) n))

-- what does not pass q goes, everywhere
unfoldable pub sweep_f : {X : Type 0} → (X → Bool) → Forest X → Forest X
sweep_f q leaf = leaf
sweep_f q (fork t v k n) = pruned t (keep q v) (sweep_f q k) (sweep_f q n)

-- the four changes of the two stores
abbrev pub with_value : ℕ → List ℕ → List ℕ
with_value x v = put ltb (λ y. y) x v

abbrev pub without_value : ℕ → List ℕ → List ℕ
without_value x v = keep (λ y. not (eqb x y)) v

unfoldable pub insert_f : Filter → ℕ → Forest ℕ → Forest ℕ
insert_f p x F = grow_f (with_value x) p F

unfoldable pub remove_f : Filter → ℕ → Forest ℕ → Forest ℕ
remove_f p x F = cut_f (without_value x) p F

-- a name's levels are no wildcards
abbrev pub Plain : Filter → Type 0
Plain [] = Unit {0}
Plain (n ∷ ns) = (is_only 35 n ≡ false) × (is_only 43 n ≡ false) × Plain ns

-- '#' is only last
abbrev pub HashLast : Filter → Type 0
HashLast [] = Unit {0}
HashLast (g ∷ gs) = (is_only 35 g ≡ true → gs ≡ []) × HashLast gs

-- a forest's nodes by their paths, parents before children
unfoldable pub paths : {X : Type 0} → Forest X → List Filter
paths leaf = []
paths (fork t v k n) = (t ∷ []) ∷ (map (λ g. t ∷ g) (paths k) ++ paths n)

-- the sum of a weight over a forest's nodes
unfoldable pub weigh_f : {X : Type 0} → (Level → ℕ) → Forest X → ℕ
weigh_f c leaf = 0
weigh_f c (fork t v k n) = c t + (weigh_f c k + weigh_f c n)

abbrev pub size_f : {X : Type 0} → Forest X → ℕ
size_f F = weigh_f (λ t. 1) F

abbrev pub cells_f : {X : Type 0} → Forest X → ℕ
cells_f F = weigh_f level_cells F

unfoldable pub set_f : {X : Type 0} → Filter → X → Forest X → Forest X
set_f n s F = grow_f (λ v. s ∷ []) n F

unfoldable pub erase_f : {X : Type 0} → Filter → Forest X → Forest X
erase_f n F = cut_f (λ v. []) n F

-- the levels of a path for which a row has no nodes yet
abbrev pub kids_or : {X : Type 0} → Hit X → (Forest X → Filter) → Filter → Filter
kids_or miss r d = d
kids_or (hit v k) r d = r k

unfoldable pub missing : {X : Type 0} → Filter → Forest X → Filter
missing [] F = []
missing (g ∷ gs) F = kids_or (kid g F) (missing gs) (g ∷ gs)

-- the sum of a weight over levels
abbrev pub weigh : (Level → ℕ) → Filter → ℕ
weigh c [] = 0
weigh c (g ∷ gs) = c g + weigh c gs

-- the levels of a path whose nodes go
abbrev pub lost : {X : Type 0} → Level → List X → Forest X → Filter → Filter
lost g [] leaf r = g ∷ r
lost g [] (fork t v k n) r = r
lost g (x ∷ v) k r = r

abbrev pub gone_at : {X : Type 0} → Hit X → (List X → Forest X → Filter) → Filter
gone_at miss r = []
gone_at (hit v k) r = r v k

unfoldable pub gone : {X : Type 0} → (List X → List X) → Filter → Forest X → Filter
gone u [] F = []
gone u (g ∷ gs) F = gone_at (kid g F) (λ v k. lost g (edit_own u gs v) (cut_f u gs k) (gone u gs k))
