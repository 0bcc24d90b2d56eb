-- FOR THE PROOFS. The walks over a forest: the listing's and the lookup's. Assumes nothing.
use Rattle.std.specs.Prelude.{Bool, false, not, cond, ◌&&◌, ◌||◌, List, [], ◌∷◌, ◌++◌, map}
use Rattle.level.specs.Kinds.{is_only, same, dollar}
use Rattle.topic.specs.Match.{level_takes, takes, lead_wild, lead_dollar}
use Rattle.held.specs.Order.{Level, Filter}
use Rattle.held.specs.Ascending.{keep}
use Rattle.held.specs.Forest.{Forest, leaf, fork, under}

-- a node without its place
pub data Hit (X : Type 0) : Type 0 where
  miss : Hit X
  hit : (own : List X) (kids : Forest X) → Hit X

abbrev pub hash : Level
hash = 35 ∷ []

abbrev pub plus : Level
plus = 43 ∷ []

-- the node of a row with a level
unfoldable pub kid : {X : Type 0} → Level → Forest X → Hit X
kid g leaf = miss
kid g (fork t v k n) = cond (same g t) (hit v k) (kid g n)

-- what stands at the end of a path from a node
unfoldable pub values_at : {X : Type 0} → Filter → Hit X → List X
values_at [] miss = []
values_at [] (hit v k) = v
values_at (g ∷ gs) miss = []
values_at (g ∷ gs) (hit v k) = values_at gs (kid g k)

-- The listing's walk

-- a record, where there are values
abbrev pub emit : {X : Type 0} → Filter → List X → List (Filter × List X)
emit f [] = []
emit f (x ∷ v) = (f, x ∷ v) ∷ []

abbrev pub hash_at : {X : Type 0} → Hit X → List (Filter × List X)
hash_at miss = []
hash_at (hit v k) = emit (hash ∷ []) v

-- from a node, with the name's remaining levels: '#', then the child '+', then the child with the name's level; at the name's end the node itself, then '#'
unfoldable pub walk_at : {X : Type 0} → Filter → Hit X → List (Filter × List X)
walk_at [] miss = []
walk_at [] (hit v k) = emit [] v ++ hash_at (kid hash k)
walk_at (n ∷ ns) miss = []
walk_at (n ∷ ns) (hit v k) = hash_at (kid hash k) ++ (map (under plus) (walk_at ns (kid plus k)) ++ map (under n) (walk_at ns (kid n k)))

-- below a first level with '$' only the literal child is walked
unfoldable pub literal : {X : Type 0} → Filter → Forest X → List (Filter × List X)
literal [] F = []
literal (n ∷ ns) F = map (under n) (walk_at ns (kid n F))

unfoldable pub list_f : {X : Type 0} → Filter → Forest X → List (Filter × List X)
list_f n F = cond (lead_dollar n) (literal n F) (walk_at n (hit [] F))

-- The lookup's walk

-- the filter's first level takes a level; what is left of the filter below it, where '#' stays
abbrev pub fits : Filter → Level → Bool
fits [] t = false
fits (g ∷ gs) t = is_only 35 g || level_takes g t

abbrev pub onward : Filter → Filter
onward [] = []
onward (g ∷ gs) = cond (is_only 35 g) (g ∷ gs) gs

-- along a row: a node, if the filter fits it and it is not barred; what it holds that passes q, if the filter ends here; its children; then the rest of the row
unfoldable pub look : {X : Type 0} → (X → Bool) → Bool → Filter → Forest X → List (Filter × X)
look q barred fs leaf = []
look q barred fs (fork t v k n) =
    cond (not (barred && dollar t) && fits fs t)
    (map (λ x. (t ∷ [], x)) (cond (takes (onward fs) []) (keep q v) []) ++ map (under t) (look q false (onward fs) k))
    []
    ++ look q barred fs n

-- names with a leading '$' are barred at the first level where the filter begins with a wildcard
unfoldable pub look_f : {X : Type 0} → (X → Bool) → Filter → Forest X → List (Filter × X)
look_f q f F = look q (lead_wild f) f F
