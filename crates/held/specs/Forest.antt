-- TO BELIEVE. A store's nodes as a forest, what it holds, and when a forest is well formed. The definition of a store
-- (crates/region/specs/Store.antt) rests on it. Assumes nothing.
use Rattle.std.specs.Prelude.{◌≡◌, ℕ, true, List, [], ◌∷◌, ◌++◌, map, ltb}
use Rattle.level.specs.Kinds.{is_only}
use Rattle.held.specs.Order.{Level, Filter, level_lt}
use Rattle.held.specs.Ascending.{Asc}

-- a row of nodes: the first one's level, what it holds, the row of its children, and the rest of the row
pub data Forest (X : Type 0) : Type 0 where
  leaf : Forest X
  fork : (text : Level) (own : List X) (kids next : Forest X) → Forest X

-- what stands below a level
abbrev pub under : {Y : Type 0} → Level → Filter × Y → Filter × Y
under t p = (t ∷ p.0, p.1)

-- what a forest holds, parents before children
unfoldable pub held : {X : Type 0} → Forest X → List (Filter × X)
held leaf = []
held (fork t v k n) = map (λ x. (t ∷ [], x)) v ++ (map (under t) (held k) ++ held n)

-- the levels of a row come after t
abbrev pub Over : {X : Type 0} → Level → Forest X → Type 0
Over t leaf = Unit {0}
Over t (fork u v k n) = (level_lt t u ≡ true) × Over t n

-- in each row the levels strictly ascend
abbrev pub Rows : {X : Type 0} → Forest X → Type 0
Rows leaf = Unit {0}
Rows (fork t v k n) = Over t n × Rows k × Rows n

-- a '#' has no children
abbrev pub HashEnds : {X : Type 0} → Forest X → Type 0
HashEnds leaf = Unit {0}
HashEnds (fork t v k n) = (is_only 35 t ≡ true → k ≡ leaf) × HashEnds k × HashEnds n

-- what every node holds has a property
abbrev pub Owns : {X : Type 0} → (List X → Type 0) → Forest X → Type 0
Owns P leaf = Unit {0}
Owns P (fork t v k n) = P v × Owns P k × Owns P n

-- every node holds something or has children
abbrev pub Full : {X : Type 0} → Forest X → Type 0
Full leaf = Unit {0}
Full (fork t v k n) = (v ≡ [] → k ≡ leaf → ⊥) × Full k × Full n

abbrev pub AscValues : List ℕ → Type 0
AscValues v = Asc ltb (λ y. y) v

-- a forest of subscriptions
pub record WellFormed (F : Forest ℕ) : Type 0 where
  pub rows : Rows F
  pub ends : HashEnds F
  pub owns : Owns AscValues F
  pub full : Full F

-- Retained: a node holds at most one
abbrev pub Single : {X : Type 0} → List X → Type 0
Single [] = Unit {0}
Single (x ∷ []) = Unit {0}
Single (x ∷ y ∷ v) = ⊥

-- a forest of retained names
pub record WellNamed {X : Type 0} (F : Forest X) : Type 0 where
  pub rows : Rows F
  pub owns : Owns Single F
  pub full : Full F
