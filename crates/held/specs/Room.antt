-- TO BELIEVE. The room in use, counted from what is held, and the refusals 13 to 15; the depth of a text, and refusal 12 (document 01, 'Store rules' and 'Refusal numbers'). Assumes nothing.
-- What is held is a list of filters, or names, each with a value or a record.
use Rattle.std.specs.Prelude.{ℕ, ◌+◌, ◌/◌, Bool, not, cond, ◌&&◌, ◌||◌, List, [], ◌∷◌, ◌++◌, map, ltb, leb, length}
use Rattle.level.specs.Kinds.{is_only}
use Rattle.level.specs.Levels.{split}
use Rattle.refusal.specs.declared.Refusal.TheVariants.{TooDeep, NodesFull, PairsFull, TextFull}
use Rattle.topic.specs.Rules.{Rule, ◌gives◌}
use Rattle.held.specs.Order.{Level, Filter, filter_lt}
use Rattle.held.specs.Ascending.{sort}

-- "lists of leading levels", the non-empty ones
abbrev pub leads : Filter → List Filter
leads [] = []
leads (l ∷ f) = (l ∷ []) ∷ map (λ g. l ∷ g) (leads f)

unfoldable pub all_leads : {X : Type 0} → List (Filter × X) → List Filter
all_leads [] = []
all_leads (e ∷ h) = leads e.0 ++ all_leads h

-- "nodes: the distinct non-empty lists of leading levels of held filters or names"
unfoldable pub nodes_of : {X : Type 0} → List (Filter × X) → List Filter
nodes_of h = sort filter_lt (λ f. f) (all_leads h)

unfoldable pub node_count : {X : Type 0} → List (Filter × X) → ℕ
node_count h = length (nodes_of h)

-- "bytes divided by 16, rounded up; blank, `+` and `#` take none": a blank level's 0 bytes are 0 cells
abbrev pub level_cells : Level → ℕ
level_cells l = cond (is_only 43 l || is_only 35 l) 0 ((length l + 15) / 16)

-- "cells: over those nodes, the last level's"
abbrev pub last_level : Filter → Level
last_level [] = []
last_level (l ∷ []) = l
last_level (l ∷ m ∷ f) = last_level (m ∷ f)

abbrev pub sum_cells : List Filter → ℕ
sum_cells [] = 0
sum_cells (f ∷ l) = level_cells (last_level f) + sum_cells l

unfoldable pub cell_count : {X : Type 0} → List (Filter × X) → ℕ
cell_count h = sum_cells (nodes_of h)

-- the capacities N, P and C of a store: "nodes N 1 to 4,096, pairs P 1 to 8,192, text cells C 1 to 8,192"
pub record Room : Type 0 where
  pub nodes : ℕ
  pub pairs : ℕ
  pub cells : ℕ

abbrev pub up_to : (most n : ℕ) → Bool
up_to most n = ltb 0 n && leb n most

abbrev pub in_range : Room → Bool
in_range r = up_to 4096 r.nodes && (up_to 8192 r.pairs && up_to 8192 r.cells)

-- "13 to 15 are given exactly when the pair or name is not held and the count with it would pass N, P or C"
abbrev pub full_rules : Room → (already : Bool) (nodes pairs cells : ℕ) → List Rule
full_rules r already n p c =
    (not already && ltb r.nodes n) gives NodesFull
    ∷ (not already && ltb r.pairs p) gives PairsFull
    ∷ (not already && ltb r.cells c) gives TextFull
    ∷ []

unfoldable pub room_rules : {X : Type 0} → Room → (already : Bool) (with : List (Filter × X)) → List Rule
room_rules r already with = full_rules r already (node_count with) (length with) (cell_count with)

-- "TooDeep: over 128 levels", for the text of a call
unfoldable pub depth_rule : List ℕ → Rule
depth_rule s = ltb 128 (length (split s)) gives TooDeep
