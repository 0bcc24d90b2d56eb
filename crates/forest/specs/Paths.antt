-- FOR THE PROOFS. Where the nodes of a path stand, in units, in a forest whose units begin at a unit. Assumes nothing.
use Rattle.std.specs.Prelude.{ℕ, ◌+◌, cond, List, [], ◌∷◌}
use Rattle.held.specs.Order.{Level, Filter, level_lt}
use Rattle.held.specs.Forest.{Forest, leaf, fork}
use Rattle.held.specs.Walks.{Hit, miss, hit, kid}
use Rattle.region.specs.Layout.{row_units, units_f}

-- the first node of a row that does not come before the level g: where it stands, or where the row ends
unfoldable pub seek_at : {X : Type 0} → Level → ℕ → Forest X → ℕ
seek_at g at leaf = at
seek_at g at (fork t v k n) = cond (level_lt t g) (seek_at g (at + (row_units t v + units_f k)) n) at

-- the nodes of a path, as far as they are there
abbrev pub on_hit : {X A : Type 0} → Hit X → A → (List X → Forest X → A) → A
on_hit miss none some = none
on_hit (hit v k) none some = some v k

unfoldable pub nodes_at : {X : Type 0} → Filter → ℕ → Forest X → List ℕ
nodes_at [] at F = []
nodes_at (g ∷ gs) at F = on_hit (kid g F) [] (λ v k. seek_at g at F ∷ nodes_at gs (seek_at g at F + row_units g v) k)

-- where the first node of a path that is not there would stand; where all are there, the first child of the last would
unfoldable pub spot_at : {X : Type 0} → Filter → ℕ → Forest X → ℕ
spot_at [] at F = at
spot_at (g ∷ gs) at F = on_hit (kid g F) (seek_at g at F) (λ v k. spot_at gs (seek_at g at F + row_units g v) k)
