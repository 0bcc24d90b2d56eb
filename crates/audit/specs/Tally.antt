-- FOR THE CODE. The pass over the rows: every row is tested, and what it has is taken from what the header promises.
-- proofs/Turns.antt has its two equations; nothing else opens it. Assumes nothing.
use Rattle.std.specs.Prelude.{None, Option, Some}
use Rattle.std.specs.Prelude.{ℕ, ◌+◌, ◌-◌, cond, ◌&&◌, List, leb}
use Rattle.held.specs.Order.{Level}
use Rattle.held.specs.Room.{level_cells}
use Rattle.held.specs.Forest.{Forest, leaf, fork}
use Rattle.region.specs.declared.Kind.{Kind}
use Rattle.forest.specs.Places.{len_at, own_at, row_end, kids_end, level_in}
use Rattle.forest.specs.Stands.{raw_in}
use Rattle.audit.specs.declared.Left.{Left}
use Rattle.audit.specs.Tests.{node_fine}

abbrev pub on_sound : Option Left → (Left → Option Left) → Option Left
on_sound (Some a) f = f a
on_sound None f = None

-- one node, what it holds and the cells of its level
unfoldable pub taken : Left → Level → (own : ℕ) → Option Left
taken a l own =
    cond (leb 1 a.nodes && (leb own a.pairs && leb (level_cells l) a.cells))
    (Some (record { nodes = a.nodes - 1; pairs = a.pairs - own; cells = a.cells - level_cells l }))
    None

-- along a forest of the units from i up to n
unfoldable pub tally_f : {X : Type 0} → Kind → (base : ℕ) → List ℕ → (d room i n : ℕ) → Left → Forest X → Option Left
tally_f k base s d room i n a leaf = Some a
tally_f k base s d room i n a (fork l v kids next) =
    cond (node_fine k base s d room i n)
    (on_sound (taken a (level_in base s i n) (own_at base s i))
    (λ b. on_sound (tally_f k base s (d + 1) (room - (len_at base s i + 1)) (row_end base s i n) (kids_end base s i n) b kids)
    (λ c. tally_f k base s d room (kids_end base s i n) n c next)))
    None

unfoldable pub tally : Kind → (base : ℕ) → List ℕ → (d room i n : ℕ) → Left → Option Left
tally k base s d room i n a = tally_f k base s d room i n a (raw_in base s i n)
