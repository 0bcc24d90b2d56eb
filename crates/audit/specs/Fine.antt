-- FOR THE PROOFS. What the pass over the rows finds out of the forest in them, node by node. Assumes nothing.
use Rattle.std.specs.Prelude.{◌≡◌, ℕ, ◌+◌, ◌-◌, ◌*◌, ◌≤◌, ◌<◌, true, List, [], length}
use Rattle.level.specs.Kinds.{is_only}
use Rattle.lent.specs.Parts.{part}
use Rattle.held.specs.Order.{Level, level_lt}
use Rattle.held.specs.Forest.{Forest, leaf, fork, held}
use Rattle.held.specs.Edit.{size_f, cells_f}
use Rattle.region.specs.Layout.{units_f, unit_bytes, marks_of}
use Rattle.region.specs.declared.Kind.{Kind}
use Rattle.forest.specs.Places.{unit_at}
use Rattle.audit.specs.declared.Left.{Left}
use Rattle.content.specs.Contents.{level_fine}

-- the next node of a row, if there is one, has a later level
abbrev pub Follows : {X : Type 0} → Level → Forest X → Type 0
Follows l leaf = Unit {0}
Follows l (fork t v k n) = level_lt l t ≡ true

pub record NodeFine {X : Type 0} (kind : Kind) (P : List X → Type 0) (d room : ℕ) (l : Level) (v : List X) (k n : Forest X) : Type 0 where
  pub depth : d ≤ 128
  pub level : level_fine kind l ≡ true
  pub wide : length l < room
  pub owns : P v
  pub full : v ≡ [] → k ≡ leaf → ⊥
  pub ends : is_only 35 l ≡ true → k ≡ leaf
  pub begins : d ≡ 1 → l ≡ [] → v ≡ []
  pub next : Follows l n

abbrev pub Fine : {X : Type 0} → Kind → (P : List X → Type 0) → (d room : ℕ) → Forest X → Type 0
Fine kind P d room leaf = Unit {0}
Fine kind P d room (fork l v k n) = NodeFine kind P d room l v k n × Fine kind P (d + 1) (room - (length l + 1)) k × Fine kind P d room n

-- F stands in the units from i up to n at depth d, is fine, and makes the difference between what was left before and after
pub record Audited {X : Type 0} (kind : Kind) (P : List X → Type 0) (write : X → List ℕ) (base : ℕ) (s : List ℕ) (d room i n : ℕ) (before after : Left) (F : Forest X) : Type 0 where
  pub size : n ≡ i + units_f F
  pub units : part (unit_at base i) (units_f F * 16) s ≡ unit_bytes write F
  pub marks : part (64 + i) (units_f F) s ≡ marks_of d F
  pub fine : Fine kind P d room F
  pub nodes : before.nodes ≡ after.nodes + size_f F
  pub pairs : before.pairs ≡ after.pairs + length (held F)
  pub cells : before.cells ≡ after.cells + cells_f F
