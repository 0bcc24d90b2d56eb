-- FOR THE CODE. Whether a walk would give a record. Assumes nothing.
use Rattle.std.specs.Prelude.{Option, ◌≡◌, Bool, ℕ, List}
use Rattle.held.specs.Order.{Filter}
use Rattle.held.specs.Walks.{Hit}
use Rattle.held.specs.Stream.{walk_hit, hash_hit}
use Rattle.walk.specs.declared.Node.{Node}
use Rattle.walk.specs.Nodes.{NodeIs}

-- from a node at depth d, with the name's remaining levels
pub record Hits (base : ℕ) (s : List ℕ) (d : ℕ) (v : Option Node) (ns : Filter) (r : Bool) : Type 0 where
  pub is : (h : Hit ℕ) → NodeIs base s d v h → r ≡ walk_hit ns h

-- at a '#', wherever it stands
pub record HashHits (v : Option Node) (r : Bool) : Type 0 where
  pub is : (base : ℕ) (s : List ℕ) (d : ℕ) (h : Hit ℕ) → NodeIs base s d v h → r ≡ hash_hit h
