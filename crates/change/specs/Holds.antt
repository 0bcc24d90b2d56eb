-- FOR THE PROOFS. A region holds a forest: it is written down there, its rows ascend, every node holds something or has
-- children, and its numbers fit. Assumes nothing.
use Rattle.std.specs.Prelude.{ℕ, List}
use Rattle.held.specs.Forest.{Forest, Rows, Full}
use Rattle.region.specs.Forms.{Form, Fits}
use Rattle.region.specs.Store.{WrittenIn}

pub record Holds {X : Type 0} (u : Form X) (kind : ℕ) (s : List ℕ) (F : Forest X) : Type 0 where
  pub written : WrittenIn kind u.write F s
  pub rows : Rows F
  pub full : Full F
  pub fits : Fits u.Small F
