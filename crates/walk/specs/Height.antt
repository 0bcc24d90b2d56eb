-- FOR THE CODE. How many nodes a forest has one below another. Assumes nothing.
use Rattle.std.specs.Prelude.{ℕ, suc, max}
use Rattle.held.specs.Forest.{Forest, leaf, fork}

unfoldable pub height_f : {X : Type 0} → Forest X → ℕ
height_f leaf = 0
height_f (fork t v k n) = max (suc (height_f k)) (height_f n)
