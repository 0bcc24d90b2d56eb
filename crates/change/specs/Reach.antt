-- FOR THE PROOFS. The way that a path leads in a forest: to its last node, or to where its first missing node would stand.
-- Assumes nothing.
use Rattle.std.specs.Prelude.{◌≡◌, ℕ, true, List, [], ◌∷◌}
use Rattle.held.specs.Order.{Level, Filter, level_lt}
use Rattle.held.specs.Forest.{Forest, leaf, fork}
use Rattle.held.specs.Edit.{edit_own, chain}
use Rattle.change.specs.Ways.{past, down, Way}

-- the path p leads in F along the way w to the row G, which begins with p's last node, or before which the levels m are missing
pub data Reach {X : Type 0} : (p : Filter) (F : Forest X) (w : Way X) (G : Forest X) (m : Filter) → Type 0 where
  ended : {g : Level} {gs : Filter} → Reach (g ∷ gs) leaf [] leaf (g ∷ gs)
  before : {g t : Level} {gs : Filter} {v : List X} {k n : Forest X} → level_lt g t ≡ true → Reach (g ∷ gs) (fork t v k n) [] (fork t v k n) (g ∷ gs)
  there : {g : Level} {v : List X} {k n : Forest X} → Reach (g ∷ []) (fork g v k n) [] (fork g v k n) []
  pass : {g t : Level} {gs m : Filter} {v : List X} {k n G : Forest X} {w : Way X} → level_lt t g ≡ true → Reach (g ∷ gs) n w G m
      → Reach (g ∷ gs) (fork t v k n) (past t v k ∷ w) G m
  into : {g h : Level} {hs m : Filter} {v : List X} {k n G : Forest X} {w : Way X} → Reach (h ∷ hs) k w G m
      → Reach (g ∷ h ∷ hs) (fork g v k n) (down g v n ∷ w) G m

-- u is done to the first node of the row; or new nodes for the missing levels stand before it
unfoldable pub grow_here : {X : Type 0} → (List X → List X) → Filter → Forest X → Forest X
grow_here u [] leaf = leaf
grow_here u [] (fork t v k n) = fork t (u v) k n
grow_here u (g ∷ gs) G = fork g (edit_own u gs []) (chain u gs) G

-- the last node, where none is missing
abbrev pub last_node : Filter → ℕ → List ℕ
last_node [] i = i ∷ []
last_node (g ∷ gs) i = []
