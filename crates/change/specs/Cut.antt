-- FOR THE PROOFS. Which nodes go with the one thing that a path's last node holds: in the forest. Assumes nothing.
use Rattle.std.specs.Prelude.{◌≡◌, true, List, [], ◌∷◌}
use Rattle.held.specs.Order.{Level, Filter, level_lt}
use Rattle.held.specs.Forest.{Forest, leaf, fork}
use Rattle.change.specs.Ways.{past, down, Way, plug}

-- the node t, which holds v and has the children k, goes with the rest of the path p, where e takes away the one thing that the last node holds
pub data Alone {X : Type 0} (e : List X → List X) : (p : Filter) (t : Level) (v : List X) (k : Forest X) → Type 0 where
  last : {g : Level} {y : X} → e (y ∷ []) ≡ [] → Alone e (g ∷ []) g (y ∷ []) leaf
  only : {g h : Level} {hs : Filter} {v : List X} {k : Forest X} → Alone e (h ∷ hs) h v k → Alone e (g ∷ h ∷ hs) g [] (fork h v k leaf)

-- the first node of the path p that goes: the way w to it, its level, what it holds, its children, the rest of its row, and the rest q of the path from it on
pub data CutAt {X : Type 0} (e : List X → List X) : (p : Filter) (F : Forest X) (w : Way X) (t : Level) (v : List X) (k n : Forest X) (q : Filter) → Type 0 where
  here : {g : Level} {gs : Filter} {v : List X} {k n : Forest X} → Alone e (g ∷ gs) g v k → CutAt e (g ∷ gs) (fork g v k n) [] g v k n (g ∷ gs)
  pass : {g a t : Level} {gs q : Filter} {b v : List X} {c k n m : Forest X} {w : Way X} → level_lt a g ≡ true → CutAt e (g ∷ gs) m w t v k n q
      → CutAt e (g ∷ gs) (fork a b c m) (past a b c ∷ w) t v k n q
  into : {g h t : Level} {hs q : Filter} {b v : List X} {c k n m : Forest X} {w : Way X} → (b ≡ [] → plug w n ≡ leaf → ⊥) → CutAt e (h ∷ hs) c w t v k n q
      → CutAt e (g ∷ h ∷ hs) (fork g b c m) (down g b m ∷ w) t v k n q
