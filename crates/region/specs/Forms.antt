-- FOR THE PROOFS. How what a node holds is written in a unit of 16 bytes and read back, and the forests whose numbers fit
-- their bytes. Assumes nothing.
use Rattle.std.specs.Prelude.{◌≡◌, ℕ, ◌<◌, List, ◌++◌, length, take, replicate}
use Rattle.held.specs.Order.{Level}
use Rattle.held.specs.Ascending.{All}
use Rattle.held.specs.Forest.{Forest, leaf, fork}
use Rattle.region.specs.Layout.{units_f}

-- how something is written in 16 bytes, how it is read, and which of them fit there
pub record Form (X : Type 0) : Type 1 where
  pub write : X → List ℕ
  pub read : List ℕ → X
  pub Small : X → Type 0
  pub long : (x : X) → length (write x) ≡ 16
  pub back : (x : X) → Small x → read (write x) ≡ x

-- numbers that fit their two bytes, and what fits its unit
pub data Fits {X : Type 0} (Small : X → Type 0) : Forest X → Type 0 where
  leaf_fits : Fits Small leaf
  fork_fits : {l : Level} {v : List X} {k n : Forest X} → length l < 65536 → length v < 65536 → units_f k < 65536 → All Small v → Fits Small k → Fits Small n → Fits Small (fork l v k n)

-- a unit as it stands: 16 bytes, whatever they say
unfoldable pub whole : List ℕ → List ℕ
whole w = take 16 (w ++ replicate 16 0)

abbrev pub Whole : List ℕ → Type 0
Whole w = length w ≡ 16
