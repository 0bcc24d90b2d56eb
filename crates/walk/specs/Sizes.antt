-- FOR THE CODE. What a walk's records take: their bytes and their number. A sum of over 64 bits stays at the largest number. Assumes nothing.
use Rattle.std.specs.Prelude.{Option, ◌≡◌, ℕ, ◌+◌, ◌*◌, ◌^◌, ◌<◌, min, List, [], ◌∷◌, length}
use Rattle.level.specs.Levels.{width}
use Rattle.held.specs.Order.{Filter}
use Rattle.held.specs.Walks.{Hit}
use Rattle.held.specs.Stream.{one_of, hash_bytes, hash_count, walk_bytes, walk_count}
use Rattle.walk.specs.declared.Node.{Node}
use Rattle.walk.specs.declared.Measured.{Measured}
use Rattle.walk.specs.Nodes.{NodeIs}

abbrev pub capped : ℕ → ℕ
capped n = min n 18446744073709551615

abbrev pub nothing : Measured
nothing = record { bytes = 0; records = 0 }

-- what was measured before, and so many bytes and records more, where that is a number of 64 bits
pub record Sized (before : Measured) (bytes records : ℕ) (m : Measured) : Type 0 where
  pub bytes_are : before.bytes + bytes < 2 ^ 64 → m.bytes ≡ before.bytes + bytes
  pub records_are : before.records + records < 2 ^ 64 → m.records ≡ before.records + records

-- the record of so many values below a text: none where there are none
abbrev pub record_size : (text : ℕ) → List ℕ → ℕ
record_size text [] = 0
record_size text (x ∷ own) = 6 + text + 4 * length (x ∷ own)

-- of the values in the units from v up to e
pub record RecordSized (before : Measured) (v e text : ℕ) (m : Measured) : Type 0 where
  pub is : (own : List ℕ) → length own < 65536 → e ≡ v + length own → Sized before (record_size text own) (one_of own) m

-- of a '#' below a path, whose levels take `size` bytes, each with the '/' after it
pub record HashSized (before : Measured) (n : Option Node) (size : ℕ) (m : Measured) : Type 0 where
  pub is : (base : ℕ) (s : List ℕ) (d : ℕ) (h : Hit ℕ) → NodeIs base s d n h → (p : Filter) → width p ≡ size
      → Sized before (length (hash_bytes p h)) (hash_count h) m

-- from a node at depth d with such a path, with the name's remaining levels
pub record Sizes (before : Measured) (base : ℕ) (s : List ℕ) (d : ℕ) (n : Option Node) (size : ℕ) (ns : Filter) (m : Measured) : Type 0 where
  pub is : (h : Hit ℕ) → NodeIs base s d n h → (p : Filter) → width p ≡ size
      → Sized before (length (walk_bytes p ns h)) (walk_count ns h) m
