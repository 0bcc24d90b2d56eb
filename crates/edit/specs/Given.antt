-- TO BELIEVE. What a call gives that writes records into a buffer, whatever the kind of store: its answer, and what the buffer then
-- holds, by the rules that the call tests. A refusal leaves the buffer as it was. Assumes nothing.
use Rattle.std.specs.Prelude.{Err, Ok, Result, ⊤}
use Rattle.refusal.specs.declared.Refusal.{Refusal}
use Rattle.std.specs.Prelude.{◌≡◌, ℕ, Bool, true, not, List, [], eqb, length}
use Rattle.refusal.specs.Refusals.{told}
use Rattle.refusal.specs.declared.Refusal.TheVariants.{NotAStore}
use Rattle.lent.specs.Parts.{part, patch}
use Rattle.topic.specs.Rules.{Rule}
use Rattle.topic.specs.Answers.{checked}
use Rattle.edit.specs.declared.Listed.{Listed}

abbrev pub listed : (bytes records : ℕ) → Result Listed Refusal
listed bytes records = Ok (record { bytes = bytes; records = records })

-- "A listing answers its bytes and records"
abbrev pub listed_by : (out : List ℕ) (records : ℕ) → Result ⊤ Refusal → Result Listed Refusal
listed_by out records (Ok _) = listed (length out) records
listed_by out records (Err r) = Err r

-- "Bytes past the listing stay."
abbrev pub written_by : Result ⊤ Refusal → List ℕ → List ℕ → List ℕ
written_by (Ok _) out buffer = patch 0 out buffer
written_by (Err r) out buffer = buffer

-- the bytes that a call gave, by its answer and what its buffer then holds
abbrev pub given_bytes : Result Listed Refusal → (after : List ℕ) → List ℕ
given_bytes (Ok l) after = part 0 l.bytes after
given_bytes (Err r) after = []

-- the buffer had "enough room": no refusal by 16
abbrev pub enough_room : Result Listed Refusal → Bool
enough_room (Ok l) = true
enough_room (Err r) = not (eqb (told r).number 16)

-- of a store: the answer by what the rules say, and the bytes `out` in the buffer
pub record GivesKnown {A : Type 0} (Store : Type 0) (rules : List Rule) (answer : Result ⊤ Refusal → A) (out before after : List ℕ) (r : A) : Type 0 where
  pub told : Store → r ≡ answer (checked rules)
  pub given : Store → after ≡ written_by (checked rules) out before

-- and of any region, where 11 comes first
pub record Gives {A : Type 0} (Store : Type 0) (rules : List Rule) (answer : Result ⊤ Refusal → A) (out before after : List ℕ) (r : A) : Type 0 where
  pub on_store : GivesKnown Store rules answer out before after r
  pub on_other : (Store → ⊥) → (r ≡ answer (Err NotAStore)) × (after ≡ before)
