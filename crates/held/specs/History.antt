-- TO BELIEVE. What a call does to a store of either kind, and histories of calls (document 01, 'Store rules' and 'Refusal numbers'; demand 3). Assumes nothing.
use Rattle.std.specs.Prelude.{Err, Ok, Result, ⊤}
use Rattle.std.specs.Prelude.{ℕ, Bool, true, false, not, cond, ◌&&◌, List, [], ◌∷◌, ◌++◌, leb}
use Rattle.refusal.specs.Refusals.{told}
use Rattle.refusal.specs.declared.Refusal.{Refusal}
use Rattle.topic.specs.Answers.{checked}
use Rattle.topic.specs.Rules.{Rule}
use Rattle.held.specs.Room.{Room}

-- a call on what is held: the rules of its text, its depth among them, and those for room; what it answers, and what is held after it
pub record Effect (H : Type 0) : Type 0 where
  pub texts : List Rule
  pub rooms : List Rule
  pub answer : ℕ
  pub after : H

-- "Order: .. 1 to 9, then 12 to 15": 12 is the last rule of a text
unfoldable pub verdict : {H : Type 0} → Effect H → Result ⊤ Refusal
verdict e = checked (e.texts ++ e.rooms)

-- what the caller is told: the answer, or the refusal
pub data Outcome : Type 0 where
  answered : ℕ → Outcome
  refused : Refusal → Outcome

abbrev pub outcome_of : Result ⊤ Refusal → ℕ → Outcome
outcome_of (Ok _) n = answered n
outcome_of (Err r) n = refused r

unfoldable pub outcome : {H : Type 0} → Effect H → Outcome
outcome e = outcome_of (verdict e) e.answer

-- what is held then; a refused call changes nothing
abbrev pub accepted : Result ⊤ Refusal → Bool
accepted (Ok _) = true
accepted (Err r) = false

unfoldable pub result : {H : Type 0} → Effect H → H → H
result e h = cond (accepted (verdict e)) e.after h

-- a kind of store: what each of its calls C does, by the capacities and what is held
abbrev pub Kind : Type 0 → Type 0 → Type 0
Kind C H = Room → C → H → Effect H

-- a history: calls one after another, each on what the one before left
abbrev pub run : {C H : Type 0} → Kind C H → Room → List C → H → H
run k r [] h = h
run k r (c ∷ cs) h = run k r cs (result (k r c h) h)

-- what a history says of one thing, call after call, where `said` is what a call says of it and of what was said before
abbrev pub in_turn : {C W : Type 0} → (said : C → W → W) → List C → W → W
in_turn said [] before = before
in_turn said (c ∷ cs) before = in_turn said cs (said c before)

-- no call of a history is refused for room, by 13 to 15; 12 depends on the text alone, as 1 to 9 do
abbrev pub for_room : Result ⊤ Refusal → Bool
for_room (Ok _) = false
for_room (Err r) = leb 13 (told r).number && leb (told r).number 15

abbrev pub has_room : {C H : Type 0} → Kind C H → Room → List C → H → Bool
has_room k r [] h = true
has_room k r (c ∷ cs) h = not (for_room (verdict (k r c h))) && has_room k r cs (result (k r c h) h)
