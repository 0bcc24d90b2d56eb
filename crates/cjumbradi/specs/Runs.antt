-- TO BELIEVE. Demand 3 as a broker's author reads it, who calls the library through C: a region that was opened, calls that were made on
-- it one after another, and what a call gave, all by what the calls told. A call may be one that tests its region or one of
-- `known`, which does not. Assumes nothing.
use Rattle.std.specs.Prelude.{◌≡◌, ℕ, Bool, false, cond, ◌&&◌, List, [], ◌∷◌, eqb, leb}
use Rattle.refusal.specs.Refusals.{Told, ◌at◌}
use Rattle.lent.specs.Parts.{part}
use Rattle.topic.specs.Answers.{checked}
use Rattle.held.specs.Room.{Room}
use Rattle.region.specs.declared.Kind.{Kind}
use Rattle.region.specs.Opening.{open_rules, opened_as}
use Rattle.edit.specs.Calls.{StoreKind, Calls, Does}
use Rattle.cjumbradi.specs.Calls.{of_checked}
use Rattle.cjumbradi.specs.Stores.{of_changed, Tells}

-- a region as an opening left it that returned 0
pub record Opened (kind : Kind) (s : List ℕ) : Type 0 where
  pub room : Room
  pub lent : List ℕ
  pub returned : of_checked (checked (open_rules room lent)) ≡ (0 at 0)
  pub left : s ≡ opened_as (checked (open_rules room lent)) kind room lent

-- what was told by a call in either of its forms, of which each has its promise
pub data EitherForm {A T : Type 0} (of : A → T) (Tested Known : A → Type 0) (t : T) : Type 0 where
  tested : Tells of Tested t → EitherForm of Tested Known t
  known : Tells of Known t → EitherForm of Tested Known t

-- "refused for room": 13, 14 or 15 was returned
abbrev pub no_room : Told → Bool
no_room t = leb 13 t.number && leb t.number 15

-- calls made one after another, none refused for room
pub data Made {C H : Type 0} (k : StoreKind C H) : List C → List ℕ → List ℕ → Type 0 where
  ended : {s : List ℕ} → Made k [] s s
  called : {c : C} {cs : List C} {s t u : List ℕ} {w : Told} → EitherForm of_changed (Calls k c s t) (Does k c s t) w → no_room w ≡ false → Made k cs t u → Made k (c ∷ cs) s u

-- the bytes that a call gave: as many as it told, from the buffer's front, and none where it returned a refusal
abbrev pub bytes_given : Told → (after : List ℕ) → List ℕ
bytes_given t after = cond (eqb t.number 0) (part 0 t.place after) []

-- "enough room": 16 was not returned
abbrev pub too_short : Told → Bool
too_short t = eqb t.number 16
