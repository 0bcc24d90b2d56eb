-- TO BELIEVE. What a C caller is told by the calls on a store: the call's own answer, which its promise settles, as a number and
-- a value. Assumes nothing.
use Rattle.std.specs.Prelude.{Err, Ok, Result}
use Rattle.refusal.specs.declared.Refusal.{Refusal}
use Rattle.retain.specs.declared.Page.{Page}
use Rattle.std.specs.Prelude.{◌≡◌, ℕ, cond}
use Rattle.refusal.specs.Refusals.{Told, ◌at◌, told}
use Rattle.held.specs.History.{Outcome, answered, refused}
use Rattle.edit.specs.declared.Listed.{Listed}

abbrev pub of_changed : Result ℕ Refusal → Told
of_changed (Ok n) = 0 at n
of_changed (Err r) = told r

abbrev pub of_outcome : Outcome → Told
of_outcome (answered n) = 0 at n
of_outcome (refused r) = told r

-- a listing or a lookup: its bytes, and its number of records, which is 0 where it is refused
abbrev pub of_listed : Result Listed Refusal → Told × ℕ
of_listed (Ok l) = (0 at l.bytes, l.records)
of_listed (Err r) = (told r, 0)

-- a page: also 1 if more follows, and 0 if not or where it is refused
abbrev pub of_paged : Result Page Refusal → Told × ℕ × ℕ
of_paged (Ok p) = (0 at p.bytes, p.records, cond p.more 1 0)
of_paged (Err r) = (told r, 0, 0)

-- an answer that keeps the call's promise, and what is told of it
pub record Tells {A T : Type 0} (of : A → T) (Promised : A → Type 0) (t : T) : Type 0 where
  pub answer : A
  pub promised : Promised answer
  pub said : t ≡ of answer
