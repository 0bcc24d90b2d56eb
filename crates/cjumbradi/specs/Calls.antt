-- TO BELIEVE. What a C caller is told: each call returns the number of the refusal, 0 for none, and hands back a value,
-- which is what it found, or the place of the refusal. Assumes nothing.
use Rattle.std.specs.Prelude.{Err, Ok, Result, Option, None, Some, ⊤}
use Rattle.refusal.specs.declared.Refusal.{Refusal}
use Rattle.std.specs.Prelude.{ℕ, Bool, cond}
use Rattle.refusal.specs.Refusals.{Told, ◌at◌, told}
use Rattle.level.specs.declared.Kind.{Kind}
use Rattle.level.specs.declared.Kind.TheVariants.{Normal, Metadata, Blank, SingleWildcard, MultiWildcard}

abbrev pub of_checked : Result ⊤ Refusal → Told
of_checked (Ok _) = 0 at 0
of_checked (Err r) = told r

abbrev pub of_parsed : Result ℕ Refusal → Told
of_parsed (Ok n) = 0 at n
of_parsed (Err r) = told r

abbrev pub of_matched : Result Bool Refusal → Told
of_matched (Ok b) = 0 at cond b 1 0
of_matched (Err r) = told r

abbrev pub of_bool : Bool → Told
of_bool b = 0 at cond b 1 0

abbrev pub of_kind : Option Kind → Told
of_kind None = 0 at 0
of_kind (Some Normal) = 0 at 1
of_kind (Some Metadata) = 0 at 2
of_kind (Some Blank) = 0 at 3
of_kind (Some SingleWildcard) = 0 at 4
of_kind (Some MultiWildcard) = 0 at 5
