-- TO BELIEVE. The answer that tells how many names a store holds. `Counts` of `edit` says what is told. Assumes nothing.
use Rattle.std.specs.Prelude.{Err, Ok, Result}
use Rattle.region.specs.declared.Pairs.{Pairs}
use Rattle.refusal.specs.declared.Refusal.{Refusal}
use Rattle.held.specs.History.{Outcome, answered, refused}

abbrev pub names_told : Result Pairs Refusal → Outcome
names_told (Ok n) = answered n.0
names_told (Err r) = refused r
