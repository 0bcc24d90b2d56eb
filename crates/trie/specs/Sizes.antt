-- TO BELIEVE. The answers that tell the counts of a store of subscriptions. `Counts` of `edit` says what is told. Assumes nothing.
use Rattle.std.specs.Prelude.{Err, Ok, Result}
use Rattle.region.specs.declared.Nodes.{Nodes}
use Rattle.region.specs.declared.Pairs.{Pairs}
use Rattle.refusal.specs.declared.Refusal.{Refusal}
use Rattle.held.specs.History.{Outcome, answered, refused}

abbrev pub nodes_told : Result Nodes Refusal → Outcome
nodes_told (Ok n) = answered n.0
nodes_told (Err r) = refused r

abbrev pub values_told : Result Pairs Refusal → Outcome
values_told (Ok n) = answered n.0
values_told (Err r) = refused r
