-- TO BELIEVE. The course's question, asked of retained names after a history of calls: which names does a filter find, and why?
-- Those whose last accepted call left them held, where a sweep counts for every name; that have not expired; and that the filter
-- takes by MQTT 4.7. Assumes nothing.
use Rattle.std.specs.Prelude.{◌≡◌, ℕ, zero, suc, ◌+◌, Bool, cond, List, ltb, length, take, drop}
use Rattle.std.proofs.Math.Option.{Option, none, some}
use Rattle.level.specs.Levels.{split}
use Rattle.topic.specs.Rules.{name_rules, ascii}
use Rattle.topic.specs.Answers.{checked}
use Rattle.topic.specs.Match.{match47}
use Rattle.held.specs.Order.{Filter}
use Rattle.held.specs.Ascending.{passed}
use Rattle.held.specs.Bytes.{each}
use Rattle.held.specs.History.{accepted, in_turn}
use Rattle.held.specs.Retained.{Stored, Named, AscNames, stored, unexpired, Call, set, sweep, set_rules, calls_of, name_record}

-- what is stored for a name after a call about it, and before it: a call whose text is refused says nothing
abbrev pub said : Call → Option Stored → Option Stored
said (set s zero x) before = cond (accepted (checked (name_rules s))) none before
said (set s (suc n) x) before = cond (accepted (checked (set_rules s))) (some x) before
said (sweep now) before = passed (unexpired now) before

-- by its own calls and the sweeps, in their order, from an empty store
abbrev pub retained_for : Filter → List Call → Option Stored
retained_for n cs = in_turn said (calls_of n cs) none

-- the names that a filter finds at a time after these calls: exactly those, once each, in document 01's order
pub record Finds (cs : List Call) (filter : Filter) (clock : ℕ) (names : List Named) : Type 0 where
  pub exactly : (n : Filter) → stored n names ≡ cond (match47 filter n) (passed (unexpired clock) (retained_for n cs)) none
  pub in_order : AscNames names

-- the bytes of a lookup, and its number of records
pub record Found (cs : List Call) (filter : List ℕ) (clock : ℕ) (out : List ℕ) (count : ℕ) : Type 0 where
  pub names : List Named
  pub finds : Finds cs (split filter) clock names
  pub written : out ≡ each (name_record clock) names
  pub counted : count ≡ length names

-- the bytes of a page, its number of records, and whether more follows: "Paging is the lookup of `#` at now"; "offset records are
-- skipped, at most limit given. More follows when offset + limit, as a true sum, is below the total."
pub record FoundPage (cs : List Call) (clock offset limit : ℕ) (out : List ℕ) (count : ℕ) (follows : Bool) : Type 0 where
  pub names : List Named
  pub finds : Finds cs (split (ascii "#")) clock names
  pub written : out ≡ each (name_record clock) (take limit (drop offset names))
  pub counted : count ≡ length (take limit (drop offset names))
  pub more_follows : follows ≡ ltb (offset + limit) (length names)
