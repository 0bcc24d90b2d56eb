-- TO BELIEVE. The course's question, asked of a history of calls: which subscriptions catch a name, and why? Those whose last call
-- with an accepted text is an insert, and whose filter takes the name by MQTT 4.7. Assumes nothing.
use Rattle.std.specs.Prelude.{◌≡◌, ℕ, Bool, true, false, cond, ◌&&◌, List, [], eqb, length}
use Rattle.level.specs.Levels.{split}
use Rattle.topic.specs.Rules.{filter_rules}
use Rattle.topic.specs.Answers.{checked}
use Rattle.topic.specs.Match.{match47}
use Rattle.held.specs.Order.{Filter, same_filter, listing_lt}
use Rattle.held.specs.Ascending.{any, All, Asc}
use Rattle.held.specs.Bytes.{each}
use Rattle.held.specs.History.{accepted, in_turn}
use Rattle.held.specs.Forest.{AscValues}
use Rattle.held.specs.Subscriptions.{Pair, Call, insert, remove, insert_rules, calls_of, listing_record}

-- whether a pair is there after a call about it, and before it: a call whose text is refused says nothing
abbrev pub said : Call → Bool → Bool
said (insert s v) before = cond (accepted (checked (insert_rules s))) true before
said (remove s v) before = cond (accepted (checked (filter_rules s))) false before

-- by its own calls, in their order, from an empty store
abbrev pub subscribed : Pair → List Call → Bool
subscribed p cs = in_turn said (calls_of p cs) false

-- a pair is among the records of a listing
abbrev pub is_listed : Pair → List (Filter × List ℕ) → Bool
is_listed p rs = any (λ r. same_filter p.0 r.0 && any (eqb p.1) r.1) rs

-- the bytes of a listing for a name after these calls, and its number of records: exactly the matches of what is held, once each, in document 01's order (demand 3)
pub record Caught (cs : List Call) (name out : List ℕ) (count : ℕ) : Type 0 where
  pub records : List (Filter × List ℕ)
  pub written : out ≡ each listing_record records
  pub counted : count ≡ length records
  pub exactly : (p : Pair) → is_listed p records ≡ (subscribed p cs && match47 p.0 (split name))
  pub in_order : Asc listing_lt (λ r. r.0) records
  pub some_value : All (λ r. r.1 ≡ [] → ⊥) records
  pub values_ascend : All (λ r. AscValues r.1) records
