-- TO BELIEVE. The store of subscriptions: what it holds, its calls, and the listing for a name (document 01, 'Store rules', 'Orders and records'). Assumes nothing.
use Rattle.std.specs.Prelude.{◌≡◌, ℕ, Bool, true, not, cond, List, [], ◌∷◌, ◌++◌, map, length}
use Rattle.lent.specs.Numbers.{bytes}
use Rattle.level.specs.Levels.{split, join}
use Rattle.topic.specs.Match.{match47}
use Rattle.topic.specs.Rules.{Rule, name_rules, filter_rules}
use Rattle.topic.specs.Answers.{checked}
use Rattle.held.specs.Order.{Filter, same_filter, same_pair, pair_lt, listing_lt}
use Rattle.held.specs.Ascending.{any, member, keep, Asc, put, sort}
use Rattle.held.specs.Room.{room_rules, depth_rule}
use Rattle.held.specs.History.{accepted, Kind}
use Rattle.held.specs.Bytes.{each, length_rule}

-- "The store holds a set of pairs: a filter and a value (u32)": the set as the one strictly ascending list of it
abbrev pub Pair : Type 0
Pair = Filter × ℕ

abbrev pub AscPairs : List Pair → Type 0
AscPairs h = Asc pair_lt (λ p. p) h

unfoldable pub is_held : Pair → List Pair → Bool
is_held p h = member same_pair p h

unfoldable pub insert_held : Pair → List Pair → List Pair
insert_held p h = put pair_lt (λ q. q) p h

unfoldable pub remove_held : Pair → List Pair → List Pair
remove_held p h = keep (λ q. not (same_pair p q)) h

-- the calls, with the filter's text
pub data Call : Type 0 where
  insert : (filter : List ℕ) (value : ℕ) → Call
  remove : (filter : List ℕ) (value : ℕ) → Call

-- the rules of a text that is to be held
abbrev pub insert_rules : List ℕ → List Rule
insert_rules s = filter_rules s ++ depth_rule s ∷ []

abbrev pub subscriptions : Kind Call (List Pair)
-- "Insert answers 1 if new, 0 if held already."
subscriptions r (insert s v) h =
    record {
      texts = insert_rules s;
      rooms = room_rules r (is_held (split s, v) h) (insert_held (split s, v) h);
      answer = cond (is_held (split s, v) h) 0 1;
      after = insert_held (split s, v) h;
    }
-- "Remove answers 1 if it was held, else 0."; "12 to 15 are given only by insert and by set with a payload"
subscriptions r (remove s v) h =
    record { texts = filter_rules s; rooms = []; answer = cond (is_held (split s, v) h) 1 0; after = remove_held (split s, v) h }

-- the projection of a history to one pair: the calls about it, in order
abbrev pub pair_of : Call → Pair
pair_of (insert s v) = (split s, v)
pair_of (remove s v) = (split s, v)

unfoldable pub calls_of : Pair → List Call → List Call
calls_of p cs = keep (λ c. same_pair p (pair_of c)) cs

-- "the same calls, each pair's in the same order": for the pairs that can be held, since of others nothing ever is
abbrev pub SameCalls : List Call → List Call → Type 0
SameCalls cs ds = (p : Pair) → accepted (checked (insert_rules (join p.0))) ≡ true → calls_of p cs ≡ calls_of p ds

-- the values of a filter, ascending as they are held
unfoldable pub values_of : {X : Type 0} → Filter → List (Filter × X) → List X
values_of f h = map (λ p. p.1) (keep (λ p. same_filter f p.0) h)

-- the listing for a name: the held filters that match it (4.7), each once with its values, in the listing's order
unfoldable pub listing : {X : Type 0} → Filter → List (Filter × X) → List (Filter × List X)
listing n h = sort listing_lt (λ r. r.0) (keep (λ r. match47 r.0 n) (map (λ p. (p.0, values_of p.0 h)) h))

-- whether some held filter matches
unfoldable pub is_match : {X : Type 0} → Filter → List (Filter × X) → Bool
is_match n h = any (λ p. match47 p.0 n) h

-- "Listing record: bytes 46 4D, length (u16), filter, number of values (u16), values (u32 each)."
unfoldable pub listing_record : Filter × List ℕ → List ℕ
listing_record r = 0x46 ∷ 0x4D ∷ (bytes 2 (length (join r.0)) ++ (join r.0 ++ (bytes 2 (length r.1) ++ each (bytes 4) r.1)))

unfoldable pub listing_bytes : Filter → List Pair → List ℕ
listing_bytes n h = each listing_record (listing n h)

-- what a listing into a buffer is refused for: "1 to 9, .. then 16"
abbrev pub listing_rules : (name : List ℕ) (buffer : ℕ) → List Pair → List Rule
listing_rules s buffer h = name_rules s ++ length_rule buffer (listing_bytes (split s) h) ∷ []
