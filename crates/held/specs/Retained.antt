-- TO BELIEVE. The store of retained names: what it holds, its calls, lookups and pages (document 01, 'Store rules', 'Orders and records'). Assumes nothing.
use Rattle.std.specs.Prelude.{◌≡◌, ℕ, zero, suc, ◌+◌, ◌-◌, Bool, true, false, not, cond, ◌&&◌, List, [], ◌∷◌, ◌++◌, map, ltb, leb, length, take, drop}
use Rattle.std.proofs.Math.Option.{Option, none, some}
use Rattle.lent.specs.Numbers.{bytes}
use Rattle.level.specs.Levels.{split, join}
use Rattle.topic.specs.Match.{match47}
use Rattle.topic.specs.Rules.{Rule, name_rules, filter_rules}
use Rattle.topic.specs.Answers.{checked}
use Rattle.held.specs.Order.{Filter, same_filter, filter_lt}
use Rattle.held.specs.Ascending.{member, find, keep, Asc, put}
use Rattle.held.specs.Room.{room_rules, depth_rule}
use Rattle.held.specs.History.{accepted, Kind}
use Rattle.held.specs.Bytes.{each, length_rule}

-- "one record per name: handle (u32) and a moment or none (u64 ms)", strictly ascending by the names
pub record Stored : Type 0 where
  pub handle : ℕ
  pub moment : Option ℕ

abbrev pub Named : Type 0
Named = Filter × Stored

abbrev pub AscNames : List Named → Type 0
AscNames h = Asc filter_lt (λ e. e.0) h

-- a name (in the other store, a filter) is held
unfoldable pub has_filter : {X : Type 0} → Filter → List (Filter × X) → Bool
has_filter f h = member same_filter f (map (λ e. e.0) h)

-- the record of a name
unfoldable pub stored : Filter → List Named → Option Stored
stored n h = find same_filter (λ e. e.0) (λ e. e.1) n h

unfoldable pub set_held : Filter → Stored → List Named → List Named
set_held n s h = put filter_lt (λ e. e.0) (n, s) h

unfoldable pub erase_held : Filter → List Named → List Named
erase_held n h = keep (λ e. not (same_filter n e.0)) h

-- "A record is expired when now >= moment"
abbrev pub expired : ℕ → Option ℕ → Bool
expired now none = false
expired now (some m) = leb m now

abbrev pub unexpired : ℕ → Stored → Bool
unexpired now s = not (expired now s.moment)

unfoldable pub sweep_held : ℕ → List Named → List Named
sweep_held now h = keep (λ e. unexpired now e.1) h

-- the calls: "Set takes a payload length"
pub data Call : Type 0 where
  set : (name : List ℕ) (payload : ℕ) (new : Stored) → Call
  sweep : (now : ℕ) → Call

-- the rules of a name that is to be held
abbrev pub set_rules : List ℕ → List Rule
set_rules s = name_rules s ++ depth_rule s ∷ []

abbrev pub retained : Kind Call (List Named)
-- "0 erases (3 if held, 4 if not)"
retained r (set s zero x) h =
    record { texts = name_rules s; rooms = []; answer = cond (has_filter (split s) h) 3 4; after = erase_held (split s) h }
-- "else 1 new, 2 replaced, also when the old record has expired"
retained r (set s (suc n) x) h =
    record {
      texts = set_rules s;
      rooms = room_rules r (has_filter (split s) h) (set_held (split s) x h);
      answer = cond (has_filter (split s) h) 2 1;
      after = set_held (split s) x h;
    }
-- "Sweep removes all expired and answers how many."
retained r (sweep now) h =
    record { texts = []; rooms = []; answer = length (keep (λ e. not (unexpired now e.1)) h); after = sweep_held now h }

-- the projection of a history to one name; a sweep counts for every name
abbrev pub about : Filter → Call → Bool
about n (set s p x) = same_filter n (split s)
about n (sweep now) = true

unfoldable pub calls_of : Filter → List Call → List Call
calls_of n cs = keep (about n) cs

abbrev pub SameCalls : List Call → List Call → Type 0
SameCalls cs ds = (n : Filter) → accepted (checked (set_rules (join n))) ≡ true → calls_of n cs ≡ calls_of n ds

-- the lookup of a filter at now: the names that it matches (4.7) and that have not expired, in the order of the names
unfoldable pub lookup : Filter → ℕ → List Named → List Named
lookup f now h = keep (λ e. match47 f e.0 && unexpired now e.1) h

-- "remaining ms (u64), 0 for no moment"
abbrev pub left : ℕ → Option ℕ → ℕ
left now none = 0
left now (some m) = m - now

-- "Retained record: 52 56, length, name, handle (u32), remaining ms (u64)"
unfoldable pub name_record : ℕ → Named → List ℕ
name_record now e = 0x52 ∷ 0x56 ∷ (bytes 2 (length (join e.0)) ++ (join e.0 ++ (bytes 4 e.1.handle ++ bytes 8 (left now e.1.moment))))

unfoldable pub lookup_bytes : Filter → ℕ → List Named → List ℕ
lookup_bytes f now h = each (name_record now) (lookup f now h)

-- "Paging is the lookup of `#` at now"; "offset records are skipped, at most limit given"
abbrev pub all : ℕ → List Named → List Named
all now h = lookup ((35 ∷ []) ∷ []) now h

unfoldable pub page : (offset limit now : ℕ) → List Named → List Named
page offset limit now h = take limit (drop offset (all now h))

unfoldable pub page_bytes : (offset limit now : ℕ) → List Named → List ℕ
page_bytes offset limit now h = each (name_record now) (page offset limit now h)

-- "More follows when offset + limit, as a true sum, is below the total."
unfoldable pub more : (offset limit now : ℕ) → List Named → Bool
more offset limit now h = ltb (offset + limit) (length (all now h))

-- what a lookup and a page into a buffer are refused for: "1 to 9, .. then 16"
abbrev pub lookup_rules : (filter : List ℕ) (now buffer : ℕ) → List Named → List Rule
lookup_rules s now buffer h = filter_rules s ++ length_rule buffer (lookup_bytes (split s) now h) ∷ []

abbrev pub page_rules : (offset limit now buffer : ℕ) → List Named → List Rule
page_rules offset limit now buffer h = length_rule buffer (page_bytes offset limit now h) ∷ []
