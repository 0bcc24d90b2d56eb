-- TO BELIEVE. The calls that ask a store of retained names: the lookup of a filter, and a page of all names. `lookup`, `page` and
-- `more` of `held` say which names these are. Assumes nothing.
use Rattle.std.specs.Prelude.{Err, Ok, Result, ⊤}
use Rattle.refusal.specs.declared.Refusal.{Refusal}
use Rattle.retain.specs.declared.Page.{Page}
use Rattle.std.specs.Prelude.{ℕ, Bool, List, length}
use Rattle.level.specs.Levels.{split}
use Rattle.held.specs.Retained.{lookup, lookup_bytes, lookup_rules, page, page_bytes, page_rules, more}
use Rattle.region.specs.Store.{RetainedStore}
use Rattle.edit.specs.declared.Listed.{Listed}
use Rattle.edit.specs.Given.{listed, listed_by, given_bytes, enough_room, GivesKnown, Gives}
use Rattle.retain.specs.Calls.{held_in}

-- the lookup of a filter at a time, into a buffer
abbrev pub LooksKnown : (s filter : List ℕ) (clock : ℕ) (before after : List ℕ) → Result Listed Refusal → Type 0
LooksKnown s filter clock before after r =
    GivesKnown (RetainedStore s) (lookup_rules filter clock (length before) (held_in s))
    (listed_by (lookup_bytes (split filter) clock (held_in s)) (length (lookup (split filter) clock (held_in s))))
    (lookup_bytes (split filter) clock (held_in s)) before after r

abbrev pub Looks : (s filter : List ℕ) (clock : ℕ) (before after : List ℕ) → Result Listed Refusal → Type 0
Looks s filter clock before after r =
    Gives (RetainedStore s) (lookup_rules filter clock (length before) (held_in s))
    (listed_by (lookup_bytes (split filter) clock (held_in s)) (length (lookup (split filter) clock (held_in s))))
    (lookup_bytes (split filter) clock (held_in s)) before after r

-- "A listing answers its bytes and records, a page also whether more follows."
abbrev pub paged : (bytes records : ℕ) (follows : Bool) → Result Page Refusal
paged bytes records follows = Ok (record { bytes = bytes; records = records; more = follows })

abbrev pub paged_by : (out : List ℕ) (records : ℕ) (follows : Bool) → Result ⊤ Refusal → Result Page Refusal
paged_by out records follows (Ok _) = paged (length out) records follows
paged_by out records follows (Err r) = Err r

-- the bytes that a page gave, and whether its buffer had enough room, as `given_bytes` and `enough_room` of `edit` say it of a listing
abbrev pub page_bytes_given : Result Page Refusal → (after : List ℕ) → List ℕ
page_bytes_given (Ok p) after = given_bytes (listed p.bytes p.records) after
page_bytes_given (Err r) after = given_bytes (Err r) after

abbrev pub page_enough_room : Result Page Refusal → Bool
page_enough_room (Ok p) = enough_room (listed p.bytes p.records)
page_enough_room (Err r) = enough_room (Err r)

abbrev pub page_answer : (s : List ℕ) (clock offset limit : ℕ) → Result ⊤ Refusal → Result Page Refusal
page_answer s clock offset limit = paged_by (page_bytes offset limit clock (held_in s)) (length (page offset limit clock (held_in s))) (more offset limit clock (held_in s))

-- a page at a time, into a buffer
abbrev pub PagesKnown : (s : List ℕ) (clock offset limit : ℕ) (before after : List ℕ) → Result Page Refusal → Type 0
PagesKnown s clock offset limit before after r =
    GivesKnown (RetainedStore s) (page_rules offset limit clock (length before) (held_in s)) (page_answer s clock offset limit) (page_bytes offset limit clock (held_in s)) before after r

abbrev pub Pages : (s : List ℕ) (clock offset limit : ℕ) (before after : List ℕ) → Result Page Refusal → Type 0
Pages s clock offset limit before after r =
    Gives (RetainedStore s) (page_rules offset limit clock (length before) (held_in s)) (page_answer s clock offset limit) (page_bytes offset limit clock (held_in s)) before after r
