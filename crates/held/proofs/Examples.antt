-- The examples of document 01 for the stores, computed. Assumes nothing.
use Rattle.std.specs.Prelude.{Err, Ok}
use mathlib.Core.Path.{◌≡◌, refl}
use Prim.Native.Nat.{ℕ}
use mathlib.Core.Bool.{true, false}
use mathlib.Core.List.{List, [], ◌∷◌, ◌++◌, map}
use mathlib.Core.Option.{none, some}
use Prim.Native.String.{String}
use lib.ListN.{length, replicate}
use Rattle.lent.specs.Numbers.{bytes}
use Rattle.level.specs.Levels.{split}
use Rattle.refusal.specs.declared.Refusal.TheVariants.{HasWildcard, BadLevel, TooDeep, NodesFull, PairsFull, TextFull, ShortRoom}
use Rattle.topic.specs.Answers.{checked}
use Rattle.topic.specs.Rules.{ascii}
use Rattle.held.specs.Order.{Filter, filter_lt}
use Rattle.held.specs.Ascending.{sort}
use Rattle.held.specs.Room.{all_leads, nodes_of, node_count, cell_count, Room, in_range, room_rules, depth_rule}
use Rattle.held.specs.History.{verdict, Outcome, answered, refused, outcome, result, Kind, run, has_room}
use Rattle.held.specs.Subscriptions.{Pair, is_held, insert_held, remove_held, insert, remove, subscriptions, values_of, listing, listing_record, listing_bytes, listing_rules}
use Rattle.held.specs.Retained.{Stored, Named, has_filter, set_held, erase_held, sweep_held, set, sweep, retained, lookup, name_record, lookup_bytes, page, page_bytes, more, lookup_rules, page_rules}

-- a filter or name by its text
abbrev levels : String → Filter
levels s = split (ascii s)

abbrev room : ℕ → ℕ → ℕ → Room
room n p c = record { nodes = n; pairs = p; cells = c }

-- what each call of a history tells
abbrev outcomes : {C H : Type 0} → Kind C H → Room → List C → H → List Outcome
outcomes k r [] h = []
outcomes k r (c ∷ cs) h = outcome (k r c h) ∷ outcomes k r cs (result (k r c h) h)

-- "So `a`, `a/b`, `a!`.", and then `b`. A sort by whole bytes would put `a!` before `a/b`.
storage_order : sort filter_lt (λ f. f) (levels "b" ∷ levels "a!" ∷ levels "a/b" ∷ levels "a" ∷ []) ≡ levels "a" ∷ levels "a/b" ∷ levels "a!" ∷ levels "b" ∷ []
storage_order = refl

-- "`#` with value 5 is `46 4D 00 01 23 00 01 00 00 00 05`."
record-hash : listing_bytes (levels "a") ((levels "#", 5) ∷ []) ≡ 0x46 ∷ 0x4D ∷ 0x00 ∷ 0x01 ∷ 0x23 ∷ 0x00 ∷ 0x01 ∷ 0x00 ∷ 0x00 ∷ 0x00 ∷ 0x05 ∷ []
unfolding listing_bytes listing values_of listing_record bytes
record-hash = refl

-- the program `lesson`: its five insertions, and what it lists for `a/b`, `a` and `$SYS/a`; `a/#` once for `a`
lesson : List Pair
lesson = run subscriptions (room 512 512 512) (insert (ascii "a/#") 7 ∷ insert (ascii "a/+") 3 ∷ insert (ascii "a/+") 2 ∷ insert (ascii "a") 9 ∷ insert (ascii "#") 5 ∷ []) []

lesson_lists : map (λ n. listing (levels n) lesson) ("a/b" ∷ "a" ∷ "$SYS/a" ∷ [])
    ≡ ((levels "#", 5 ∷ []) ∷ (levels "a/#", 7 ∷ []) ∷ (levels "a/+", 2 ∷ 3 ∷ []) ∷ [])
    ∷ ((levels "#", 5 ∷ []) ∷ (levels "a", 9 ∷ []) ∷ (levels "a/#", 7 ∷ []) ∷ [])
    ∷ []
    ∷ []
unfolding lesson listing values_of result verdict is_held insert_held depth_rule room_rules node_count nodes_of all_leads cell_count
lesson_lists = refl

-- "16 bytes are 1 cell, 17 are 2"; blank, `+` and `#` take none; a level counts once below one parent, and again below another
cells : map (λ h. cell_count {X = ℕ} h) (((replicate 16 97 ∷ [], 1) ∷ []) ∷ ((replicate 17 97 ∷ [], 1) ∷ []) ∷ ((levels "/+/#", 1) ∷ []) ∷ ((levels "a/b", 1) ∷ (levels "a/c", 1) ∷ (levels "b", 1) ∷ []) ∷ [])
    ≡ 1 ∷ 2 ∷ 0 ∷ 4 ∷ []
unfolding cell_count nodes_of all_leads
cells = refl

-- "With N = 2: `a/b`, `a` accepted, `c` 13; `a/b` removed, `c` accepted."
freed_room : outcomes subscriptions (room 2 512 512) (insert (ascii "a/b") 1 ∷ insert (ascii "a") 1 ∷ insert (ascii "c") 1 ∷ remove (ascii "a/b") 1 ∷ insert (ascii "c") 1 ∷ []) []
    ≡ answered 1 ∷ answered 1 ∷ refused NodesFull ∷ answered 1 ∷ answered 1 ∷ []
unfolding outcome result verdict is_held insert_held remove_held depth_rule room_rules node_count nodes_of all_leads cell_count
freed_room = refl

-- a held pair is never refused, in a full store too; a bad text is refused before the room is looked at; 17 bytes do not fit 1 cell
full_store : outcomes subscriptions (room 1 1 1) (insert (replicate 17 97) 1 ∷ insert (ascii "a") 1 ∷ insert (ascii "a") 1 ∷ insert (ascii "a") 2 ∷ insert (ascii "b+") 1 ∷ remove (ascii "b") 1 ∷ []) []
    ≡ refused TextFull ∷ answered 1 ∷ answered 0 ∷ refused PairsFull ∷ refused (BadLevel 0) ∷ answered 0 ∷ []
unfolding outcome result verdict is_held insert_held remove_held depth_rule room_rules node_count nodes_of all_leads cell_count
full_store = refl

-- "128 levels pass, 129 give 12."
depths : map (λ n. checked (depth_rule (replicate n 47) ∷ [])) (127 ∷ 128 ∷ []) ≡ Ok tt ∷ Err TooDeep ∷ []
unfolding depth_rule
depths = refl

-- an insert of 129 levels is refused, and not for room: what a run with it leaves held is settled all the same
deep-has_room : has_room subscriptions (room 2 2 2) (insert (replicate 128 47) 1 ∷ []) [] ≡ true
unfolding verdict depth_rule
deep-has_room = refl

-- "Moment 1000: at 999 listed with 1 left, at 1000 not listed, count still 1."; "0 for no moment"
timed : List Named
timed = (levels "a", record { handle = 7; moment = some 1000 }) ∷ []

moments : (lookup_bytes (levels "#") 999 timed ≡ 0x52 ∷ 0x56 ∷ 0 ∷ 1 ∷ 97 ∷ 0 ∷ 0 ∷ 0 ∷ 7 ∷ 0 ∷ 0 ∷ 0 ∷ 0 ∷ 0 ∷ 0 ∷ 0 ∷ 1 ∷ [])
    × (lookup_bytes (levels "#") 1000 timed ≡ []) × (length timed ≡ 1)
    × (lookup_bytes (levels "+") 9 ((levels "b", record { handle = 8; moment = none }) ∷ []) ≡ 0x52 ∷ 0x56 ∷ 0 ∷ 1 ∷ 98 ∷ 0 ∷ 0 ∷ 0 ∷ 8 ∷ 0 ∷ 0 ∷ 0 ∷ 0 ∷ 0 ∷ 0 ∷ 0 ∷ 0 ∷ [])
unfolding timed lookup_bytes lookup name_record bytes
moments = (refl, refl, refl, refl)

-- set: "0 erases (3 if held, 4 if not), else 1 new, 2 replaced, also when the old record has expired"; a sweep "answers how many"
sets : let timed : Stored = record { handle = 7; moment = some 1000 } in let lasting : Stored = record { handle = 8; moment = none } in
    outcomes retained (room 2 512 512) (set (ascii "a") 5 timed ∷ set (ascii "b") 5 timed ∷ set (ascii "c") 5 lasting ∷ set (ascii "a") 5 lasting ∷ sweep 1000 ∷ set (ascii "b") 0 lasting ∷ set (ascii "a") 0 lasting ∷ []) []
    ≡ answered 1 ∷ answered 1 ∷ refused NodesFull ∷ answered 2 ∷ answered 1 ∷ answered 4 ∷ answered 3 ∷ []
unfolding outcome result verdict has_filter set_held erase_held sweep_held depth_rule room_rules node_count nodes_of all_leads cell_count
sets = refl

-- paging leaves out names with a leading `$`; "offset records are skipped, at most limit given"
paging : let lasting : Stored = record { handle = 8; moment = none } in let h : List Named = (levels "$SYS", lasting) ∷ (levels "a", lasting) ∷ (levels "b", lasting) ∷ (levels "c", lasting) ∷ [] in
    (page 1 1 0 h ≡ (levels "b", lasting) ∷ []) × (more 1 1 0 h ≡ true) × (more 1 2 0 h ≡ false)
unfolding page more lookup
paging = (refl, refl, refl)

-- "16 exactly when the output buffer is shorter than the listing or page", with the bytes needed; the name's fault comes first
short_room : let h : List Pair = (levels "#", 5) ∷ [] in
    map (λ b. checked (listing_rules (ascii "a") b h)) (11 ∷ 10 ∷ []) ++ checked (listing_rules (ascii "+") 10 h) ∷ checked (lookup_rules (ascii "#") 0 16 timed) ∷ checked (page_rules 1 1 0 0 timed) ∷ map (λ b. checked (page_rules 0 1 0 b timed)) (17 ∷ 16 ∷ [])
    ≡ Ok tt ∷ Err (ShortRoom 11) ∷ Err HasWildcard ∷ Err (ShortRoom 17) ∷ (Ok tt) ∷ (Ok tt) ∷ Err (ShortRoom 17) ∷ []
unfolding timed listing_bytes listing values_of listing_record lookup_bytes page_bytes page lookup name_record bytes
short_room = refl

-- "nodes N 1 to 4,096, pairs P 1 to 8,192, text cells C 1 to 8,192"
capacities : map in_range (room 1 1 1 ∷ room 4096 8192 8192 ∷ room 0 1 1 ∷ room 1 0 1 ∷ room 1 1 0 ∷ room 4097 1 1 ∷ room 1 8193 1 ∷ room 1 1 8193 ∷ [])
    ≡ true ∷ true ∷ false ∷ false ∷ false ∷ false ∷ false ∷ false ∷ []
capacities = refl
