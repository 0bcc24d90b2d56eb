-- Demand 3 for retained names, about the calls of this crate, which may test the region or not: what a lookup and a page give after a
-- run, and that two runs on opened regions, with the same calls for each name in the same order (a sweep counts for every name)
-- and none refused for room, give the same lookups and pages, byte for byte. `Runs` of `edit` is a run: each of its steps is what
-- `set` or `remove_expired` does on a store. Assumes nothing.
use Rattle.std.specs.Prelude.{Err, Ok, Result, ⊤}
use Rattle.refusal.specs.declared.Refusal.{Refusal}
use Rattle.retain.specs.declared.Page.{Page}
use mathlib.Core.Path.{◌≡◌, refl, sym, ap, ◌∙◌}
use Prim.Native.Nat.{ℕ, ◌≤◌}
use mathlib.Core.Bool.{Bool, true}
use mathlib.Core.List.{List, []}
use lib.ListN.{length}
use Rattle.lent.specs.Parts.{part, patch}
use Rattle.level.specs.Levels.{split}
use Rattle.topic.specs.Rules.{filter_rules}
use Rattle.topic.specs.Answers.{checked}
use Rattle.held.specs.Room.{Room, in_range}
use Rattle.held.specs.Retained.{AscNames, Call, SameCalls, lookup, lookup_bytes, page, page_bytes, page_rules, more}
use Rattle.held.specs.Found.{Found, FoundPage}
use Rattle.held.specs.Forest.{held}
use Rattle.held.proofs.Histories.{same_names}
use Rattle.held.proofs.Names.{well_names}
use Rattle.held.proofs.FoundLaws.{history_found, history-page}
use Rattle.region.specs.Layout.{needed_bytes, header_bytes}
use Rattle.region.specs.Opening.{nothing}
use Rattle.region.specs.Units.{stored_of}
use Rattle.region.specs.Store.{room_at, forest_at, RetainedStore}
use Rattle.region.proofs.Stores.{opened_forest, opened-retained}
use Rattle.edit.specs.Runs.{Runs, Empty}
use Rattle.edit.specs.Given.{given_bytes, enough_room}
use Rattle.edit.specs.declared.Listed.{Listed}
use Rattle.edit.specs.Given.{listed}
use Rattle.edit.proofs.RunLaws.{from_empty}
use Rattle.edit.proofs.GiveLaws.{written_front, given_front, same_given, same_listed}
use Rattle.retain.specs.Lookups.{paged}
use Rattle.retain.specs.Calls.{held_in, retained_store}
use Rattle.retain.specs.Lookups.{LooksKnown, paged_by, page_bytes_given, page_enough_room, PagesKnown}

-- a page that was given: no rule was broken, and these are its bytes, its records and whether more follows
page_only : (out : List ℕ) (count : ℕ) (follows : Bool) (c : Result ⊤ Refusal) {bytes records : ℕ} {m : Bool} → paged bytes records m ≡ paged_by out count follows c
    → (c ≡ Ok tt) × (bytes ≡ length out) × (records ≡ count) × (m ≡ follows)
page_only out count follows (Ok _) e = (refl, first e, second e, third e)
  where
    same : {p q : Page} → ◌≡◌ {A = Result Page Refusal} (Ok p) (Ok q) → p ≡ q
    same e = cc

    first : {a b n k : ℕ} {x y : Bool} → paged a n x ≡ paged b k y → a ≡ b
    first e = ap (λ (p : Page). p.bytes) (same e)

    second : {a b n k : ℕ} {x y : Bool} → paged a n x ≡ paged b k y → n ≡ k
    second e = ap (λ (p : Page). p.records) (same e)

    third : {a b n k : ℕ} {x y : Bool} → paged a n x ≡ paged b k y → x ≡ y
    third e = ap (λ (p : Page). p.more) (same e)
page_only out count follows (Err r) e = (cc, cc, cc, cc)

-- "one record per name": what a store holds strictly ascends by its names
pub held_names : {s : List ℕ} → RetainedStore s → AscNames (held_in s)
held_names {s} st = well_names (forest_at stored_of s) st.well

-- which names a lookup and a page have after a run: exactly those that the calls left held, that have not expired, and that the
-- filter takes
module _ {cs : List Call} {s t : List ℕ} (a : Empty retained_store s) (x : Runs retained_store cs s t) where
  pub runs_found : (filter : List ℕ) (clock : ℕ) (before : List ℕ) {after : List ℕ} {bytes records : ℕ} → LooksKnown t filter clock before after (listed bytes records)
      → Found cs filter clock (part 0 bytes after) records
  runs_found filter clock before {after} l =
      let f = from_empty retained_store a x in
      let z = given_front (filter_rules filter) (lookup_bytes (split filter) clock (held_in t)) (length (lookup (split filter) clock (held_in t))) before after l f.2 in
      rw (z.0, z.1, f.1) (history_found (room_at s) cs f.0 filter clock)

  pub runs-paged : (clock offset limit : ℕ) (before : List ℕ) {after : List ℕ} {bytes records : ℕ} {follows : Bool} → PagesKnown t clock offset limit before after (paged bytes records follows)
      → FoundPage cs clock offset limit (part 0 bytes after) records follows
  runs-paged clock offset limit before {after} {bytes} {records} {follows} l =
      let f = from_empty retained_store a x in
      let out : List ℕ = page_bytes offset limit clock (held_in t) in
      let g = page_only out (length (page offset limit clock (held_in t))) (more offset limit clock (held_in t)) (checked (page_rules offset limit clock (length before) (held_in t))) (l.told f.2) in
      let z : part 0 bytes after ≡ out = rw g.1 (written_front [] out before g.0 (l.given f.2)) in
      rw (z, g.2, g.3, f.1) (history-page (room_at s) cs f.0 clock offset limit)

module _ {cs ds : List Call} {s t u v : List ℕ} (a : Empty retained_store s) (b : Empty retained_store u) (x : Runs retained_store cs s t) (y : Runs retained_store ds u v) (same : SameCalls cs ds) where
  -- after two runs the same names are held, with the same records
  pub runs_hold : held_in t ≡ held_in v
  runs_hold =
      let f = from_empty retained_store a x in
      let g = from_empty retained_store b y in
      f.1 ∙ same_names (room_at s) (room_at u) cs ds f.0 g.0 same ∙ sym g.1

  -- and a lookup and a page give the same, into buffers of any lengths that both have enough room, or both have not
  pub runs-look : (filter : List ℕ) (clock : ℕ) {before before' after after' : List ℕ} {r q : Result Listed Refusal} → LooksKnown t filter clock before after r → LooksKnown v filter clock before' after' q
      → enough_room r ≡ enough_room q → (r ≡ q) × (given_bytes r after ≡ given_bytes q after')
  runs-look filter clock k l e =
      same_listed (filter_rules filter) (lookup_bytes (split filter) clock (held_in v)) (length (lookup (split filter) clock (held_in v))) (from_empty retained_store a x).2 (from_empty retained_store b y).2
      (rw runs_hold at k) l e

  pub runs-page : (clock offset limit : ℕ) {before before' after after' : List ℕ} {r q : Result Page Refusal} → PagesKnown t clock offset limit before after r → PagesKnown v clock offset limit before' after' q
      → page_enough_room r ≡ page_enough_room q → (r ≡ q) × (page_bytes_given r after ≡ page_bytes_given q after')
  runs-page clock offset limit k l e =
      same_given [] (paged_by (page_bytes offset limit clock (held_in v)) (length (page offset limit clock (held_in v))) (more offset limit clock (held_in v))) (page_bytes offset limit clock (held_in v))
      (from_empty retained_store a x).2 (from_empty retained_store b y).2 page_enough_room page_bytes_given refl refl (λ _. refl) (λ _ _. refl) (rw runs_hold at k) l e

-- a region that is opened is a store that holds nothing
pub opened_empty : (r : Room) (s : List ℕ) → in_range r ≡ true → needed_bytes r ≤ length s → Empty retained_store (patch 0 (header_bytes 2 r nothing) s)
unfolding held
opened_empty r s i l = record { store = opened-retained r s i l; nothing = ap held (opened_forest 2 r s i l stored_of) }
