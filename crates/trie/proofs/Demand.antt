-- Demand 3 for subscriptions, about the calls of this crate, which may test the region or not: what a listing gives after a run, and
-- that two runs on opened regions, with the same calls for each pair in the same order and none refused for room, give the same
-- listings, byte for byte. `Runs` of `edit` is a run: each of its steps is what `insert` or `remove` does on a store. Assumes nothing.
use Rattle.std.specs.Prelude.{Result}
use Rattle.refusal.specs.declared.Refusal.{Refusal}
use mathlib.Core.Path.{◌≡◌, sym, ap, ◌∙◌}
use Prim.Native.Nat.{ℕ, ◌≤◌}
use mathlib.Core.Bool.{true}
use mathlib.Core.List.{List}
use lib.ListN.{length}
use Rattle.lent.specs.Parts.{part, patch}
use Rattle.level.specs.Levels.{split}
use Rattle.topic.specs.Rules.{name_rules}
use Rattle.held.specs.Room.{Room, in_range}
use Rattle.held.specs.Subscriptions.{AscPairs, Call, SameCalls, listing, listing_bytes}
use Rattle.held.specs.Caught.{Caught}
use Rattle.held.specs.Forest.{held}
use Rattle.held.proofs.Forests.{well_pairs}
use Rattle.held.proofs.Histories.{same-held}
use Rattle.held.proofs.CaughtLaws.{history_caught}
use Rattle.region.specs.Layout.{needed_bytes, header_bytes}
use Rattle.region.specs.Opening.{nothing}
use Rattle.region.specs.Units.{value_of}
use Rattle.region.specs.Store.{room_at, forest_at, SubscriptionStore}
use Rattle.region.proofs.Stores.{opened_forest, opened-subscriptions}
use Rattle.edit.specs.Runs.{Runs, Empty}
use Rattle.edit.specs.Given.{given_bytes, enough_room}
use Rattle.edit.proofs.RunLaws.{from_empty}
use Rattle.edit.proofs.GiveLaws.{given_front, same_listed}
use Rattle.edit.specs.declared.Listed.{Listed}
use Rattle.edit.specs.Given.{listed}
use Rattle.trie.specs.Calls.{held_in, subscription_store}
use Rattle.trie.specs.Listings.{ListsKnown}

-- "The store holds a set of pairs": what a store holds strictly ascends
pub held-set : {s : List ℕ} → SubscriptionStore s → AscPairs (held_in s)
held-set {s} st = well_pairs (forest_at value_of s) st.well

-- which pairs a listing has after a run: exactly those that the calls left subscribed and whose filter takes the name
pub runs_caught : {cs : List Call} {s t : List ℕ} → Empty subscription_store s → Runs subscription_store cs s t
    → (name before : List ℕ) {after : List ℕ} {bytes records : ℕ} → ListsKnown t name before after (listed bytes records) → Caught cs name (part 0 bytes after) records
runs_caught {cs} {s} {t} a x name before {after} {bytes} {records} l =
    let f = from_empty subscription_store a x in
    let z = given_front (name_rules name) (listing_bytes (split name) (held_in t)) (length (listing (split name) (held_in t))) before after l f.2 in
    rw (z.0, z.1, f.1) (history_caught (room_at s) cs f.0 name)

module _ {cs ds : List Call} {s t u v : List ℕ} (a : Empty subscription_store s) (b : Empty subscription_store u) (x : Runs subscription_store cs s t) (y : Runs subscription_store ds u v) (same : SameCalls cs ds) where
  -- after two runs the same pairs are held
  pub runs_hold : held_in t ≡ held_in v
  runs_hold =
      let f = from_empty subscription_store a x in
      let g = from_empty subscription_store b y in
      f.1 ∙ same-held (room_at s) (room_at u) cs ds f.0 g.0 same ∙ sym g.1

  -- and a listing gives the same, into buffers of any lengths that both have enough room, or both have not
  pub runs_list : (name : List ℕ) {before before' after after' : List ℕ} {r q : Result Listed Refusal} → ListsKnown t name before after r → ListsKnown v name before' after' q
      → enough_room r ≡ enough_room q → (r ≡ q) × (given_bytes r after ≡ given_bytes q after')
  runs_list name k l e =
      same_listed (name_rules name) (listing_bytes (split name) (held_in v)) (length (listing (split name) (held_in v))) (from_empty subscription_store a x).2 (from_empty subscription_store b y).2
      (rw runs_hold at k) l e

-- a region that is opened is a store that holds nothing
pub opened_empty : (r : Room) (s : List ℕ) → in_range r ≡ true → needed_bytes r ≤ length s → Empty subscription_store (patch 0 (header_bytes 1 r nothing) s)
unfolding held
opened_empty r s i l = record { store = opened-subscriptions r s i l; nothing = ap held (opened_forest 1 r s i l value_of) }
