-- The two stores agree, by what their calls promise, on any two stores and after any two runs. Assumes nothing.
use mathlib.Core.Path.{◌≡◌, ap, ◌∙◌}
use Prim.Native.Nat.{ℕ}
use mathlib.Core.Bool.{true}
use mathlib.Core.List.{List, []}
use lib.ListN.{length}
use Rattle.level.specs.Levels.{split}
use Rattle.topic.specs.Rules.{name_rules, filter_rules}
use mathlib.Core.Option.{Option, some}
use Rattle.held.specs.Order.{Filter}
use Rattle.held.specs.Ascending.{passed}
use Rattle.held.specs.History.{run}
use Rattle.held.specs.Retained.{Stored, Named, retained, Call as Change, unexpired, has_filter, stored, sweep_held, lookup, lookup_bytes}
use Rattle.held.specs.Found.{retained_for}
use Rattle.held.specs.Caught.{subscribed}
use Rattle.held.specs.Subscriptions.{Call, is_held, listing, listing_bytes}
use Rattle.held.proofs.Names.{well_names}
use Rattle.held.proofs.Stores.{is_some}
use Rattle.held.proofs.HeldLaws.{stored_sweep, has-stored, pair-filter, stores_agree}
use Rattle.held.proofs.Histories.{history-held, run_names, history-stored}
use Rattle.region.specs.Units.{stored_of}
use Rattle.region.specs.Store.{room_at, forest_at, RetainedStore, SubscriptionStore}
use Rattle.edit.specs.Given.{listed}
use Rattle.edit.specs.Runs.{Runs, Empty}
use Rattle.edit.proofs.RunLaws.{from_empty}
use Rattle.edit.proofs.GiveLaws.{given_front}
use Rattle.trie.specs.Calls.{held_in, subscription_store}
use Rattle.trie.specs.Listings.{ListsKnown}
use Rattle.retain.specs.Calls.{held_in as namesIn, retained_store}
use Rattle.retain.specs.Lookups.{LooksKnown}
use Rattle.agree.specs.Agree.{Agree}
use Rattle.held.proofs.Bounds.{listing_sized, lookup_sized}
use Rattle.agree.proofs.SizedLaws.{names_fit, pairs_fit, pairs_few}

-- the theorem between the stores, where the calls may test their regions or not
module _ (s u name filter : List ℕ) (clock : ℕ) (retained : RetainedStore s) (subscribed : SubscriptionStore u)
    (unexpired : has_filter (split name) (sweep_held clock (namesIn s)) ≡ true) (held : has_filter (split filter) (held_in u) ≡ true)
    (before after before' after' : List ℕ) where
  pub calls_agree : {bytes records bytes' records' : ℕ} → LooksKnown s filter clock before after (listed bytes records) → ListsKnown u name before' after' (listed bytes' records')
      → Agree name filter clock after bytes after' bytes'
  unfolding lookup_bytes listing_bytes
  calls_agree a b =
      record {
        names = lookup (split filter) clock (namesIn s);
        names_fit = lookup_sized (split filter) clock (namesIn s) (names_fit s retained);
        names_written = (given_front (filter_rules filter) (lookup_bytes (split filter) clock (namesIn s)) (length (lookup (split filter) clock (namesIn s))) before after a retained).0;
        filters = listing (split name) (held_in u);
        filters_fit = listing_sized (held_in u) (pairs_fit u subscribed) (pairs_few u subscribed) (split name);
        filters_written = (given_front (name_rules name) (listing_bytes (split name) (held_in u)) (length (listing (split name) (held_in u))) before' after' b subscribed).0;
        exactly = stores_agree (split name) (split filter) clock (namesIn s) (held_in u) (well_names (forest_at stored_of s) retained.well) unexpired held;
      }

-- after runs: a name that the calls left held and that has not expired, and a filter that the calls left subscribed
module _ {cs : List Change} {ds : List Call} {s t u v : List ℕ} (a : Empty retained_store s) (b : Empty subscription_store u) (x : Runs retained_store cs s t) (y : Runs subscription_store ds u v) where
  left-unexpired : (n : Filter) (clock : ℕ) {w : Stored} → passed (unexpired clock) (retained_for n cs) ≡ some w → has_filter n (sweep_held clock (namesIn t)) ≡ true
  unfolding stored
  left-unexpired n clock e =
      let f = from_empty retained_store a x in
      let h : List Named = run retained (room_at s) cs [] in
      ap (λ (h : List Named). has_filter n (sweep_held clock h)) f.1
      ∙ has-stored n (sweep_held clock h) ∙ ap is_some (stored_sweep n clock h (run_names (room_at s) cs [] tt))
      ∙ ap (λ (w : Option Stored). is_some (passed (unexpired clock) w)) (history-stored n (room_at s) cs [] tt f.0) ∙ ap is_some e

  left-subscribed : (f : Filter) (value : ℕ) → subscribed (f, value) ds ≡ true → has_filter f (held_in v) ≡ true
  unfolding is_held
  left-subscribed f value e =
      let g = from_empty subscription_store b y in
      pair-filter f value (held_in v) (ap (is_held (f, value)) g.1 ∙ history-held (f, value) (room_at u) ds [] g.0 ∙ e)

  pub runs_agree : (name filter : List ℕ) (clock value : ℕ) {stays : Stored} → passed (unexpired clock) (retained_for (split name) cs) ≡ some stays → subscribed (split filter, value) ds ≡ true
      → (before before' : List ℕ) {after after' : List ℕ} {bytes records bytes' records' : ℕ} → LooksKnown t filter clock before after (listed bytes records)
      → ListsKnown v name before' after' (listed bytes' records') → Agree name filter clock after bytes after' bytes'
  runs_agree name filter clock value e g before before' {after} {after'} k l =
      calls_agree t v name filter clock (from_empty retained_store a x).2 (from_empty subscription_store b y).2 (left-unexpired (split name) clock e) (left-subscribed (split filter) value g)
      before after before' after' k l
