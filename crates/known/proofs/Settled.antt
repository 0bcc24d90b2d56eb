-- No second outcome meets a promise of this crate, where it is given a store. Assumes nothing.
use mathlib.Core.Path.{◌≡◌}
use Prim.Native.Nat.{ℕ}
use mathlib.Core.List.{List}
use Rattle.refusal.specs.Refusals.{Told}
use Rattle.topic.specs.Settled.{Settles}
use Rattle.held.specs.Subscriptions.{Call as SubscriptionCall}
use Rattle.held.specs.Retained.{Call as NameCall}
use Rattle.region.specs.Store.{SubscriptionStore, RetainedStore}
use Rattle.edit.specs.Calls.{Does}
use Rattle.edit.specs.Same.{Same}
use Rattle.edit.proofs.Settled.{does_settled, given_settled}
use Rattle.trie.specs.Calls.{subscription_store}
use Rattle.trie.specs.Listings.{AsksKnown, ListsKnown}
use Rattle.trie.proofs.Settled.{is_match_known_settled}
use Rattle.retain.specs.Calls.{retained_store}
use Rattle.retain.specs.Lookups.{LooksKnown, PagesKnown}
use Rattle.cjumbradi.specs.Calls.{of_matched}
use Rattle.cjumbradi.specs.Stores.{of_changed, of_listed, of_paged, Tells}
use Rattle.cjumbradi.proofs.Settled.{tells, tells_alone}

module _ (s : List ℕ) (st : SubscriptionStore s) {after after' : List ℕ} where
  -- `cjumbradi_known_insert`, `cjumbradi_known_remove`
  pub subscription_change_settled : (call : SubscriptionCall) {t u : Told} → Tells of_changed (Does subscription_store call s after) t → Tells of_changed (Does subscription_store call s after') u
      → (t ≡ u) × Same subscription_store after after'
  subscription_change_settled call = tells of_changed (λ r q x y. does_settled subscription_store call s st x y)

  pub listing_settled : (name before : List ℕ) {t u : Told × ℕ} → Tells of_listed (ListsKnown s name before after) t → Tells of_listed (ListsKnown s name before after') u → (t ≡ u) × (after ≡ after')
  listing_settled name before = tells of_listed (λ r q x y. given_settled st x y)

module _ (s : List ℕ) (st : RetainedStore s) {after after' : List ℕ} where
  -- `cjumbradi_known_set`, `cjumbradi_known_sweep`
  pub name_change_settled : (call : NameCall) {t u : Told} → Tells of_changed (Does retained_store call s after) t → Tells of_changed (Does retained_store call s after') u → (t ≡ u) × Same retained_store after after'
  name_change_settled call = tells of_changed (λ r q x y. does_settled retained_store call s st x y)

  pub lookup_settled : (filter : List ℕ) (clock : ℕ) (before : List ℕ) {t u : Told × ℕ} → Tells of_listed (LooksKnown s filter clock before after) t → Tells of_listed (LooksKnown s filter clock before after') u
      → (t ≡ u) × (after ≡ after')
  lookup_settled filter clock before = tells of_listed (λ r q x y. given_settled st x y)

  pub page_settled : (clock offset limit : ℕ) (before : List ℕ) {t u : Told × ℕ × ℕ} → Tells of_paged (PagesKnown s clock offset limit before after) t → Tells of_paged (PagesKnown s clock offset limit before after') u
      → (t ≡ u) × (after ≡ after')
  page_settled clock offset limit before = tells of_paged (λ r q x y. given_settled st x y)

pub is_match_settled : (s : List ℕ) → SubscriptionStore s → (name : List ℕ) → Settles (Tells of_matched (AsksKnown s name))
is_match_settled s st name = tells_alone of_matched (is_match_known_settled s name st)
