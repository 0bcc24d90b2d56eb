-- No second outcome meets a promise of the C interface: neither another number or value, nor another held set or other capacities,
-- nor another byte in a buffer. What is told is settled because the answer that it is told of is. Assumes nothing.
use mathlib.Core.Path.{◌≡◌, sym, ap, ◌∙◌}
use Prim.Native.Nat.{ℕ}
use mathlib.Core.List.{List}
use lib.ListN.{length}
use Rattle.refusal.specs.Refusals.{Told, ◌at◌}
use Rattle.topic.specs.Answers.{checked, part_at, place_at}
use Rattle.topic.specs.Settled.{Settles}
use Rattle.topic.proofs.Settled.{by_equation}
use Rattle.held.specs.Room.{Room}
use Rattle.held.specs.Subscriptions.{Call as SubscriptionCall}
use Rattle.held.specs.Retained.{Call as NameCall}
use Rattle.region.specs.declared.Kind.{Kind}
use Rattle.region.specs.declared.Kind.TheVariants.{Subscriptions, Retained}
use Rattle.region.specs.Opening.{open_rules, opened_as}
use Rattle.region.specs.Store.{SubscriptionStore, RetainedStore}
use Rattle.lent.specs.Numbers.{AreBytes}
use Rattle.audit.proofs.Stores.{decided}
use Rattle.edit.specs.Calls.{Calls}
use Rattle.edit.specs.Counts.{Counts}
use Rattle.edit.specs.Same.{Same}
use Rattle.edit.proofs.Settled.{calls_settled, gives_settled, counts_settled}
use Rattle.trie.specs.Calls.{subscription_store}
use Rattle.trie.specs.Listings.{Asks, Lists}
use Rattle.trie.proofs.Settled.{is_match_settled}
use Rattle.retain.specs.Calls.{retained_store}
use Rattle.retain.specs.Lookups.{Looks, Pages}
use Rattle.cjumbradi.specs.Calls.{of_checked, of_matched}
use Rattle.cjumbradi.specs.Stores.{of_changed, of_listed, of_paged, of_outcome, Tells}

-- the calls on texts and `cjumbradi_needed`: what is told is an equation
pub told_settled : {A : Type 0} (of : A → Told) (x : A) → Settles (λ (t : Told). t ≡ of x)
told_settled of x = by_equation (of x)

pub level-part_settled : (text : List ℕ) (k : ℕ) {t u : Told} {len len' : ℕ} → t ≡ (0 at place_at text k) → len ≡ length (part_at text k) → u ≡ (0 at place_at text k) → len' ≡ length (part_at text k)
    → (t ≡ u) × (len ≡ len')
level-part_settled text k a b c d = (a ∙ sym c, b ∙ sym d)

-- opening, of either kind: every byte of the region
pub open_settled : (kind : Kind) (r : Room) (s : List ℕ) {t u : Told} {after after' : List ℕ} → t ≡ of_checked (checked (open_rules r s)) → after ≡ opened_as (checked (open_rules r s)) kind r s
    → u ≡ of_checked (checked (open_rules r s)) → after' ≡ opened_as (checked (open_rules r s)) kind r s → (t ≡ u) × (after ≡ after')
open_settled kind r s a b c d = (a ∙ sym c, b ∙ sym d)

-- what is told of an answer
pub tells : {A T : Type 0} (of : A → T) {P Q : A → Type 0} {E : Type 0} {t u : T} → ((r q : A) → P r → Q q → (r ≡ q) × E) → Tells of P t → Tells of Q u → (t ≡ u) × E
tells of once a b =
    let z = once a.answer b.answer a.promised b.promised in
    (a.said ∙ ap of z.0 ∙ sym b.said, z.1)

pub tells_alone : {A T : Type 0} (of : A → T) {P : A → Type 0} → Settles P → Settles (Tells of P)
tells_alone of once t u a b = (tells of {E = Unit {0}} (λ r q x y. (once r q x y, tt)) a b).0

module _ (s : List ℕ) (all : AreBytes s) {after after' : List ℕ} where
  -- `cjumbradi_insert`, `cjumbradi_remove`
  pub subscription_change_settled : (call : SubscriptionCall) {t u : Told} → Tells of_changed (Calls subscription_store call s after) t → Tells of_changed (Calls subscription_store call s after') u
      → (t ≡ u) × Same subscription_store after after'
  subscription_change_settled call = tells of_changed (λ r q x y. calls_settled subscription_store call s (decided Subscriptions s all) x y)

  -- `cjumbradi_set`, `cjumbradi_sweep`
  pub name_change_settled : (call : NameCall) {t u : Told} → Tells of_changed (Calls retained_store call s after) t → Tells of_changed (Calls retained_store call s after') u → (t ≡ u) × Same retained_store after after'
  name_change_settled call = tells of_changed (λ r q x y. calls_settled retained_store call s (decided Retained s all) x y)

  pub listing_settled : (name before : List ℕ) {t u : Told × ℕ} → Tells of_listed (Lists s name before after) t → Tells of_listed (Lists s name before after') u → (t ≡ u) × (after ≡ after')
  listing_settled name before = tells of_listed (λ r q x y. gives_settled (decided Subscriptions s all) x y)

  pub lookup_settled : (filter : List ℕ) (clock : ℕ) (before : List ℕ) {t u : Told × ℕ} → Tells of_listed (Looks s filter clock before after) t → Tells of_listed (Looks s filter clock before after') u
      → (t ≡ u) × (after ≡ after')
  lookup_settled filter clock before = tells of_listed (λ r q x y. gives_settled (decided Retained s all) x y)

  pub page_settled : (clock offset limit : ℕ) (before : List ℕ) {t u : Told × ℕ × ℕ} → Tells of_paged (Pages s clock offset limit before after) t → Tells of_paged (Pages s clock offset limit before after') u
      → (t ≡ u) × (after ≡ after')
  page_settled clock offset limit before = tells of_paged (λ r q x y. gives_settled (decided Retained s all) x y)

module _ (s : List ℕ) (all : AreBytes s) where
  pub is_match-told : (name : List ℕ) → Settles (Tells of_matched (Asks s name))
  is_match-told name = tells_alone of_matched (is_match_settled s all name)

  -- `cjumbradi_nodes_size`, `cjumbradi_values_size`, by what they count
  pub size_settled : (count : ℕ) → Settles (Tells of_outcome (Counts (SubscriptionStore s) count))
  size_settled count = tells_alone of_outcome (λ r q x y. counts_settled (decided Subscriptions s all) x y)

  pub count_settled : (count : ℕ) → Settles (Tells of_outcome (Counts (RetainedStore s) count))
  count_settled count = tells_alone of_outcome (λ r q x y. counts_settled (decided Retained s all) x y)
