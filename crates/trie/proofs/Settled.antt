-- No second outcome meets a promise of this crate: neither another answer, nor another held set or other capacities, nor another
-- byte in a buffer. Assumes nothing.
use Rattle.std.specs.Prelude.{Err, Ok, Result}
use Rattle.region.specs.declared.Nodes.{Nodes}
use Rattle.region.specs.declared.Pairs.{Pairs}
use Rattle.refusal.specs.declared.Refusal.{Refusal}
use mathlib.Core.Path.{◌≡◌, sym, ap, ◌∙◌}
use Prim.Native.Nat.{ℕ}
use mathlib.Core.List.{List}
use lib.ListN.{length}
use Rattle.lent.specs.Numbers.{AreBytes}
use Rattle.topic.specs.Settled.{Settles}
use Rattle.held.specs.Room.{node_count}
use Rattle.held.specs.Subscriptions.{Call}
use Rattle.region.specs.declared.Kind.TheVariants.{Subscriptions}
use Rattle.region.specs.Store.{SubscriptionStore}
use Rattle.audit.proofs.Stores.{decided}
use Rattle.edit.specs.declared.Listed.{Listed}
use Rattle.edit.specs.Calls.{Calls}
use Rattle.edit.specs.Counts.{Counts}
use Rattle.edit.specs.Same.{Same}
use Rattle.edit.proofs.Settled.{same_answer, store-or-none, calls_settled, gives_settled, counts_settled}
use Rattle.trie.specs.Calls.{held_in, subscription_store}
use Rattle.trie.specs.Listings.{AsksKnown, Asks, Lists}
use Rattle.trie.specs.Sizes.{nodes_told, values_told}

module _ (s : List ℕ) (all : AreBytes s) where
  -- `insert` and `remove`
  pub changes_settled : (call : Call) {t u : List ℕ} {r q : Result ℕ Refusal} → Calls subscription_store call s t r → Calls subscription_store call s u q → (r ≡ q) × Same subscription_store t u
  changes_settled call x y = calls_settled subscription_store call s (decided Subscriptions s all) x y

  pub is_match_settled : (name : List ℕ) → Settles (Asks s name)
  is_match_settled name r q x y =
      store-or-none (decided Subscriptions s all) (λ st. x.on_store.told st ∙ sym (y.on_store.told st)) (λ no. x.on_other no ∙ sym (y.on_other no))

  pub matches_settled : (name before : List ℕ) {after after' : List ℕ} {r q : Result Listed Refusal} → Lists s name before after r → Lists s name before after' q → (r ≡ q) × (after ≡ after')
  matches_settled name before x y = gives_settled (decided Subscriptions s all) x y

  pub nodes_size_settled : Settles (λ (r : Result Nodes Refusal). Counts (SubscriptionStore s) (node_count (held_in s)) (nodes_told r))
  nodes_size_settled r q x y = once r q (counts_settled (decided Subscriptions s all) x y)
    where
      once : (r q : Result Nodes Refusal) → nodes_told r ≡ nodes_told q → r ≡ q
      once (Ok n) (Ok m) e = ap {B = Result Nodes Refusal} (λ (x : ℕ). Ok (record { 0 = x })) (same_answer e)
      once (Err x) (Err y) e = cc
      once (Ok n) (Err y) e = cc
      once (Err x) (Ok m) e = cc

  pub values_size_settled : Settles (λ (r : Result Pairs Refusal). Counts (SubscriptionStore s) (length (held_in s)) (values_told r))
  values_size_settled r q x y = once r q (counts_settled (decided Subscriptions s all) x y)
    where
      once : (r q : Result Pairs Refusal) → values_told r ≡ values_told q → r ≡ q
      once (Ok n) (Ok m) e = ap {B = Result Pairs Refusal} (λ (x : ℕ). Ok (record { 0 = x })) (same_answer e)
      once (Err x) (Err y) e = cc
      once (Ok n) (Err y) e = cc
      once (Err x) (Ok m) e = cc

-- `is_match_known`, given a store
pub is_match_known_settled : (s name : List ℕ) → SubscriptionStore s → Settles (AsksKnown s name)
is_match_known_settled s name st r q x y = x.told st ∙ sym (y.told st)
