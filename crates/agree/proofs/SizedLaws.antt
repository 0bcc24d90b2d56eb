-- What a store holds fits the bytes of its records. Assumes nothing.
use mathlib.Core.Path.{ap, subst}
use Prim.Native.Nat.{ℕ, ◌≤◌, ◌<◌, ◌^◌}
use mathlib.Core.List.{List, [], ◌∷◌, ◌++◌, map}
use native.Mathlib.Omega.{arith}
use lib.ListN.{length}
use Rattle.topic.specs.Rules.{name_rules, filter_rules}
use Rattle.held.specs.Order.{Filter}
use Rattle.held.specs.Ascending.{All}
use Rattle.held.specs.History.{accepted}
use Rattle.held.specs.Retained.{Named}
use Rattle.held.specs.Subscriptions.{Pair}
use Rattle.held.specs.Sized.{Written, SmallStored, SizedName}
use Rattle.held.specs.Forest.{Forest, leaf, fork, under, held}
use Rattle.held.proofs.Entries.{all_append, all_map, all_with, all_both}
use Rattle.held.proofs.Bounds.{SizedPair, in-range}
use Rattle.held.proofs.Texts.{filter_written, name_written}
use Rattle.region.specs.Forms.{Fits, fork_fits}
use Rattle.region.specs.Units.{value_of, stored_of}
use Rattle.region.specs.Store.{Accepts, room_at, forest_at, SubscriptionStore, RetainedStore}
use Rattle.change.proofs.StoreLaws.{store_holds, retained_holds}
use Rattle.trie.specs.Calls.{held_in}
use Rattle.retain.specs.Calls.{held_in as namesIn}

module _ {X : Type 0} (Small : X → Type 0) where
  abbrev SmallEntry : Filter × X → Type 0
  SmallEntry e = Small e.1

  fits-held : (F : Forest X) → Fits Small F → All SmallEntry (held F)
  unfolding held
  fits-held leaf f = tt
  fits-held (fork l v k n) (fork_fits a b c d e g) =
      all_append SmallEntry (map (λ x. (l ∷ [], x)) v) (map (under l) (held k) ++ held n) (all_map SmallEntry (λ x. (l ∷ [], x)) v d)
      (all_append SmallEntry (map (under l) (held k)) (held n) (all_map SmallEntry (under l) (held k) (fits-held k e)) (fits-held n g))

pub names_fit : (s : List ℕ) → RetainedStore s → All SizedName (namesIn s)
names_fit s st =
    all_with (λ (e : Named). SmallStored e.1 × Accepts name_rules e.0) SizedName
    (λ (e : Named) p. record { text = subst Written p.1.levels (name_written p.1.text (ap accepted p.1.fine)); small = p.0 })
    (namesIn s) (all_both (λ (e : Named). SmallStored e.1) (λ (e : Named). Accepts name_rules e.0) (namesIn s) (fits-held SmallStored (forest_at stored_of s) (retained_holds s st).fits) st.texts)

pub pairs_fit : (s : List ℕ) → SubscriptionStore s → All SizedPair (held_in s)
pairs_fit s st =
    all_with (λ (p : Pair). (p.1 < 256 ^ 4) × Accepts filter_rules p.0) SizedPair
    (λ (e : Pair) p. record { text = subst Written p.1.levels (filter_written p.1.text (ap accepted p.1.fine)); value = p.0 })
    (held_in s) (all_both (λ (p : Pair). p.1 < 256 ^ 4) (λ (p : Pair). Accepts filter_rules p.0) (held_in s) (fits-held (λ v. v < 256 ^ 4) (forest_at value_of s) (store_holds s st).fits) st.texts)

pub pairs_few : (s : List ℕ) → SubscriptionStore s → length (held_in s) ≤ 8192
pairs_few s st = omega (arith, st.written.pairs_fit, (in-range (room_at s) st.written.range).pairs.1)
