-- Before a store is changed: a filter that is too deep or of which nodes are missing, a header that is no store's, and how long an
-- accepted filter is. Assumes nothing.
use Rattle.std.specs.Prelude.{Err, None, Ok, Option}
use mathlib.Core.Path.{◌≡◌, refl, sym, ap, ◌∙◌}
use mathlib.Core.List.{List, [], ◌∷◌}
use Prim.Native.Nat.{ℕ, ◌≤◌, ◌<◌}
use native.Mathlib.Omega.{arith}
use mathlib.Core.Bool.{Bool, true, false, ◌||◌, true≢false}
use lib.Dec.{eqb}
use lib.ListN.{length}
use Rattle.refusal.specs.declared.Refusal.TheVariants.{NotAStore, TooDeep}
use Rattle.level.specs.Levels.{split}
use Rattle.level.proofs.Join.{join-split}
use Rattle.topic.specs.Rules.{filter_rules}
use Rattle.topic.specs.Answers.{checked}
use Rattle.held.specs.Order.{same_pair}
use Rattle.held.specs.Ascending.{All, member}
use Rattle.held.specs.Room.{room_rules}
use Rattle.held.proofs.Orders.{pair_order}
use Rattle.held.specs.History.{accepted}
use Rattle.held.specs.Subscriptions.{Pair, is_held, insert_held, Call, insert, remove}
use Rattle.held.proofs.Texts.{filter_written}
use Rattle.region.specs.Units.{value_of}
use Rattle.region.specs.Store.{room_at, forest_at, Accepts, SubscriptionStore}
use Rattle.region.specs.declared.Shape.{Shape}
use Rattle.region.specs.Shapes.{UnitsOf, ShapeOf}
use Rattle.region.proofs.Instances.{values}
use Rattle.seek.specs.declared.Path.{Path}
use Rattle.seek.specs.PathFound.{PathFound}
use Rattle.seek.proofs.PathLaws.{holds-none}
use Rattle.change.proofs.StoreLaws.{store_holds}
use Rattle.edit.specs.Calls.{Does}
use Rattle.edit.proofs.KnownPath.{deep_rule, no_units-told, stands}
use Rattle.trie.specs.Calls.{held_in, subscription_store}
use Rattle.trie.proofs.StepLaws.{insert_refused, remove-none}
use Rattle.trie.proofs.StoredPath.{held_is}

pub accepted_size : (f : List ℕ) → checked (filter_rules f) ≡ Ok tt → length f ≤ 65535
accepted_size f e = rw (join-split f) at (filter_written f (ap accepted e)).short

pub too_deep : (s f : List ℕ) (x : ℕ) → checked (filter_rules f) ≡ Ok tt → {k : ℕ} → k ≡ length (split f) → 128 < k → Does subscription_store (insert f x) s s (Err TooDeep)
too_deep s f x fine e h =
    record {
      does = λ (st : SubscriptionStore s).
          insert_refused s st f x fine TooDeep (deep_rule f (room_rules (room_at s) (is_held (split f, x) (held_in s)) (insert_held (split f, x) (held_in s))) (omega (arith, e)));
    }

pub no_units : (call : Call) (s : List ℕ) {r : Option Shape} → ShapeOf s r → r ≡ None → Does subscription_store call s s (Err NotAStore)
no_units call s h e = record { does = λ (st : SubscriptionStore s). absurd (no_units-told values 1 s (forest_at value_of s) (store_holds s st) h e) }

-- what is held has at most 128 levels
held-has : (P : Pair → Type 0) (p : Pair) (l : List Pair) → All P l → is_held p l ≡ true → P p
unfolding is_held
held-has P p [] a e = absurd (true≢false (sym e))
held-has P p (q ∷ l) a e = go (same_pair p q) refl e (held-has P p l a.1)
  where
    go : (t : Bool) → same_pair p q ≡ t → (t || member same_pair p l) ≡ true → (member same_pair p l ≡ true → P p) → P p
    go true z e f = rw (pair_order.eq_true p q z) a.0
    go false z e f = f e

not_deep : (s : List ℕ) → SubscriptionStore s → (p : Pair) → 128 < length p.0 → (t : Bool) → is_held p (held_in s) ≡ t → t ≡ false
not_deep s st p h true e =
    let d : Accepts filter_rules p.0 = held-has (λ (q : Pair). Accepts filter_rules q.0) p (held_in s) st.texts e in
    absurd (omega (arith, d.depth))
not_deep s st p h false e = refl

pub deep_absent : (s f : List ℕ) (x : ℕ) → checked (filter_rules f) ≡ Ok tt → {k : ℕ} → k ≡ length (split f) → 128 < k → Does subscription_store (remove f x) s s (Ok 0)
deep_absent s f x fine e h =
    record {
      does = λ (st : SubscriptionStore s).
          remove-none s st f x fine (not_deep s st (split f, x) (omega (arith, e)) (is_held (split f, x) (held_in s)) refl);
    }

-- a filter of which a node is missing is not held
pub missing_absent : (s : List ℕ) {base n room : ℕ} → UnitsOf s base n room → (f : List ℕ) → checked (filter_rules f) ≡ Ok tt → length (split f) ≤ 128 → {p : Path} → PathFound base s n f p → p.from ≤ length f
    → (x : ℕ) → Does subscription_store (remove f x) s s (Ok 0)
missing_absent s {base} {n} units f fine few {p} pf q x =
    record {
      does = λ (st : SubscriptionStore s).
          let F = forest_at value_of s in
          remove-none s st f x fine (held_is s st f x ∙ ap (member eqb x) (holds-none base s n f p pf values F (stands values 1 s units F (store_holds s st)) few q));
    }
