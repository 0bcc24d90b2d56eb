-- What shows that inserting and removing did what they should. Assumes nothing.
use Rattle.std.specs.Prelude.{Err, Ok, Result, ⊤}
use mathlib.Core.Path.{◌≡◌, refl, sym, ap, ◌∙◌}
use mathlib.Core.Bool.{Bool, true, false, not, ◌&&◌, ◌||◌}
use mathlib.Core.List.{List, [], ◌∷◌}
use Prim.Native.Nat.{ℕ, ◌≤◌}
use lib.ListN.{length}
use borrow.Author.Tests.{le-ltb}
use Rattle.refusal.specs.declared.Refusal.{Refusal}
use Rattle.level.specs.Levels.{split}
use Rattle.topic.specs.Rules.{Rule, filter_rules}
use Rattle.topic.specs.Answers.{checked}
use Rattle.held.specs.Order.{Filter, same_pair, pair_lt}
use Rattle.held.specs.Ascending.{All}
use Rattle.held.specs.Room.{room_rules, depth_rule}
use Rattle.held.specs.History.{verdict, accepted}
use Rattle.held.specs.Subscriptions.{Pair, is_held, insert_held, remove_held, Call, insert, remove, subscriptions}
use Rattle.held.specs.Forest.{Forest, held, WellFormed}
use Rattle.held.specs.Edit.{insert_f, remove_f}
use Rattle.held.proofs.Orders.{pair_order}
use Rattle.held.proofs.Entries.{all-put, all_keep}
use Rattle.held.proofs.HeldLaws.{held_insert, held_remove, pairs_insert, pairs_remove, pairs_settled}
use Rattle.held.proofs.Forests.{well_pairs}
use Rattle.held.proofs.ByTexts.{insert_text, remove_text}
use Rattle.held.proofs.RoomLaws.{held-accepted, text-passed}
use Rattle.region.specs.Units.{value_of}
use Rattle.region.specs.Store.{room_at, forest_at, Accepts, SubscriptionStore}
use Rattle.region.proofs.Instances.{values}
use Rattle.change.proofs.EditLaws.{Becomes}
use Rattle.change.proofs.StoreLaws.{holds_store}
use Rattle.edit.specs.Calls.{Step, Does}
use Rattle.edit.proofs.StepLaws.{refused_step, same_step, changed_step, text_refused}
use Rattle.trie.specs.Calls.{held_in, subscription_store}

-- a held pair once more, and one that is not held taken away
already : (p q : Pair) (h : List Pair) → is_held q h ≡ true → (b : Bool) → same_pair p q ≡ b → (b || is_held p h) ≡ is_held p h
already p q h e true z = sym (ap (λ (r : Pair). is_held r h) (pair_order.eq_true p q z) ∙ e)
already p q h e false z = refl

absent : (p q : Pair) (h : List Pair) → is_held q h ≡ false → (b : Bool) → same_pair q p ≡ b → (not b && is_held p h) ≡ is_held p h
absent p q h e true z = sym (ap (λ (r : Pair). is_held r h) (sym (pair_order.eq_true q p z)) ∙ e)
absent p q h e false z = refl

module _ (s : List ℕ) (st : SubscriptionStore s) where
  -- another forest is held
  becomes_step : (call : Call) (n : ℕ) (F : Forest ℕ) (t : List ℕ) → verdict (subscriptions (room_at s) call (held_in s)) ≡ Ok tt → (subscriptions (room_at s) call (held_in s)).answer ≡ n
      → held F ≡ (subscriptions (room_at s) call (held_in s)).after → WellFormed F → All (λ (e : Filter × ℕ). Accepts filter_rules e.0) (held F) → Becomes values 1 s t F
      → Step subscription_store call s t (Ok n)
  becomes_step call n F t v a h w ts b =
      let q = holds_store t F b.holds w ts in
      changed_step subscription_store s call values 1 F t n v a b q.0 (ap held q.1 ∙ h)

  -- inserting
  module _ (f : List ℕ) (x : ℕ) (fine : checked (filter_rules f) ≡ Ok tt) where
    abbrev rooms : List Rule
    rooms = depth_rule f ∷ room_rules (room_at s) (is_held (split f, x) (held_in s)) (insert_held (split f, x) (held_in s))

    insert-verdict : verdict (subscriptions (room_at s) (insert f x) (held_in s)) ≡ checked rooms
    insert-verdict = text-passed (subscriptions (room_at s) (insert f x) (held_in s)) (filter_rules f) rooms refl fine

    pub insert_refused : (r : Refusal) → checked rooms ≡ Err r → Step subscription_store (insert f x) s s (Err r)
    insert_refused r e = refused_step subscription_store s (insert f x) st r (insert-verdict ∙ e)

    same_again : is_held (split f, x) (held_in s) ≡ true → insert_held (split f, x) (held_in s) ≡ held_in s
    same_again e =
        let a = well_pairs (forest_at value_of s) st.well in
        pairs_settled (insert_held (split f, x) (held_in s)) (held_in s) (pairs_insert (split f, x) (held_in s) a) a
        (λ (p : Pair). held_insert p (split f, x) (held_in s) ∙ already p (split f, x) (held_in s) e (same_pair p (split f, x)) refl)

    pub insert_there : length (split f) ≤ 128 → is_held (split f, x) (held_in s) ≡ true → Step subscription_store (insert f x) s s (Ok 0)
    unfolding depth_rule
    insert_there d e =
        same_step subscription_store s (insert f x) st 0 (insert-verdict ∙ rw (e, le-ltb 128 (length (split f)) d, held-accepted (room_at s) (insert_held (split f, x) (held_in s)))) (rw e) (same_again e)

    pub insert_new : length (split f) ≤ 128 → is_held (split f, x) (held_in s) ≡ false → checked rooms ≡ Ok tt
        → (t : List ℕ) → Becomes values 1 s t (insert_f (split f) x (forest_at value_of s)) → Step subscription_store (insert f x) s t (Ok 1)
    unfolding insert_held
    insert_new d e v t b =
        let i = insert_text f (ap accepted fine) x (forest_at value_of s) st.well in
        becomes_step (insert f x) 1 (insert_f (split f) x (forest_at value_of s)) t (insert-verdict ∙ v) (rw e) i.0 i.1
        (rw i.0 (all-put (λ (p : Pair). Accepts filter_rules p.0) pair_lt (λ (q : Pair). q) (split f, x) (held_in s) (record { text = f; levels = refl; fine = fine; depth = d }) st.texts)) b

  -- removing
  module _ (f : List ℕ) (x : ℕ) (fine : checked (filter_rules f) ≡ Ok tt) where
    remove-verdict : verdict (subscriptions (room_at s) (remove f x) (held_in s)) ≡ Ok tt
    remove-verdict = text-passed (subscriptions (room_at s) (remove f x) (held_in s)) (filter_rules f) [] refl fine

    pub remove-none : is_held (split f, x) (held_in s) ≡ false → Step subscription_store (remove f x) s s (Ok 0)
    remove-none e =
        let a = well_pairs (forest_at value_of s) st.well in
        let k : remove_held (split f, x) (held_in s) ≡ held_in s =
        pairs_settled (remove_held (split f, x) (held_in s)) (held_in s) (pairs_remove (split f, x) (held_in s) a) a
        (λ (p : Pair). held_remove p (split f, x) (held_in s) ∙ absent p (split f, x) (held_in s) e (same_pair (split f, x) p) refl) in
        same_step subscription_store s (remove f x) st 0 remove-verdict (rw e) k

    pub remove_done : is_held (split f, x) (held_in s) ≡ true → (t : List ℕ) → Becomes values 1 s t (remove_f (split f) x (forest_at value_of s)) → Step subscription_store (remove f x) s t (Ok 1)
    unfolding remove_held
    remove_done e t b =
        let i = remove_text f (ap accepted fine) x (forest_at value_of s) st.well in
        becomes_step (remove f x) 1 (remove_f (split f) x (forest_at value_of s)) t remove-verdict (rw e) i.0 i.1
        (rw i.0 (all_keep (λ (p : Pair). Accepts filter_rules p.0) (λ (q : Pair). not (same_pair (split f, x) q)) (held_in s) st.texts)) b

-- a filter that is refused, whatever the region holds
module _ (f : List ℕ) (x : ℕ) (s : List ℕ) {k : Result ⊤ Refusal} {r : Refusal} (q : k ≡ checked (filter_rules f)) (z : k ≡ Err r) where
  pub insert_text_refused : Does subscription_store (insert f x) s s (Err r)
  insert_text_refused =
      text_refused subscription_store s (insert f x) (filter_rules f) (depth_rule f ∷ room_rules (room_at s) (is_held (split f, x) (held_in s)) (insert_held (split f, x) (held_in s))) refl q z

  pub remove_text_refused : Does subscription_store (remove f x) s s (Err r)
  remove_text_refused = text_refused subscription_store s (remove f x) (filter_rules f) [] refl q z
