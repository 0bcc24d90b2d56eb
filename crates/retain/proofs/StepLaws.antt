-- What shows that setting, erasing and sweeping did what they should. Assumes nothing.
use Rattle.std.specs.Prelude.{Err, Ok}
use mathlib.Core.Path.{◌≡◌, refl, ap, ◌∙◌}
use mathlib.Core.Bool.{Bool, true, false, cond, not, ◌||◌, true≢false}
use mathlib.Core.List.{List, [], ◌∷◌}
use Prim.Native.Nat.{ℕ, ◌≤◌}
use lib.ListN.{length}
use borrow.Author.Tests.{le-ltb}
use Rattle.refusal.specs.declared.Refusal.{Refusal}
use Rattle.level.specs.Levels.{split}
use Rattle.topic.specs.Rules.{Rule, name_rules}
use Rattle.topic.specs.Answers.{checked}
use Rattle.held.specs.Order.{Filter, same_filter, filter_lt}
use Rattle.held.specs.Ascending.{All}
use Rattle.held.specs.Room.{room_rules, depth_rule}
use Rattle.held.specs.History.{verdict}
use Rattle.held.specs.Retained.{Stored, Named, has_filter, set_held, erase_held, Call, set, retained}
use Rattle.held.specs.Forest.{Forest, held, WellNamed}
use Rattle.held.specs.Edit.{set_f, erase_f}
use Rattle.held.proofs.Entries.{all-put, all_keep}
use Rattle.held.proofs.ByTexts.{set_text, erase_text}
use Rattle.held.proofs.RoomLaws.{held-accepted, text-passed}
use Rattle.region.specs.Units.{stored_of}
use Rattle.region.specs.Store.{room_at, forest_at, Accepts, RetainedStore}
use Rattle.region.proofs.Instances.{records}
use Rattle.change.proofs.EditLaws.{Becomes}
use Rattle.change.proofs.StoreLaws.{holds-retained}
use Rattle.edit.specs.Calls.{Step}
use Rattle.edit.proofs.StepLaws.{refused_step, same_step, changed_step}
use Rattle.retain.specs.Calls.{held_in, retained_store}

-- a name that is not held is not among what is held
keep_others : (n : Filter) (h : List Named) → has_filter n h ≡ false → erase_held n h ≡ h
unfolding has_filter erase_held
keep_others n [] e = refl
keep_others n (x ∷ h) e = go (same_filter n x.0) e (λ q. keep_others n h q)
  where
    go : (t : Bool) → (t || has_filter n h) ≡ false → (has_filter n h ≡ false → erase_held n h ≡ h) → cond (not t) (x ∷ erase_held n h) (erase_held n h) ≡ x ∷ h
    go true z k = absurd (true≢false z)
    go false z k = ap (λ (l : List Named). x ∷ l) (k z)

module _ (s : List ℕ) (st : RetainedStore s) where
  -- another forest is held
  becomes_step : (call : Call) (n : ℕ) (F : Forest Stored) (t : List ℕ) → verdict (retained (room_at s) call (held_in s)) ≡ Ok tt → (retained (room_at s) call (held_in s)).answer ≡ n
      → held F ≡ (retained (room_at s) call (held_in s)).after → WellNamed F → All (λ (e : Filter × Stored). Accepts name_rules e.0) (held F) → Becomes records 2 s t F
      → Step retained_store call s t (Ok n)
  becomes_step call n F t v a h w ts b =
      let q = holds-retained t F b.holds w ts in
      changed_step retained_store s call records 2 F t n v a b q.0 (ap held q.1 ∙ h)

  -- setting
  module _ (f : List ℕ) (x : Stored) (fine : checked (name_rules f) ≡ Ok tt) where
    abbrev rooms : List Rule
    rooms = depth_rule f ∷ room_rules (room_at s) (has_filter (split f) (held_in s)) (set_held (split f) x (held_in s))

    set-verdict : verdict (retained (room_at s) (set f 1 x) (held_in s)) ≡ checked rooms
    set-verdict = text-passed (retained (room_at s) (set f 1 x) (held_in s)) (name_rules f) rooms refl fine

    pub set_refused : (r : Refusal) → checked rooms ≡ Err r → Step retained_store (set f 1 x) s s (Err r)
    set_refused r e = refused_step retained_store s (set f 1 x) st r (set-verdict ∙ e)

    set_done : length (split f) ≤ 128 → (n : ℕ) → cond (has_filter (split f) (held_in s)) 2 1 ≡ n → checked rooms ≡ Ok tt
        → (t : List ℕ) → Becomes records 2 s t (set_f (split f) x (forest_at stored_of s)) → Step retained_store (set f 1 x) s t (Ok n)
    unfolding set_held
    set_done d n e v t b =
        let i = set_text f (forest_at stored_of s) st.well x in
        becomes_step (set f 1 x) n (set_f (split f) x (forest_at stored_of s)) t (set-verdict ∙ v) e i.0 i.1
        (rw i.0 (all-put (λ (p : Named). Accepts name_rules p.0) filter_lt (λ (e : Named). e.0) (split f, x) (held_in s) (record { text = f; levels = refl; fine = fine; depth = d }) st.texts)) b

    pub set_new : length (split f) ≤ 128 → has_filter (split f) (held_in s) ≡ false → checked rooms ≡ Ok tt
        → (t : List ℕ) → Becomes records 2 s t (set_f (split f) x (forest_at stored_of s)) → Step retained_store (set f 1 x) s t (Ok 1)
    set_new d e v t b = set_done d 1 (rw e) v t b

    pub set_again : length (split f) ≤ 128 → has_filter (split f) (held_in s) ≡ true
        → (t : List ℕ) → Becomes records 2 s t (set_f (split f) x (forest_at stored_of s)) → Step retained_store (set f 1 x) s t (Ok 2)
    unfolding depth_rule
    set_again d e t b = set_done d 2 (rw e) (rw (e, le-ltb 128 (length (split f)) d, held-accepted (room_at s) (set_held (split f) x (held_in s)))) t b

  -- erasing
  module _ (f : List ℕ) (x : Stored) (fine : checked (name_rules f) ≡ Ok tt) where
    erase-verdict : verdict (retained (room_at s) (set f 0 x) (held_in s)) ≡ Ok tt
    erase-verdict = text-passed (retained (room_at s) (set f 0 x) (held_in s)) (name_rules f) [] refl fine

    pub erase-none : has_filter (split f) (held_in s) ≡ false → Step retained_store (set f 0 x) s s (Ok 4)
    erase-none e = same_step retained_store s (set f 0 x) st 4 erase-verdict (rw e) (keep_others (split f) (held_in s) e)

    pub erase_done : has_filter (split f) (held_in s) ≡ true → (t : List ℕ) → Becomes records 2 s t (erase_f (split f) (forest_at stored_of s)) → Step retained_store (set f 0 x) s t (Ok 3)
    unfolding erase_held
    erase_done e t b =
        let i = erase_text f (forest_at stored_of s) st.well in
        becomes_step (set f 0 x) 3 (erase_f (split f) (forest_at stored_of s)) t erase-verdict (rw e) i.0 i.1
        (rw i.0 (all_keep (λ (p : Named). Accepts name_rules p.0) (λ (q : Named). not (same_filter (split f) q.0)) (held_in s) st.texts)) b
