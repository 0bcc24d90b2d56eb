-- The answers that need no walk: names that are too deep, nodes that are missing, and how a call takes its payload. Assumes nothing.
use Rattle.std.specs.Prelude.{Err, None, Ok, Option, Result, ⊤}
use mathlib.Core.Path.{◌≡◌, refl, sym, ap, ◌∙◌}
use mathlib.Core.Bool.{Bool, true, false, not, ◌||◌, true≢false}
use mathlib.Core.List.{List, [], ◌∷◌}
use Prim.Native.Nat.{ℕ, zero, suc, ◌+◌, ◌≤◌, ◌<◌}
use native.Mathlib.Omega.{arith}
use lib.ListN.{length}
use Rattle.refusal.specs.declared.Refusal.{Refusal}
use Rattle.refusal.specs.declared.Refusal.TheVariants.{NotAStore, TooDeep}
use Rattle.level.specs.Levels.{split}
use Rattle.level.proofs.Join.{join-split}
use Rattle.topic.specs.Rules.{name_rules}
use Rattle.topic.specs.Answers.{checked}
use Rattle.held.specs.Order.{Filter, same_filter}
use Rattle.held.specs.Ascending.{All}
use Rattle.held.specs.Room.{room_rules, depth_rule}
use Rattle.held.specs.Retained.{Stored, Named, has_filter, set_held, Call, set, sweep, retained}
use Rattle.held.specs.History.{accepted, answered}
use Rattle.held.proofs.Orders.{filter_order}
use Rattle.held.proofs.RoomLaws.{text-passed}
use Rattle.held.proofs.Texts.{name_written}
use Rattle.held.proofs.Stores.{null}
use Rattle.region.specs.Units.{stored_of}
use Rattle.region.specs.Store.{room_at, forest_at, Accepts, RetainedStore}
use Rattle.region.specs.declared.Shape.{Shape}
use Rattle.region.specs.Shapes.{UnitsOf, ShapeOf}
use Rattle.region.proofs.Instances.{records}
use Rattle.forest.specs.Places.{unit_at}
use Rattle.seek.specs.declared.Path.{Path}
use Rattle.seek.specs.PathFound.{PathFound}
use Rattle.seek.proofs.PathLaws.{holds-none}
use Rattle.change.proofs.StoreLaws.{retained_holds}
use Rattle.sweep.specs.Removed.{Removed}
use Rattle.sweep.proofs.StoreLaws.{store_swept}
use Rattle.edit.specs.Calls.{Does}
use Rattle.edit.proofs.StepLaws.{accepted_does, text_refused}
use Rattle.edit.proofs.KnownPath.{deep_rule, no_units-told, stands}
use Rattle.retain.specs.Calls.{held_in, retained_store}
use Rattle.retain.specs.Erasing.{Erases}
use Rattle.retain.proofs.StepLaws.{set_refused, erase-none}
use Rattle.retain.proofs.StoredPath.{has_is}

pub accepted_size : (f : List ℕ) → checked (name_rules f) ≡ Ok tt → length f ≤ 65535
accepted_size f e = rw (join-split f) at (name_written f (ap accepted e)).short

pub too_deep : (s f : List ℕ) (x : Stored) → checked (name_rules f) ≡ Ok tt → {k : ℕ} → k ≡ length (split f) → 128 < k → Does retained_store (set f 1 x) s s (Err TooDeep)
too_deep s f x fine e h =
    record {
      does = λ (st : RetainedStore s).
          set_refused s st f x fine TooDeep (deep_rule f (room_rules (room_at s) (has_filter (split f) (held_in s)) (set_held (split f) x (held_in s))) (omega (arith, e)));
    }

pub no_units : (call : Call) (s : List ℕ) {r : Option Shape} → ShapeOf s r → r ≡ None → Does retained_store call s s (Err NotAStore)
no_units call s h e = record { does = λ (st : RetainedStore s). absurd (no_units-told records 2 s (forest_at stored_of s) (retained_holds s st) h e) }

pub no_units_erases : (f s : List ℕ) {r : Option Shape} → ShapeOf s r → r ≡ None → Erases f s s (Err NotAStore)
no_units_erases f s h e = record { does = λ (x : Stored). no_units (set f 0 x) s h e }

-- what is held has at most 128 levels
held-has : (P : Filter → Type 0) (n : Filter) (l : List Named) → All (λ (e : Named). P e.0) l → has_filter n l ≡ true → P n
unfolding has_filter
held-has P n [] a e = absurd (true≢false (sym e))
held-has P n (q ∷ l) a e = go (same_filter n q.0) refl e (held-has P n l a.1)
  where
    go : (t : Bool) → same_filter n q.0 ≡ t → (t || has_filter n l) ≡ true → (has_filter n l ≡ true → P n) → P n
    go true z e f = rw (filter_order.eq_true n q.0 z) a.0
    go false z e f = f e

not_deep : (s : List ℕ) → RetainedStore s → (n : Filter) → 128 < length n → (t : Bool) → has_filter n (held_in s) ≡ t → t ≡ false
not_deep s st n h true e =
    let d : Accepts name_rules n = held-has (Accepts name_rules) n (held_in s) st.texts e in
    absurd (omega (arith, d.depth))
not_deep s st n h false e = refl

pub deep_absent : (s f : List ℕ) → checked (name_rules f) ≡ Ok tt → {k : ℕ} → k ≡ length (split f) → 128 < k → Erases f s s (Ok 4)
deep_absent s f fine e h =
    record {
      does = λ (x : Stored).
          record { does = λ (st : RetainedStore s). erase-none s st f x fine (not_deep s st (split f) (omega (arith, e)) (has_filter (split f) (held_in s)) refl) };
    }

-- a name of which a node is missing is not held
pub missing_absent : (s : List ℕ) {base n room : ℕ} → UnitsOf s base n room → (f : List ℕ) → checked (name_rules f) ≡ Ok tt → length (split f) ≤ 128 → {p : Path} → PathFound base s n f p → p.from ≤ length f
    → Erases f s s (Ok 4)
missing_absent s {base} {n} units f fine few {p} pf q =
    record {
      does = λ (x : Stored).
          record {
            does = λ (st : RetainedStore s).
                let F = forest_at stored_of s in
                erase-none s st f x fine
                (has_is s st f ∙ ap (λ (v : List Stored). not (null v)) (holds-none base s n f p pf records F (stands records 2 s units F (retained_holds s st)) few q));
          };
    }

-- a payload of any length but 0 sets
pub sets : (f : List ℕ) (x : Stored) (s t : List ℕ) {r : Result ℕ Refusal} (payload : ℕ) → (payload ≡ 0 → ⊥) → Does retained_store (set f 1 x) s t r → Does retained_store (set f payload x) s t r
sets f x s t zero n d = absurd (n refl)
sets f x s t (suc k) n d =
    record { does = λ (st : RetainedStore s). let w = d.does st in record { told = w.told; store = w.store; holds = w.holds; room = w.room; size = w.size; beyond = w.beyond; untouched = w.untouched } }

pub erases : (f : List ℕ) (x : Stored) (s t : List ℕ) {r : Result ℕ Refusal} (payload : ℕ) → payload ≡ 0 → Erases f s t r → Does retained_store (set f payload x) s t r
erases f x s t payload e d = rw e (d.does x)

-- whatever the payload, the name is tested first
pub name_refused : (f : List ℕ) (x : Stored) (s : List ℕ) (payload : ℕ) {k : Result ⊤ Refusal} {r : Refusal} → k ≡ checked (name_rules f) → k ≡ Err r → Does retained_store (set f payload x) s s (Err r)
name_refused f x s zero q z = text_refused retained_store s (set f 0 x) (name_rules f) [] refl q z
name_refused f x s (suc k) q z =
    text_refused retained_store s (set f (suc k) x) (name_rules f) (depth_rule f ∷ room_rules (room_at s) (has_filter (split f) (held_in s)) (set_held (split f) x (held_in s))) refl q z

-- the units that a walk is lent, and a store that was swept
module _ (s : List ℕ) {base n room : ℕ} (units : UnitsOf s base n room) where
  pub lent_units : (unit_at base n ≤ length s) × (64 + n ≤ base) × (n < 4294967296)
  lent_units = (omega (arith, units.within, units.long, units.base_is), omega (arith, units.within, units.base_is), omega (arith, units.within, units.small))

  pub swept : (clock : ℕ) {t : List ℕ} {k : ℕ} → Removed clock base n s t k → Does retained_store (sweep clock) s t (Ok k)
  swept clock {t} {k} x =
      record {
        does = λ (st : RetainedStore s).
            let w = store_swept clock base n room s t k x units st in
            let e = retained (room_at s) (sweep clock) (held_in s) in
            let a = accepted_does e (held_in s) (text-passed e [] [] refl refl) in
            record {
              told = ap answered w.count ∙ sym a.0;
              store = w.store;
              holds = w.held_is ∙ sym a.1;
              room = w.room;
              size = w.framed.long;
              beyond = w.framed.back;
              untouched = tt;
            };
      }
