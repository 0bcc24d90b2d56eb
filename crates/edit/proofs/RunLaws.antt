-- A run of calls on a region leaves held what the history of its calls says. Assumes nothing.
use Rattle.std.specs.Prelude.{Err, Ok, Result, ⊤}
use mathlib.Core.Path.{◌≡◌, refl, sym, ap, ◌∙◌}
use mathlib.Core.Bool.{true, false, not}
use mathlib.Core.List.{List, [], ◌∷◌}
use Prim.Native.Nat.{ℕ}
use Rattle.refusal.specs.declared.Refusal.{Refusal}
use Rattle.held.specs.History.{Effect, refused, outcome_of, outcome, verdict, result, run, for_room, has_room}
use Rattle.region.specs.Store.{room_at}
use Rattle.edit.specs.Calls.{StoreKind, told_as, Step, Calls, Does}
use Rattle.edit.specs.Runs.{refused_for_room, Runs, ended, called, Empty}
use Rattle.held.proofs.Orders.{and_both}

pub same_refusal : {a b : Refusal} → refused a ≡ refused b → a ≡ b
same_refusal e = cc

-- the verdict was for room exactly where the answer says so
not_for_room : {H : Type 0} (e : Effect H) (r : Result ℕ Refusal) → told_as r ≡ outcome e → refused_for_room r ≡ false → for_room (verdict e) ≡ false
unfolding outcome
not_for_room e r h q = go (verdict e) refl r h q
  where
    go : (v : Result ⊤ Refusal) → verdict e ≡ v → (r : Result ℕ Refusal) → told_as r ≡ outcome_of v e.answer → refused_for_room r ≡ false → for_room v ≡ false
    go (Ok _) z r h q = refl
    go (Err x) z (Ok n) h q = cc
    go (Err x) z (Err y) h q = ap (λ (a : Refusal). for_room (Err a)) (sym (same_refusal h)) ∙ q

pub record RunHolds {C H : Type 0} (k : StoreKind C H) (cs : List C) (s t : List ℕ) : Type 0 where
  pub store : k.Store t
  pub holds : k.held_in t ≡ run k.effect (room_at s) cs (k.held_in s)
  pub roomy : has_room k.effect (room_at s) cs (k.held_in s) ≡ true

module _ {C H : Type 0} (k : StoreKind C H) where
  on : (c : C) (cs : List C) (s t u : List ℕ) (r : Result ℕ Refusal) → Step k c s t r → refused_for_room r ≡ false → RunHolds k cs t u → RunHolds k (c ∷ cs) s u
  on c cs s t u r a q b =
      let e : Effect H = k.effect (room_at s) c (k.held_in s) in
      let f : for_room (verdict e) ≡ false = not_for_room e r a.told q in
      let h : run k.effect (room_at t) cs (k.held_in t) ≡ run k.effect (room_at s) cs (result e (k.held_in s)) = rw (a.room, a.holds) in
      let g : has_room k.effect (room_at s) cs (result e (k.held_in s)) ≡ true = (rw (a.room, a.holds) at b.roomy) in
      record { store = b.store; holds = b.holds ∙ h; roomy = and_both (not (for_room (verdict e))) (has_room k.effect (room_at s) cs (result e (k.held_in s))) (ap not f) g }

  pub run_holds : {cs : List C} {s t : List ℕ} → k.Store s → Runs k cs s t → RunHolds k cs s t
  run_holds st ended = record { store = st; holds = refl; roomy = refl }
  run_holds st (called {c = c} {cs = cs} {s = s} {t = t} {u = u} {r = r} a q rest) = let b = a.does st in on c cs s t u r b q (run_holds b.store rest)

-- a call that tests the region does on a store what the one does that does not
pub calls_do : {C H : Type 0} (k : StoreKind C H) {c : C} {s t : List ℕ} {r : Result ℕ Refusal} → Calls k c s t r → Does k c s t r
calls_do k a = record { does = a.on_store }

-- what a run makes of a store that holds nothing
pub from_empty : {C X : Type 0} (k : StoreKind C (List X)) {cs : List C} {s t : List ℕ} → Empty k s → Runs k cs s t
    → (has_room k.effect (room_at s) cs [] ≡ true) × (k.held_in t ≡ run k.effect (room_at s) cs []) × k.Store t
from_empty k a x = let r = run_holds k a.store x in (rw a.nothing at r.roomy, rw a.nothing at r.holds, r.store)
