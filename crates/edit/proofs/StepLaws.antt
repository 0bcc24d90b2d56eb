-- What shows that a call on a store did what it should: from the rules that it tested, and what the region then holds. Assumes
-- nothing.
use Rattle.std.specs.Prelude.{Err, Ok, Result, ⊤}
use mathlib.Core.Path.{◌≡◌, refl, sym, ap, ◌∙◌}
use mathlib.Core.Bool.{cond}
use mathlib.Core.List.{List, ◌++◌}
use Prim.Native.Nat.{ℕ}
use Rattle.refusal.specs.declared.Refusal.{Refusal}
use Rattle.topic.specs.Rules.{Rule}
use Rattle.topic.specs.Answers.{checked}
use Rattle.held.specs.History.{Effect, verdict, answered, outcome_of, outcome, accepted, result}
use Rattle.held.specs.Forest.{Forest}
use Rattle.held.proofs.RoomLaws.{text-first, refused-stays}
use Rattle.region.specs.Forms.{Form}
use Rattle.region.specs.Store.{room_at}
use Rattle.change.proofs.EditLaws.{Becomes}
use Rattle.edit.specs.Calls.{StoreKind, Step, Does}

-- a text that was tested and accepted
pub text-accepted : (rules : List Rule) {k : Result ⊤ Refusal} → k ≡ checked rules → k ≡ Ok tt → checked rules ≡ Ok tt
text-accepted rules e q = sym e ∙ q

pub accepted_does : {H : Type 0} (e : Effect H) (h : H) → verdict e ≡ Ok tt → (outcome e ≡ answered e.answer) × (result e h ≡ e.after)
unfolding outcome result
accepted_does e h v = (ap (λ (w : Result ⊤ Refusal). outcome_of w e.answer) v, ap (λ (w : Result ⊤ Refusal). cond (accepted w) e.after h) v)

module _ {C H : Type 0} (k : StoreKind C H) (s : List ℕ) (call : C) where
  abbrev e : Effect H
  e = k.effect (room_at s) call (k.held_in s)

  -- a call that is refused, and one that changes nothing
  pub refused_step : k.Store s → (x : Refusal) → verdict e ≡ Err x → Step k call s s (Err x)
  refused_step st x v =
      let r = refused-stays e (k.held_in s) x v in
      record { told = sym r.0; store = st; holds = sym r.1; room = refl; size = refl; beyond = refl; untouched = refl }

  pub same_step : k.Store s → (n : ℕ) → verdict e ≡ Ok tt → e.answer ≡ n → e.after ≡ k.held_in s → Step k call s s (Ok n)
  same_step st n v a h =
      let r = accepted_does e (k.held_in s) v in
      record { told = sym (r.0 ∙ ap answered a); store = st; holds = sym (r.1 ∙ h); room = refl; size = refl; beyond = refl; untouched = tt }

  -- one that leaves another forest
  pub changed_step : {X : Type 0} (u : Form X) (kind : ℕ) (F : Forest X) (t : List ℕ) (n : ℕ) → verdict e ≡ Ok tt → e.answer ≡ n → Becomes u kind s t F → k.Store t → k.held_in t ≡ e.after
      → Step k call s t (Ok n)
  changed_step u kind F t n v a b st h =
      let r = accepted_does e (k.held_in s) v in
      record {
        told = sym (r.0 ∙ ap answered a);
        store = st;
        holds = h ∙ sym r.1;
        room = b.room;
        size = b.framed.long;
        beyond = b.framed.back;
        untouched = tt;
      }

  -- a text that is refused, whatever the region holds
  pub text_refused : (front back : List Rule) → e.texts ++ e.rooms ≡ front ++ back → {c : Result ⊤ Refusal} {x : Refusal} → c ≡ checked front → c ≡ Err x → Does k call s s (Err x)
  text_refused front back all {x = x} q z = record { does = λ (st : k.Store s). refused_step st x (text-first e front back all x (sym q ∙ z)) }
