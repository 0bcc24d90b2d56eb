-- No second outcome meets a promise of `Calls`, `Gives` or `Counts`: on a store it is what `held` says, and on any other region it is
-- 11 with nothing changed. That a region is the one or the other is the test of `audit`. Assumes nothing.
use Rattle.std.specs.Prelude.{Err, Ok, Result, ⊤}
use Rattle.refusal.specs.declared.Refusal.{Refusal}
use mathlib.Core.Path.{◌≡◌, refl, sym, ap, ◌∙◌}
use Prim.Native.Nat.{ℕ}
use mathlib.Core.Bool.{Bool, true, false, true≢false}
use mathlib.Core.List.{List}
use Rattle.topic.specs.Rules.{Rule}
use Rattle.held.specs.History.{Outcome, answered}
use Rattle.audit.specs.Decides.{Decides, Decided}
use Rattle.edit.specs.Calls.{StoreKind, told_as, Step, Calls, Does}
use Rattle.edit.specs.Counts.{Counts}
use Rattle.edit.specs.Given.{GivesKnown, Gives}
use Rattle.edit.specs.Same.{Same}
use Rattle.edit.proofs.RunLaws.{same_refusal}

-- a region is a store, or it is none
pub store-or-none : {P Store : Type 0} → Decided Store → (Store → P) → ((Store → ⊥) → P) → P
store-or-none {P} {Store} d on_store on_other = go d.answer d.decides
  where
    go : (b : Bool) → Decides b Store → P
    go true e = on_store (e.yes refl)
    go false e = on_other (λ st. true≢false (sym (e.no st)))

pub same_answer : {n m : ℕ} → answered n ≡ answered m → n ≡ m
same_answer e = cc

-- an answer is known by what is told of it
told_once : (r q : Result ℕ Refusal) → told_as r ≡ told_as q → r ≡ q
told_once (Ok n) (Ok m) e = ap Ok (same_answer e)
told_once (Err x) (Err y) e = ap Err (same_refusal e)
told_once (Ok n) (Err y) e = cc
told_once (Err x) (Ok m) e = cc

module _ {C H : Type 0} (k : StoreKind C H) (call : C) (s : List ℕ) {t u : List ℕ} {r q : Result ℕ Refusal} where
  -- a call on a store
  step_settled : Step k call s t r → Step k call s u q → (r ≡ q) × Same k t u
  step_settled a b = (
    told_once r q (a.told ∙ sym b.told),
    record { alike = (λ _. b.store, λ _. a.store); held = a.holds ∙ sym b.holds; room = a.room ∙ sym b.room; size = a.size ∙ sym b.size },
  )

  -- a call on any region
  pub calls_settled : Decided (k.Store s) → Calls k call s t r → Calls k call s u q → (r ≡ q) × Same k t u
  calls_settled d x y =
      store-or-none d (λ st. step_settled (x.on_store st) (y.on_store st))
      (λ no. other (x.on_other no) (y.on_other no))
    where
      other : {z : Result ℕ Refusal} → (r ≡ z) × (t ≡ s) → (q ≡ z) × (u ≡ s) → (r ≡ q) × Same k t u
      other a b = (a.0 ∙ sym b.0, rw (a.1, b.1) (record { alike = (λ st. st, λ st. st); held = refl; room = refl; size = refl }))

  -- a call that does not test the region, where it is given a store
  pub does_settled : k.Store s → Does k call s t r → Does k call s u q → (r ≡ q) × Same k t u
  does_settled st x y = step_settled (x.does st) (y.does st)

-- a call that writes records: its answer, and every byte of the buffer
module _ {A Store : Type 0} {rules : List Rule} {answer : Result ⊤ Refusal → A} {out before after after' : List ℕ} {r q : A} where
  pub given_settled : Store → GivesKnown Store rules answer out before after r → GivesKnown Store rules answer out before after' q → (r ≡ q) × (after ≡ after')
  given_settled st x y = (x.told st ∙ sym (y.told st), x.given st ∙ sym (y.given st))

  pub gives_settled : Decided Store → Gives Store rules answer out before after r → Gives Store rules answer out before after' q → (r ≡ q) × (after ≡ after')
  gives_settled d x y =
      store-or-none d (λ st. given_settled st x.on_store y.on_store)
      (λ no. ((x.on_other no).0 ∙ sym (y.on_other no).0, (x.on_other no).1 ∙ sym (y.on_other no).1))

-- a call that counts
pub counts_settled : {Store : Type 0} → Decided Store → {count : ℕ} {t u : Outcome} → Counts Store count t → Counts Store count u → t ≡ u
counts_settled d x y = store-or-none d (λ st. x.on_store st ∙ sym (y.on_store st)) (λ no. x.on_other no ∙ sym (y.on_other no))
