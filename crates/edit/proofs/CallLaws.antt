-- A call that tests the region first. Assumes nothing.
use Rattle.std.specs.Prelude.{Err, Result}
use Rattle.refusal.specs.declared.Refusal.{Refusal}
use mathlib.Core.Path.{◌≡◌, refl, sym, ◌∙◌}
use mathlib.Core.Bool.{Bool, true, false, not, true≢false}
use mathlib.Core.List.{List}
use Prim.Native.Nat.{ℕ}
use borrow.Author.Tests.{not-true, not-false}
use Rattle.refusal.specs.declared.Refusal.TheVariants.{NotAStore}
use Rattle.audit.specs.Decides.{Decides}
use Rattle.edit.specs.Calls.{StoreKind, Calls, Does}

-- the test's answer, as code asks for it
module _ {P : Type 0} {t : Bool} (d : Decides t P) where
  pub none : not t ≡ true → P → ⊥
  none h p = true≢false (sym (d.no p) ∙ not-true t h)

  pub one : not t ≡ false → P
  one h = d.yes (not-false t h)

module _ {C H : Type 0} (k : StoreKind C H) (call : C) (s : List ℕ) {t : Bool} (d : Decides t (k.Store s)) where
  pub not_a_store : not t ≡ true → Calls k call s s (Err NotAStore)
  not_a_store h = record { on_store = λ (st : k.Store s). absurd (none d h st); on_other = λ (n : k.Store s → ⊥). (refl, refl) }

  pub store_does : not t ≡ false → {u : List ℕ} {r : Result ℕ Refusal} → Does k call s u r → Calls k call s u r
  store_does h a = record { on_store = λ (st : k.Store s). a.does st; on_other = λ (n : k.Store s → ⊥). absurd (n (one d h)) }
