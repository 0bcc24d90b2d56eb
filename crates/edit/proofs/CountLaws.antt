-- A count that is told once the region was tested. Assumes nothing.
use mathlib.Core.Path.{◌≡◌, refl, ap}
use Prim.Native.Nat.{ℕ}
use mathlib.Core.Bool.{Bool, true, false, not}
use Rattle.refusal.specs.declared.Refusal.TheVariants.{NotAStore}
use Rattle.held.specs.History.{answered, refused}
use Rattle.audit.specs.Decides.{Decides}
use Rattle.edit.specs.Counts.{Counts}
use Rattle.edit.proofs.CallLaws.{none, one}

module _ {Store : Type 0} {t : Bool} (d : Decides t Store) where
  pub no_count : {count : ℕ} → not t ≡ true → Counts Store count (refused NotAStore)
  no_count h = record { on_store = λ (st : Store). absurd (none d h st); on_other = λ (n : Store → ⊥). refl }

  pub counted : {count k : ℕ} → (Store → k ≡ count) → not t ≡ false → Counts Store count (answered k)
  counted kept h = record { on_store = λ (st : Store). ap answered (kept st); on_other = λ (n : Store → ⊥). absurd (n (one d h)) }
