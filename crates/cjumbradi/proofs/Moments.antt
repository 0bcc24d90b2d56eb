-- A moment as a caller gives it. Assumes nothing.
use Rattle.std.specs.Prelude.{None, Option, Result, Some}
use Rattle.refusal.specs.declared.Refusal.{Refusal}
use mathlib.Core.Path.{◌≡◌, subst}
use mathlib.Core.List.{List}
use Prim.Native.Nat.{ℕ}
use borrow.Author.Tests.{eq-eqb, ne_eqb}
use Rattle.refusal.specs.Refusals.{Told}
use Rattle.held.specs.Retained.{set}
use Rattle.edit.specs.Calls.{Calls}
use Rattle.retain.specs.Calls.{retained_store, stored_as}
use Rattle.cjumbradi.specs.Stores.{of_changed, Tells}
use Rattle.cjumbradi.specs.Moments.{given_moment}

pub given_never : {expires : ℕ} (moment : ℕ) → expires ≡ 0 → None ≡ given_moment expires moment
unfolding given_moment
given_never {expires} moment h = rw (eq-eqb expires 0 h)

pub given_at : {expires : ℕ} (moment : ℕ) → (expires ≡ 0 → ⊥) → Some moment ≡ given_moment expires moment
unfolding given_moment
given_at {expires} moment h = rw (ne_eqb expires 0 h)

-- what is told of setting a record with such a moment
pub set_told : {f s t : List ℕ} (payload handle expires moment : ℕ) {when : Option ℕ} {r : Result ℕ Refusal} {told : Told} → when ≡ given_moment expires moment
    → Calls retained_store (set f payload (stored_as handle when)) s t r → told ≡ of_changed r
    → Tells of_changed (Calls retained_store (set f payload (stored_as handle (given_moment expires moment))) s t) told
set_told {f} {s} {t} payload handle expires moment {r = r} e w z =
    record { answer = r; promised = subst (λ (m : Option ℕ). Calls retained_store (set f payload (stored_as handle m)) s t r) e w; said = z }
