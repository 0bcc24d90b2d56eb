-- What is told of setting a record with a moment as a caller gives it, in a store that is not tested. Assumes nothing.
use Rattle.std.specs.Prelude.{Option, Result}
use Rattle.refusal.specs.declared.Refusal.{Refusal}
use mathlib.Core.Path.{◌≡◌, subst}
use mathlib.Core.List.{List}
use Prim.Native.Nat.{ℕ}
use Rattle.refusal.specs.Refusals.{Told}
use Rattle.held.specs.Retained.{set}
use Rattle.edit.specs.Calls.{Does}
use Rattle.retain.specs.Calls.{retained_store, stored_as}
use Rattle.cjumbradi.specs.Stores.{of_changed, Tells}
use Rattle.cjumbradi.specs.Moments.{given_moment}

pub known-set-told : {f s t : List ℕ} (payload handle expires moment : ℕ) {when : Option ℕ} {r : Result ℕ Refusal} {told : Told} → when ≡ given_moment expires moment
    → Does retained_store (set f payload (stored_as handle when)) s t r → told ≡ of_changed r
    → Tells of_changed (Does retained_store (set f payload (stored_as handle (given_moment expires moment))) s t) told
known-set-told {f} {s} {t} payload handle expires moment {r = r} e w z =
    record { answer = r; promised = subst (λ (m : Option ℕ). Does retained_store (set f payload (stored_as handle m)) s t r) e w; said = z }
