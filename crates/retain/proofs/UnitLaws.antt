-- The unit of a record, as it is put together. Assumes nothing.
use Rattle.std.specs.Prelude.{None, Option, Some}
use mathlib.Core.Path.{◌≡◌, refl, ap, subst, ◌∙◌}
use mathlib.Core.List.{List}
use mathlib.Core.Option.{none-ne-some, some-injective}
use Prim.Native.Nat.{ℕ, ◌^◌, ◌<◌}
use lib.ListN.{replicate, set}
use Rattle.lent.specs.Numbers.{bytes}
use Rattle.lent.specs.Parts.{patch}
use Rattle.lent.specs.Total.{write}
use Rattle.region.specs.Units.{stored_bytes}
use Rattle.region.proofs.Instances.{stored_back}
use Rattle.retain.specs.Calls.{stored_as}
use Rattle.retain.specs.Units.{UnitOf}

never-bytes : (h : ℕ) → write 0 (bytes 4 h) (replicate 16 0) ≡ stored_bytes (stored_as h None)
unfolding write patch bytes stored_bytes
never-bytes h = refl

at-bytes : (h m : ℕ) → write 8 (bytes 8 m) (set (write 0 (bytes 4 h) (replicate 16 0)) 4 1) ≡ stored_bytes (stored_as h (Some m))
unfolding write patch bytes stored_bytes
at-bytes h m = refl

pub unit_never : (h : ℕ) {m : Option ℕ} {t : List ℕ} → h < 256 ^ 4 → m ≡ None → t ≡ write 0 (bytes 4 h) (replicate 16 0) → UnitOf (stored_as h m) t
unit_never h a e z =
    rw e (record { is = z ∙ never-bytes h; back = stored_back (stored_as h None) (record { handle = a; moment = λ k q. absurd (none-ne-some k q) }) })

pub unit-at : (h at : ℕ) {m : Option ℕ} {t u : List ℕ} → h < 256 ^ 4 → at < 256 ^ 8 → m ≡ Some at → t ≡ write 0 (bytes 4 h) (replicate 16 0) → u ≡ write 8 (bytes 8 at) (set t 4 1)
    → UnitOf (stored_as h m) u
unit-at h at a b e y z =
    rw e (record {
      is = z ∙ ap (λ (x : List ℕ). write 8 (bytes 8 at) (set x 4 1)) y ∙ at-bytes h at;
      back = stored_back (stored_as h (Some at)) (record { handle = a; moment = λ k q. subst (λ (n : ℕ). n < 256 ^ 8) (some-injective at k q) b });
    })
