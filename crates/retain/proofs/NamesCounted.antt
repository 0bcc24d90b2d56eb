-- The names of a region that was tested, as its header has them. Assumes nothing.
use mathlib.Core.Path.{◌≡◌, ◌∙◌}
use Prim.Native.Nat.{ℕ}
use mathlib.Core.Bool.{Bool, false, not}
use mathlib.Core.List.{List}
use lib.ListN.{length}
use Rattle.lent.specs.Total.{read}
use Rattle.held.specs.History.{answered}
use Rattle.region.specs.Units.{stored_of}
use Rattle.region.specs.Store.{forest_at, RetainedStore}
use Rattle.region.proofs.CountLaws.{pairs_kept}
use Rattle.audit.specs.Decides.{Decides}
use Rattle.edit.specs.Counts.{Counts}
use Rattle.edit.proofs.CountLaws.{counted}
use Rattle.retain.specs.Calls.{held_in}

pub names-counted : {s : List ℕ} {t : Bool} (d : Decides t (RetainedStore s)) {k : ℕ} → k ≡ read 2 12 s → not t ≡ false → Counts (RetainedStore s) (length (held_in s)) (answered k)
names-counted {s} d q h = counted d (λ (p : RetainedStore s). q ∙ pairs_kept (forest_at stored_of s) s p.written) h
