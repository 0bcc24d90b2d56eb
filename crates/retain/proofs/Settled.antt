-- No second outcome meets a promise of this crate: neither another answer, nor another held set or other capacities, nor another
-- byte in a buffer. Assumes nothing.
use Rattle.std.specs.Prelude.{Err, Ok, Result}
use Rattle.region.specs.declared.Pairs.{Pairs}
use Rattle.refusal.specs.declared.Refusal.{Refusal}
use Rattle.retain.specs.declared.Page.{Page}
use mathlib.Core.Path.{◌≡◌, ap}
use Prim.Native.Nat.{ℕ}
use mathlib.Core.List.{List}
use lib.ListN.{length}
use Rattle.lent.specs.Numbers.{AreBytes}
use Rattle.topic.specs.Settled.{Settles}
use Rattle.held.specs.Retained.{Call}
use Rattle.region.specs.declared.Kind.TheVariants.{Retained}
use Rattle.region.specs.Store.{RetainedStore}
use Rattle.audit.proofs.Stores.{decided}
use Rattle.edit.specs.declared.Listed.{Listed}
use Rattle.edit.specs.Calls.{Calls}
use Rattle.edit.specs.Counts.{Counts}
use Rattle.edit.specs.Same.{Same}
use Rattle.edit.proofs.Settled.{same_answer, calls_settled, gives_settled, counts_settled}
use Rattle.retain.specs.Calls.{held_in, retained_store}
use Rattle.retain.specs.Counted.{names_told}
use Rattle.retain.specs.Lookups.{Looks, Pages}

module _ (s : List ℕ) (all : AreBytes s) where
  -- `set` and `remove_expired`
  pub changes_settled : (call : Call) {t u : List ℕ} {r q : Result ℕ Refusal} → Calls retained_store call s t r → Calls retained_store call s u q → (r ≡ q) × Same retained_store t u
  changes_settled call x y = calls_settled retained_store call s (decided Retained s all) x y

  pub get_settled : (filter : List ℕ) (clock : ℕ) (before : List ℕ) {after after' : List ℕ} {r q : Result Listed Refusal} → Looks s filter clock before after r → Looks s filter clock before after' q
      → (r ≡ q) × (after ≡ after')
  get_settled filter clock before x y = gives_settled (decided Retained s all) x y

  pub page_settled : (clock offset limit : ℕ) (before : List ℕ) {after after' : List ℕ} {r q : Result Page Refusal} → Pages s clock offset limit before after r → Pages s clock offset limit before after' q
      → (r ≡ q) × (after ≡ after')
  page_settled clock offset limit before x y = gives_settled (decided Retained s all) x y

  pub count_settled : Settles (λ (r : Result Pairs Refusal). Counts (RetainedStore s) (length (held_in s)) (names_told r))
  count_settled r q x y = once r q (counts_settled (decided Retained s all) x y)
    where
      once : (r q : Result Pairs Refusal) → names_told r ≡ names_told q → r ≡ q
      once (Ok n) (Ok m) e = ap {B = Result Pairs Refusal} (λ (x : ℕ). Ok (record { 0 = x })) (same_answer e)
      once (Err x) (Err y) e = cc
      once (Ok n) (Err y) e = cc
      once (Err x) (Ok m) e = cc
