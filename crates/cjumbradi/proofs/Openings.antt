-- What is told of the bytes needed and of opening, for the capacities as a caller gives them. Assumes nothing.
use Rattle.std.specs.Prelude.{Result, ⊤}
use Rattle.refusal.specs.declared.Refusal.{Refusal}
use mathlib.Core.Path.{◌≡◌, ap, ◌∙◌}
use Prim.Native.Nat.{ℕ}
use mathlib.Core.List.{List}
use Rattle.refusal.specs.Refusals.{Told}
use Rattle.topic.specs.Answers.{checked}
use Rattle.held.specs.Room.{Room}
use Rattle.region.specs.declared.Kind.{Kind}
use Rattle.region.specs.Opening.{needed_of, open_rules, opened_as}
use Rattle.cjumbradi.specs.Calls.{of_checked}
use Rattle.cjumbradi.specs.Regions.{of_size}

module _ {q r : Room} (same : q ≡ r) {t : Told} where
  pub needed-told : {x : Result ℕ Refusal} → t ≡ of_size x → x ≡ needed_of q → t ≡ of_size (needed_of r)
  needed-told e n = e ∙ ap of_size (n ∙ ap needed_of same)

  pub opened-told : (k : Kind) (s : List ℕ) {u : List ℕ} {x : Result ⊤ Refusal} → t ≡ of_checked x → x ≡ checked (open_rules q s) → u ≡ opened_as x k q s → (t ≡ of_checked (checked (open_rules r s))) × (u ≡ opened_as (checked (open_rules r s)) k r s)
  opened-told k s e n w = (
    e ∙ ap of_checked (n ∙ ap (λ (z : Room). checked (open_rules z s)) same),
    w ∙ ap (λ (z : Result ⊤ Refusal). opened_as z k q s) n ∙ ap (λ (z : Room). opened_as (checked (open_rules z s)) k z s) same,
  )
