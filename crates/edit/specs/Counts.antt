-- TO BELIEVE. What a call that counts tells, whatever the kind of store: of a store the count, and of any other region 11. Assumes
-- nothing.
use Rattle.std.specs.Prelude.{◌≡◌, ℕ}
use Rattle.refusal.specs.declared.Refusal.TheVariants.{NotAStore}
use Rattle.held.specs.History.{Outcome, answered, refused}

pub record Counts (Store : Type 0) (count : ℕ) (told : Outcome) : Type 0 where
  pub on_store : Store → told ≡ answered count
  pub on_other : (Store → ⊥) → told ≡ refused NotAStore
