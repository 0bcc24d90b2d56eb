-- TO BELIEVE. The test of a region: it says yes exactly of a store of the kind. Assumes nothing.
use Rattle.std.specs.Prelude.{◌≡◌, ℕ, Bool, true, List}
use Rattle.region.specs.declared.Kind.{Kind}
use Rattle.region.specs.declared.Kind.TheVariants.{Subscriptions, Retained}
use Rattle.region.specs.Store.{SubscriptionStore, RetainedStore}

abbrev pub StoreOf : Kind → List ℕ → Type 0
StoreOf Subscriptions s = SubscriptionStore s
StoreOf Retained s = RetainedStore s

-- t is true exactly where P holds
pub record Decides (t : Bool) (P : Type 0) : Type 0 where
  pub yes : t ≡ true → P
  pub no : P → t ≡ true

-- a question that has an answer, yes or no
pub record Decided (P : Type 0) : Type 0 where
  pub answer : Bool
  pub decides : Decides answer P
