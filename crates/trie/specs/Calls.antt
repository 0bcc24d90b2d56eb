-- TO BELIEVE. The store of subscriptions as a kind of store in regions: `Calls` of `edit` says what its calls that change it do,
-- `subscriptions` of `held` what they answer and leave held. Assumes nothing.
use Rattle.std.specs.Prelude.{ℕ, List}
use Rattle.held.specs.Subscriptions.{Pair, Call, subscriptions}
use Rattle.held.specs.Forest.{held}
use Rattle.region.specs.Units.{value_of}
use Rattle.region.specs.Store.{forest_at, SubscriptionStore}
use Rattle.edit.specs.Calls.{StoreKind}

-- what a region holds
abbrev pub held_in : List ℕ → List Pair
held_in s = held (forest_at value_of s)

abbrev pub subscription_store : StoreKind Call (List Pair)
subscription_store = record { Store = SubscriptionStore; held_in = held_in; effect = subscriptions }
