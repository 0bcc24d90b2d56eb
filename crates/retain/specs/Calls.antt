-- TO BELIEVE. The store of retained names as a kind of store in regions: `Calls` of `edit` says what its calls that change it do,
-- `retained` of `held` what they answer and leave held. Assumes nothing.
use Rattle.std.specs.Prelude.{Option, None, Some}
use Rattle.std.specs.Prelude.{ℕ, List}
use Rattle.std.proofs.Math.Option.{Option as Maybe, none, some}
use Rattle.held.specs.Retained.{Stored, Named, Call, retained}
use Rattle.held.specs.Forest.{held}
use Rattle.region.specs.Units.{stored_of}
use Rattle.region.specs.Store.{forest_at, RetainedStore}
use Rattle.edit.specs.Calls.{StoreKind}

-- what a region holds
abbrev pub held_in : List ℕ → List Named
held_in s = held (forest_at stored_of s)

abbrev pub retained_store : StoreKind Call (List Named)
retained_store = record { Store = RetainedStore; held_in = held_in; effect = retained }

-- a record: "handle (u32) and a moment or none"
abbrev pub moment_of : Option ℕ → Maybe ℕ
moment_of None = none
moment_of (Some m) = some m

abbrev pub stored_as : (handle : ℕ) → Option ℕ → Stored
stored_as handle m = record { handle = handle; moment = moment_of m }
