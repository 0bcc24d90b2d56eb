-- TO BELIEVE. When two regions that a call may leave are the same: "For a store, settled means the held set and the capacities, not
-- the layout of its bytes" (document 01, 'Marking the promises'). Assumes nothing.
use Rattle.std.specs.Prelude.{◌≡◌, ℕ, List, length}
use Rattle.region.specs.Store.{room_at}
use Rattle.edit.specs.Calls.{StoreKind}

pub record Same {C H : Type 0} (k : StoreKind C H) (t u : List ℕ) : Type 0 where
  pub alike : (k.Store t → k.Store u) × (k.Store u → k.Store t)
  pub held : k.held_in t ≡ k.held_in u
  pub room : room_at t ≡ room_at u
  pub size : length t ≡ length u
