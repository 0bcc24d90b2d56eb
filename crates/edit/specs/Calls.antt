-- TO BELIEVE. What a call that changes a store does, whatever its kind: it answers, and leaves held, what the kind's definition in
-- `held` says for what was held; it keeps the capacities, and touches no byte past those that are needed. A refusal changes
-- nothing. Assumes nothing.
use Rattle.std.specs.Prelude.{Err, Ok, Result}
use Rattle.refusal.specs.declared.Refusal.{Refusal}
use Rattle.std.specs.Prelude.{◌≡◌, ℕ, List, length, drop}
use Rattle.refusal.specs.declared.Refusal.TheVariants.{NotAStore}
use Rattle.held.specs.History.{Outcome, answered, refused, outcome, result, Kind}
use Rattle.region.specs.Layout.{needed_bytes}
use Rattle.region.specs.Store.{room_at}

-- a kind of store in regions: which regions are one, what such a region holds, and what the calls C do
pub record StoreKind (C H : Type 0) : Type 1 where
  pub Store : List ℕ → Type 0
  pub held_in : List ℕ → H
  pub effect : Kind C H

-- the answer of a call
abbrev pub told_as : Result ℕ Refusal → Outcome
told_as (Ok n) = answered n
told_as (Err r) = refused r

abbrev pub Untouched : Result ℕ Refusal → List ℕ → List ℕ → Type 0
Untouched (Ok n) s t = Unit {0}
Untouched (Err r) s t = t ≡ s

-- a call on the store s, which it leaves as t
pub record Step {C H : Type 0} (k : StoreKind C H) (call : C) (s t : List ℕ) (r : Result ℕ Refusal) : Type 0 where
  pub told : told_as r ≡ outcome (k.effect (room_at s) call (k.held_in s))
  pub store : k.Store t
  pub holds : k.held_in t ≡ result (k.effect (room_at s) call (k.held_in s)) (k.held_in s)
  pub room : room_at t ≡ room_at s
  pub size : length t ≡ length s
  pub beyond : drop (needed_bytes (room_at s)) t ≡ drop (needed_bytes (room_at s)) s
  pub untouched : Untouched r s t

-- a call on a region: on a store it is a step, and any other region is refused by 11 and left as it was
pub record Calls {C H : Type 0} (k : StoreKind C H) (call : C) (s t : List ℕ) (r : Result ℕ Refusal) : Type 0 where
  pub on_store : k.Store s → Step k call s t r
  pub on_other : (k.Store s → ⊥) → (r ≡ Err NotAStore) × (t ≡ s)

-- a call that does not test the region: what it does where it is given a store
pub record Does {C H : Type 0} (k : StoreKind C H) (call : C) (s t : List ℕ) (r : Result ℕ Refusal) : Type 0 where
  pub does : k.Store s → Step k call s t r
