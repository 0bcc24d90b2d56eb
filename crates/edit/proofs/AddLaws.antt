-- The tests before anything is added. Assumes nothing.
use Rattle.std.specs.Prelude.{Err, Ok, Result, ⊤}
use mathlib.Core.Path.{◌≡◌, sym, ap, ◌∙◌}
use mathlib.Core.Bool.{false}
use mathlib.Core.List.{List, [], ◌∷◌}
use Prim.Native.Nat.{ℕ, zero, suc, ◌+◌, ◌-◌, ◌≤◌, ◌<◌}
use native.Mathlib.Omega.{arith}
use lib.ListN.{length, take, get_or}
use Rattle.refusal.specs.declared.Refusal.{Refusal}
use Rattle.refusal.specs.declared.Refusal.TheVariants.{NotAStore}
use Rattle.lent.specs.Total.{read}
use Rattle.topic.specs.Answers.{checked}
use Rattle.held.specs.Room.{Room, full_rules}
use Rattle.region.specs.declared.Capacities.{Capacities}
use Rattle.region.specs.Opening.{room_of}
use Rattle.region.specs.Shapes.{CapacitiesOf, UnitsOf}
use Rattle.level.specs.Levels.{split}
use Rattle.level.specs.Places.{levels_at}
use Rattle.level.proofs.Split.{split_cons, levels-none}
use Rattle.held.specs.Ascending.{All}
use Rattle.seek.specs.declared.Path.{Path}
use Rattle.seek.specs.PathFound.{PathFound}
use Rattle.seek.proofs.PathLaws.{nodes-all}
use Rattle.room.specs.declared.Load.{Load}
use Rattle.room.specs.Runs.{WantedFor}
use Rattle.room.specs.Changes.{Under, none_under, more_under, made_unit, made_chain}
use Rattle.edit.specs.Adding.{fitting, Added, no_fit, no-room, added, ChainAdded}

module _ (s : List ℕ) {base n room : ℕ} (units : UnitsOf s base n room) {c : Capacities} (cs : CapacitiesOf s c) (nodes cells more : ℕ) {fit : Result ⊤ Refusal}
    (e : fit ≡ checked (full_rules (room_of c) false (read 2 10 s + nodes) (read 2 12 s + 1) (read 2 14 s + cells))) (made : List ℕ) where
  fit_is : fit ≡ fitting s nodes cells
  fit_is = e ∙ ap (λ (r : Room). checked (full_rules r false (read 2 10 s + nodes) (read 2 12 s + 1) (read 2 14 s + cells))) (cs.room_is (omega (arith, units.long)))

  pub add_refused : {r : Refusal} → fit ≡ Err r → Added s n room nodes cells more made s (Err r)
  add_refused q = no_fit (sym fit_is ∙ q)

  pub add_short : fit ≡ Ok tt → room < n + more → Added s n room nodes cells more made s (Err NotAStore)
  add_short q h = no-room (sym fit_is ∙ q) h

  add_made : fit ≡ Ok tt → n + more ≤ room → {t : List ℕ} → t ≡ made → Added s n room nodes cells more made t (Ok 1)
  add_made q h z = rw z (added (sym fit_is ∙ q) h)

module _ (s : List ℕ) {base n room : ℕ} (units : UnitsOf s base n room) {c : Capacities} (cs : CapacitiesOf s c) {fit : Result ⊤ Refusal} (unit : List ℕ) where
  pub unit_added : (ns : List ℕ) (node at : ℕ) → fit ≡ checked (full_rules (room_of c) false (read 2 10 s + 0) (read 2 12 s + 1) (read 2 14 s + 0)) → fit ≡ Ok tt → n + 1 ≤ room
      → {t : List ℕ} → t ≡ made_unit base n ns node at unit s → Added s n room 0 0 1 (made_unit base n ns node at unit s) t (Ok 1)
  unit_added ns node at e q h z = add_made s units cs 0 0 1 e (made_unit base n ns node at unit s) q h z

-- new nodes for the levels that are missing from a path
under_all : (n : ℕ) (l : List ℕ) → All (λ (i : ℕ). i < n) l → Under n l
under_all n [] a = none_under
under_all n (i ∷ l) a = more_under a.0 (under_all n l a.1)

module _ {s : List ℕ} {base n room : ℕ} (units : UnitsOf s base n room) {f : List ℕ} {p : Path} (pf : PathFound base s n f p) where
  pub nodes-under : length p.nodes ≡ 128 → Under n (take p.depth p.nodes)
  nodes-under h = under_all n (take p.depth p.nodes) (nodes-all base s n f p pf h)

  pub chain_deep : length (split f) ≤ 128 → p.depth + 1 + length (levels_at f p.from) ≤ 256
  chain_deep h = omega (arith, pf.count)

  module _ {load : Load} (w : WantedFor (levels_at f p.from) load) {c : Capacities} (cs : CapacitiesOf s c) {fit : Result ⊤ Refusal}
      (e : fit ≡ checked (full_rules (room_of c) false (read 2 10 s + load.nodes) (read 2 12 s + 1) (read 2 14 s + load.cells))) (unit : List ℕ) where
    abbrev made : List ℕ
    made = made_chain base n (take p.depth p.nodes) p.place (p.depth + 1) unit (levels_at f p.from) load s

    pub chain_refused : {r : Refusal} → fit ≡ Err r → ChainAdded s base n room p f unit s (Err r)
    chain_refused q = record { load = load; wanted = w; adds = add_refused s units cs load.nodes load.cells load.units e made q }

    module _ (q : fit ≡ Ok tt) where
      pub chain_short : room - n < load.units → ChainAdded s base n room p f unit s (Err NotAStore)
      chain_short h = record { load = load; wanted = w; adds = add_short s units cs load.nodes load.cells load.units e made q (omega (arith, units.within)) }

      pub chain_added : load.units ≤ room - n → {t : List ℕ} → t ≡ made → ChainAdded s base n room p f unit t (Ok 1)
      chain_added h z =
          record { load = load; wanted = w; adds = add_made s units cs load.nodes load.cells load.units e made q (omega (arith, units.within)) z }

pub under-take : (n : ℕ) (l : List ℕ) (i k : ℕ) → i ≤ k → Under n (take k l) → Under n (take i l)
under-take n l zero k h u = none_under
under-take n [] (suc i) k h u = none_under
under-take n (x ∷ l) (suc i) zero h u = absurd (omega arith)
under-take n (x ∷ l) (suc i) (suc k) h (more_under a u) = more_under a (under-take n l i k (omega arith) u)

-- the last node of a path that is there
module _ {s : List ℕ} {base n room : ℕ} (units : UnitsOf s base n room) {f : List ℕ} {p : Path} (pf : PathFound base s n f p) (q : length f < p.from) where
  pub some_depth : 1 ≤ p.depth
  some_depth = omega (arith, pf.count, ap length (levels-none f p.from q), ap length (split_cons f))

  pub last_below : get_or p.nodes (p.depth - 1) 0 < n
  last_below = pf.nodes_in (p.depth - 1) (omega (arith, some_depth))

  pub last_under : length p.nodes ≡ 128 → Under n (take (p.depth - 1) p.nodes)
  last_under h = under-take n p.nodes (p.depth - 1) p.depth (omega arith) (nodes-under units pf h)
