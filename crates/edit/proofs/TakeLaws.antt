-- The tests before anything is taken away. Assumes nothing.
use Rattle.std.specs.Prelude.{Err, Ok}
use mathlib.Core.Path.{◌≡◌, ap, ◌∙◌}
use mathlib.Core.Bool.{false}
use mathlib.Core.List.{List, [], ◌∷◌}
use Prim.Native.Nat.{ℕ, ◌-◌, ◌≤◌, ◌<◌}
use native.Mathlib.Omega.{arith}
use lib.Dec.{eqb}
use lib.ListN.{take, get_or}
use borrow.Author.Tests.{eq-eqb, ne_eqb}
use Rattle.refusal.specs.declared.Refusal.TheVariants.{NotAStore}
use Rattle.level.specs.Levels.{start_of}
use Rattle.level.specs.Places.{levels_at}
use Rattle.held.specs.Order.{Filter}
use Rattle.forest.specs.declared.Row.{Row}
use Rattle.forest.specs.Places.{RowAt}
use Rattle.room.specs.declared.Load.{Load}
use Rattle.room.specs.Runs.{run_units, WantedFor}
use Rattle.room.specs.Changes.{Under, taken_chain, taken_unit}
use Rattle.room.specs.Stay.{staying}
use Rattle.edit.specs.Taking.{alone_in, no_units, taken, PathTaken, OneLess}
use Rattle.edit.proofs.AddLaws.{under-take}

run_some : (gs : Filter) → 1 ≤ run_units gs
unfolding run_units
run_some [] = omega arith
run_some (g ∷ gs) = omega (arith, run_some gs)

module _ (s : List ℕ) (base n : ℕ) (nodes : List ℕ) (depth : ℕ) (f : List ℕ) (answer : ℕ) {stay at from : ℕ} (es : stay ≡ staying base s n (take depth nodes)) (ea : at ≡ get_or nodes stay 0)
    (ef : from ≡ start_of f stay) {load : Load} (w : WantedFor (levels_at f from) load) where
  wanted : WantedFor (levels_at f (start_of f (staying base s n (take depth nodes)))) load
  wanted = rw (← es, ← ef) w

  at_is : at ≡ get_or nodes (staying base s n (take depth nodes)) 0
  at_is = ea ∙ ap (λ (i : ℕ). get_or nodes i 0) es

  pub path_out : n ≤ at → PathTaken s base n nodes depth f answer s (Err NotAStore)
  path_out h = record { load = load; wanted = wanted; takes = no_units (rw (← at_is) (omega (arith, w.units_are, run_some (levels_at f from)))) }

  pub path-none : n - at < load.units → PathTaken s base n nodes depth f answer s (Err NotAStore)
  path-none h = record { load = load; wanted = wanted; takes = no_units (rw (← at_is) (omega arith)) }

  pub path-taken : at < n → load.units ≤ n - at → {t : List ℕ} → t ≡ taken_chain base n (take stay nodes) at load s → PathTaken s base n nodes depth f answer t (Ok answer)
  path-taken g h {t} e =
      let z : t ≡ taken_chain base n (take (staying base s n (take depth nodes)) nodes) (get_or nodes (staying base s n (take depth nodes)) 0) load s =
      e ∙ ap (λ (i : ℕ). taken_chain base n (take i nodes) at load s) es ∙ ap (λ (i : ℕ). taken_chain base n (take (staying base s n (take depth nodes)) nodes) i load s) at_is in
      record { load = load; wanted = wanted; takes = rw z (taken (rw (← at_is) (omega arith))) }

pub stay-under : (n : ℕ) (nodes : List ℕ) (stay depth : ℕ) → stay < depth → Under n (take depth nodes) → Under n (take stay nodes)
stay-under n nodes stay depth h u = under-take n nodes stay depth (omega arith) u

pub unit_out : (s : List ℕ) (base n : ℕ) (nodes : List ℕ) (node at answer : ℕ) → n ≤ at → OneLess s base n nodes node at answer s (Err NotAStore)
unit_out s base n nodes node at answer h = no_units (omega arith)

pub unit-less : (s : List ℕ) (base n : ℕ) (nodes : List ℕ) (node at answer : ℕ) → at < n → {t : List ℕ} → t ≡ taken_unit base n nodes node at s → OneLess s base n nodes node at answer t (Ok answer)
unit-less s base n nodes node at answer h e = rw e (taken (omega arith))

-- the tests of is_alone
module _ (base : ℕ) (s : List ℕ) (n node : ℕ) {row : Row} (r : RowAt base s node n row) where
  pub alone-not : (row.own ≡ 1 → ⊥) → false ≡ alone_in base s n node
  alone-not h = rw (← r.own_is, ne_eqb row.own 1 h)

  pub alone_is : row.own ≡ 1 → eqb row.end row.past ≡ alone_in base s n node
  alone_is h = rw (← r.own_is, ← r.end_is, ← r.past_is, eq-eqb row.own 1 h)
