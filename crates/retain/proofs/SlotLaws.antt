-- The slot of a node's record: from the row that was read, and in a store. Assumes nothing.
use Rattle.std.specs.Prelude.{Option, Some, None, Result, Ok, Err, MatchResult, cond}
use Rattle.std.proofs.lemmas.Option.{same_Some}
use Rattle.std.proofs.lemmas.Result.{MatchResult-at_ok, MatchResult-at_err}
use mathlib.Core.Path.{◌≡◌, refl, sym, ap, ◌∙◌}
use mathlib.Core.List.{List, [], ◌∷◌}
use Prim.Native.Nat.{ℕ, ◌+◌, ◌-◌, ◌/◌, ◌≤◌, ◌<◌}
use native.Mathlib.Omega.{arith}
use borrow.Author.Tests.{lt-ltb, le-ltb}
use lib.Dec.{ltb}
use lib.ListN.{length, get_or}
use Rattle.level.specs.Levels.{split}
use Rattle.held.specs.Retained.{Stored}
use Rattle.held.specs.Forest.{Forest, Single}
use Rattle.held.specs.Walks.{hit, values_at}
use Rattle.region.specs.Layout.{level_units}
use Rattle.region.specs.Units.{stored_of}
use Rattle.region.specs.Store.{forest_at, RetainedStore}
use Rattle.region.specs.Shapes.{UnitsOf}
use Rattle.region.proofs.Instances.{records}
use Rattle.forest.specs.declared.Row.{Row}
use Rattle.forest.specs.Places.{level_units_at, row_end, RowAt}
use Rattle.seek.specs.declared.Path.{Path}
use Rattle.seek.specs.PathFound.{PathFound}
use Rattle.change.specs.Ways.{ahead}
use Rattle.change.proofs.StoreLaws.{retained_holds}
use Rattle.edit.proofs.LastLaws.{Last, last_units, last_end, last_owns}
use Rattle.edit.proofs.KnownPath.{stands, last, own_is, node_is}
use Rattle.retain.specs.Slots.{slot_in}

module _ (base : ℕ) (s : List ℕ) (n node : ℕ) {row : Row} (r : RowAt base s node n row) {first end : ℕ} (ef : first ≡ node + (row.len + 23) / 16) (ee : end ≡ row.end) where
  first_is : first ≡ node + level_units_at base s node
  first_is = ef ∙ rw r.len_is

  end_is : end ≡ row_end base s node n
  end_is = ee ∙ r.end_is

  pub slot_broken : end < first → None ≡ slot_in base s n node
  unfolding slot_in
  slot_broken h = rw (← first_is, ← end_is, lt-ltb end first h)

  pub slot_taken : first < end → Some (Ok first) ≡ slot_in base s n node
  unfolding slot_in
  slot_taken h = rw (← first_is, ← end_is, le-ltb end first (omega arith), lt-ltb first end h)

  pub slot_free : first ≤ end → end ≤ first → Some (Err first) ≡ slot_in base s n node
  unfolding slot_in
  slot_free h g = rw (← first_is, ← end_is, le-ltb end first h, le-ltb first end g)

-- a row that is sound, read at a place
slot_is : (base : ℕ) (s : List ℕ) (n node first own : ℕ) → node + level_units_at base s node ≡ first → row_end base s node n ≡ first + own
    → slot_in base s n node ≡ Some (cond (ltb first (first + own)) (Ok first) (Err first))
unfolding slot_in
slot_is base s n node first own a b = rw (a, b, le-ltb (first + own) first (omega arith))

-- its one record
pub record One {X : Type 0} (v : List X) : Type 0 where
  pub it : X
  pub is : v ≡ it ∷ []

module _ (s : List ℕ) {base n room : ℕ} (units : UnitsOf s base n room) (f : List ℕ) (few : length (split f) ≤ 128) {p : Path} (pf : PathFound base s n f p) (q : length f < p.from)
    (full : length p.nodes ≡ 128) (st : RetainedStore s) where
  abbrev F : Forest Stored
  F = forest_at stored_of s

  abbrev pub here : Last F (split f)
  here = last records 2 s units F (retained_holds s st) f few pf q

  pub own_held : values_at (split f) (hit [] F) ≡ here.own
  own_held = own_is records 2 s units F (retained_holds s st) f few pf q

  pub slot-stored : {node : ℕ} → node ≡ get_or p.nodes (p.depth - 1) 0
      → slot_in base s n node ≡ Some (cond (ltb (ahead here.way + level_units here.level) (ahead here.way + level_units here.level + length here.own)) (Ok (ahead here.way + level_units here.level)) (Err (ahead here.way + level_units here.level)))
  slot-stored e =
      let a = stands records 2 s units F (retained_holds s st) in
      let z : ahead here.way + level_units_at base s (ahead here.way) ≡ ahead here.way + level_units here.level = ap (λ (i : ℕ). ahead here.way + i) (last_units records base s n F a (split f) here) in
      ap (λ (i : ℕ). slot_in base s n i) (e ∙ node_is records 2 s units F (retained_holds s st) f few pf q full)
      ∙ slot_is base s n (ahead here.way) (ahead here.way + level_units here.level) (length here.own) z (last_end records base s n F a (split f) here)

  -- a node holds at most one record, and the slot says whether
  single : Single here.own
  single = last_owns records base s n F (stands records 2 s units F (retained_holds s st)) (split f) here Single st.well.owns

  held_one : (k : ℕ) (v : List Stored) → Single v → MatchResult (cond (ltb k (k + length v)) (Ok k) (Err k)) (λ (j : ℕ). (j ≡ k) × One v) (λ (j : ℕ). (j ≡ k) × (v ≡ []))
  held_one k [] o = rw (le-ltb k (k + 0) (omega arith)) (refl, refl)
  held_one k (x ∷ []) o = rw (lt-ltb k (k + 1) (omega arith)) (refl, record { it = x; is = refl })
  held_one k (x ∷ y ∷ v) o = absurd o

  module _ {node : ℕ} (at : node ≡ get_or p.nodes (p.depth - 1) 0) {answer : Option (Result ℕ ℕ)} (e : answer ≡ slot_in base s n node) {slot : Result ℕ ℕ} (g : answer ≡ Some slot) where
    pub slot_held : MatchResult slot (λ (k : ℕ). (k ≡ ahead here.way + level_units here.level) × One here.own) (λ (k : ℕ). (k ≡ ahead here.way + level_units here.level) × (here.own ≡ []))
    slot_held = rw (same_Some slot _ (sym g ∙ e ∙ slot-stored at)) (held_one (ahead here.way + level_units here.level) here.own single)

    pub some-held : {k : ℕ} → slot ≡ Ok k → (k ≡ ahead here.way + level_units here.level) × One here.own
    some-held {k} h =
        MatchResult-at_ok (λ (k : ℕ). (k ≡ ahead here.way + level_units here.level) × One here.own) (λ (k : ℕ). (k ≡ ahead here.way + level_units here.level) × (here.own ≡ [])) k h slot_held

    pub none-held : {k : ℕ} → slot ≡ Err k → (k ≡ ahead here.way + level_units here.level) × (here.own ≡ [])
    none-held {k} h =
        MatchResult-at_err (λ (k : ℕ). (k ≡ ahead here.way + level_units here.level) × One here.own) (λ (k : ℕ). (k ≡ ahead here.way + level_units here.level) × (here.own ≡ [])) k h slot_held
