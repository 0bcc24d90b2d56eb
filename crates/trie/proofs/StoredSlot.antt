-- What the code reads of the last node of a filter that is there in a store: the slot of a value among those that it holds.
-- Assumes nothing.
use Rattle.std.specs.Prelude.{Some, Result, Ok, Err, ⊤}
use Rattle.std.proofs.lemmas.Result.{MatchResult-at_ok, MatchResult-at_err}
use mathlib.Core.Path.{◌≡◌, refl, sym, ap, ◌∙◌}
use mathlib.Core.List.{List, [], ◌∷◌}
use Prim.Native.Nat.{ℕ, suc, ◌+◌, ◌-◌, ◌*◌, ◌^◌, ◌≤◌, ◌<◌, min}
use native.Mathlib.Omega.{arith}
use native.Mathlib.Nat.{add-zero}
use lib.ListN.{length, take, drop, get_or}
use lib.Seq.{take_at, drop_at}
use borrow.Author.Tests.{le-ltb}
use Rattle.lent.specs.Numbers.{be}
use Rattle.lent.specs.Parts.{part}
use Rattle.lent.specs.Total.{read}
use Rattle.lent.proofs.Parts.{part-part, take_part, drop-part}
use Rattle.lent.proofs.Anywhere.{read_in}
use Rattle.level.specs.Levels.{split}
use Rattle.held.specs.Ascending.{All}
use Rattle.held.specs.Bytes.{each}
use Rattle.held.specs.Forest.{Forest, AscValues}
use Rattle.region.specs.Layout.{level_units}
use Rattle.region.specs.Units.{value_bytes, value_of}
use Rattle.region.specs.Store.{forest_at, SubscriptionStore}
use Rattle.region.specs.Shapes.{UnitsOf}
use Rattle.region.proofs.Instances.{value_long, value_back, values}
use Rattle.forest.specs.Places.{unit_at, level_units_at, row_end}
use Rattle.seek.specs.declared.Path.{Path}
use Rattle.seek.specs.PathFound.{PathFound}
use Rattle.change.specs.Ways.{ahead}
use Rattle.change.proofs.StoreLaws.{store_holds}
use Rattle.edit.proofs.LastLaws.{Last, last_units, last_end, last_owns, last_holds, last_small, last_inside}
use Rattle.edit.proofs.KnownPath.{stands, last, node_is}
use Rattle.trie.specs.Values.{values_from, spot_from}
use Rattle.trie.specs.Slots.{slot_at, slot_in}

-- the first bytes of a part, and the rest
take-part_at : (p a b : ℕ) (s : List ℕ) → take a (part p (a + b) s) ≡ part p a s
take-part_at p a b s = let z : min a (a + b) ≡ a = omega arith in take_part a p (a + b) s ∙ rw z

drop-part_at : (p a b : ℕ) (s : List ℕ) → drop a (part p (a + b) s) ≡ part (p + a) b s
drop-part_at p a b s = let z : a + b - a ≡ b = omega arith in drop-part a p (a + b) s ∙ rw z

-- values, read unit by unit
value_at : (p x : ℕ) (s : List ℕ) → x < 256 ^ 4 → part p 16 s ≡ value_bytes x → p + 16 ≤ length s → read 4 p s ≡ x
unfolding value_of
value_at p x s a h l =
    read_in 4 p s (omega arith) ∙ ap be (rw add-zero at (sym (part-part 0 4 p 16 s (omega arith))))
    ∙ ap value_of h ∙ value_back x a

values-read : (base : ℕ) (s : List ℕ) (i : ℕ) (v : List ℕ) → All (λ (x : ℕ). x < 256 ^ 4) v → part (unit_at base i) (length v * 16) s ≡ each value_bytes v → unit_at base (i + length v) ≤ length s
    → values_from base s i (length v) ≡ v
unfolding values_from
values-read base s i [] a h l = refl
values-read base s i (x ∷ v) a h l =
    let e : length (x ∷ v) * 16 ≡ 16 + length v * 16 = omega arith in
    let q : unit_at base i + 16 ≡ unit_at base (suc i) = omega arith in
    let one : part (unit_at base i) 16 s ≡ value_bytes x =
    sym (take-part_at (unit_at base i) 16 (length v * 16) s) ∙ ap (take 16) (rw e at h) ∙ take_at (value_bytes x) (each value_bytes v) 16 (value_long x) in
    let more : part (unit_at base i + 16) (length v * 16) s ≡ each value_bytes v =
    sym (drop-part_at (unit_at base i) 16 (length v * 16) s) ∙ ap (drop 16) (rw e at h) ∙ drop_at (value_bytes x) (each value_bytes v) 16 (value_long x) in
    rw (value_at (unit_at base i) x s a.0 one (omega arith), values-read base s (suc i) v a.1 (rw q at more) (omega arith))

-- a slot that holds the value, and one where it would go
pub slot_taken : (first : ℕ) (p : Result ℕ ℕ) {k : ℕ} → slot_at first p ≡ Ok k → (i : ℕ) × (p ≡ Ok i) × (k ≡ first + i)
slot_taken first (Ok i) {k} e = (i, refl, MatchResult-at_ok (λ (j : ℕ). j ≡ first + i) (λ (j : ℕ). ⊥) k e refl)
slot_taken first (Err i) {k} e = absurd (MatchResult-at_ok (λ (j : ℕ). ⊥) (λ (j : ℕ). ⊤) k e tt)

pub slot_free : (first : ℕ) (p : Result ℕ ℕ) {k : ℕ} → slot_at first p ≡ Err k → (i : ℕ) × (p ≡ Err i) × (k ≡ first + i)
slot_free first (Ok i) {k} e = absurd (MatchResult-at_err (λ (j : ℕ). ⊤) (λ (j : ℕ). ⊥) k e tt)
slot_free first (Err i) {k} e = (i, refl, MatchResult-at_err (λ (j : ℕ). ⊥) (λ (j : ℕ). j ≡ first + i) k e refl)

-- a row that is sound, read at a place
slot_is : (base : ℕ) (s : List ℕ) (n node x : ℕ) (first : ℕ) (own : List ℕ) → node + level_units_at base s node ≡ first → row_end base s node n ≡ first + length own
    → values_from base s first (length own) ≡ own → slot_in base s n node x ≡ Some (slot_at first (spot_from 0 x own))
unfolding slot_in
slot_is base s n node x first own a b c =
    let z : first + length own - first ≡ length own = omega arith in
    rw (a, b, le-ltb (first + length own) first (omega arith), z, c)

module _ (s : List ℕ) {base n room : ℕ} (units : UnitsOf s base n room) (f : List ℕ) (few : length (split f) ≤ 128) {p : Path} (pf : PathFound base s n f p) (q : length f < p.from)
    (full : length p.nodes ≡ 128) (st : SubscriptionStore s) where
  abbrev F : Forest ℕ
  F = forest_at value_of s

  abbrev pub here : Last F (split f)
  here = last values 1 s units F (store_holds s st) f few pf q

  pub own_asc : AscValues here.own
  own_asc = last_owns values base s n F (stands values 1 s units F (store_holds s st)) (split f) here AscValues st.well.owns

  pub slot-stored : (x : ℕ) {node : ℕ} → node ≡ get_or p.nodes (p.depth - 1) 0 → slot_in base s n node x ≡ Some (slot_at (ahead here.way + level_units here.level) (spot_from 0 x here.own))
  slot-stored x e =
      let a = stands values 1 s units F (store_holds s st) in
      let z : ahead here.way + level_units_at base s (ahead here.way) ≡ ahead here.way + level_units here.level = ap (λ (i : ℕ). ahead here.way + i) (last_units values base s n F a (split f) here) in
      let l : unit_at base (ahead here.way + level_units here.level + length here.own) ≤ length s = omega (arith, last_inside values base s n F a (split f) here, units.within, units.long, units.base_is) in
      let v = values-read base s (ahead here.way + level_units here.level) here.own (last_small values base s n F a (split f) here) (last_holds values base s n F a (split f) here) l in
      ap (λ (i : ℕ). slot_in base s n i x) (e ∙ node_is values 1 s units F (store_holds s st) f few pf q full)
      ∙ slot_is base s n (ahead here.way) x (ahead here.way + level_units here.level) here.own z (last_end values base s n F a (split f) here) v
