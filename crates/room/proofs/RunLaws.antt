-- A run of new nodes: row after row, and mark after mark; and that it is what a chain is written down as. Assumes nothing.
use mathlib.Core.Path.{◌≡◌, refl, sym, ap, ◌∙◌}
use mathlib.Core.Bool.{Bool, true, false, cond, ◌||◌}
use mathlib.Core.List.{List, [], ◌∷◌, ◌++◌, append_assoc}
use Prim.Native.Nat.{ℕ, zero, suc, ◌+◌, ◌-◌, ◌*◌, ◌/◌, ◌≤◌, ◌<◌}
use native.Mathlib.Omega.{arith}
use mir.Val.{bool_byte}
use lib.Dec.{eqb}
use borrow.Author.Tests.{ne_eqb}
use lib.ListN.{length, replicate, length-append, length-replicate}
use Rattle.lent.specs.Numbers.{bytes}
use Rattle.lent.specs.Parts.{patch}
use Rattle.lent.specs.Total.{write}
use Rattle.lent.proofs.Parts.{length-patch, patch-append}
use Rattle.lent.proofs.Digits.{length-bytes}
use Rattle.level.specs.Kinds.{is_only}
use Rattle.level.specs.Levels.{split, push, width}
use Rattle.level.specs.Places.{levels_at}
use Rattle.level.proofs.Split.{split_cons}
use Rattle.held.specs.Order.{Level, Filter}
use Rattle.held.specs.Room.{level_cells}
use Rattle.held.specs.Edit.{weigh}
use Rattle.region.specs.Layout.{level_units, head_bytes, level_bytes}
use Rattle.region.proofs.Decoded.{length_head, length_level}
use Rattle.forest.specs.Places.{unit_at}
use Rattle.room.specs.Runs.{run_units, last_own, run_bytes, run_marks, WantedFor}
use Rattle.room.specs.Changes.{SmallLoad}
use Rattle.room.proofs.Middle.{first_written, then_written}

-- the writes of put_row
pub row_put : (at own below : ℕ) (l s₀ s₁ s₂ s₃ s₄ s₅ s₆ : List ℕ) → at + level_units l * 16 ≤ length s₀
    → s₁ ≡ write at (bytes 2 (length l)) s₀ → s₂ ≡ write (at + 2) (bytes 2 own) s₁ → s₃ ≡ write (at + 4) (bytes 2 below) s₂ → s₄ ≡ write (at + 6) (bytes 2 0) s₃
    → s₅ ≡ write (at + 8) l s₄ → s₆ ≡ write (at + 8 + length l) (replicate ((length l + 23) / 16 * 16 - 8 - length l) 0) s₅ → s₆ ≡ patch at (head_bytes l own below ++ level_bytes l) s₀
unfolding head_bytes level_bytes
row_put at own below l s₀ s₁ s₂ s₃ s₄ s₅ s₆ h a b c d e f =
    let b2 : (x : ℕ) → length (bytes 2 x) ≡ 2 = λ x. length-bytes 2 x in
    let a₁ = first_written at (bytes 2 (length l)) s₀ s₁ (omega (arith, b2 (length l))) a in
    let a₂ = then_written at (at + 2) (bytes 2 (length l)) (bytes 2 own) s₀ s₁ s₂ (omega (arith, b2 (length l))) (omega (arith, b2 (length l), b2 own)) a₁ b in
    let l₂ : length (bytes 2 (length l) ++ bytes 2 own) ≡ 4 = rw (length-append, b2 (length l), b2 own) in
    let a₃ = then_written at (at + 4) (bytes 2 (length l) ++ bytes 2 own) (bytes 2 below) s₀ s₂ s₃ (omega (arith, l₂)) (omega (arith, l₂, b2 below)) a₂ c in
    let l₃ : length (bytes 2 (length l) ++ bytes 2 own ++ bytes 2 below) ≡ 6 = rw (length-append, l₂, b2 below) in
    let a₄ = then_written at (at + 6) (bytes 2 (length l) ++ bytes 2 own ++ bytes 2 below) (bytes 2 0) s₀ s₃ s₄ (omega (arith, l₃)) (omega (arith, l₃, b2 0)) a₃ d in
    let l₄ : length (bytes 2 (length l) ++ bytes 2 own ++ bytes 2 below ++ bytes 2 0) ≡ 8 = rw (length-append, l₃, b2 0) in
    let a₅ = then_written at (at + 8) (bytes 2 (length l) ++ bytes 2 own ++ bytes 2 below ++ bytes 2 0) l s₀ s₄ s₅ (omega (arith, l₄)) (omega (arith, l₄)) a₄ e in
    let l₅ : length (bytes 2 (length l) ++ bytes 2 own ++ bytes 2 below ++ bytes 2 0 ++ l) ≡ 8 + length l = rw (length-append, l₄) in
    let r : length {A = ℕ} (replicate ((length l + 23) / 16 * 16 - 8 - length l) 0) ≡ (length l + 23) / 16 * 16 - 8 - length l = length-replicate {A = ℕ} ((length l + 23) / 16 * 16 - 8 - length l) 0 in
    let a₆ = then_written at (at + 8 + length l) (bytes 2 (length l) ++ bytes 2 own ++ bytes 2 below ++ bytes 2 0 ++ l) (replicate ((length l + 23) / 16 * 16 - 8 - length l) 0) s₀ s₅ s₆ (omega (arith, l₅)) (omega (arith, l₅, r)) a₅ f in
    a₆ ∙ ap (λ (x : List ℕ). patch at x s₀) (simp append_assoc)

-- the levels from a place on take no more bytes than the text and one
width_push : (t : Bool) (b : ℕ) (l : List ℕ) (ls : List (List ℕ)) → width (push t b (l ∷ ls)) ≡ suc (width (l ∷ ls))
width_push true b l ls = omega arith
width_push false b l ls = omega arith

width_split : (s : List ℕ) → width (split s) ≡ suc (length s)
width_split [] = refl
width_split (b ∷ s) = rw (split_cons s) (width_push (eqb b 47) b _ _) ∙ ap suc (ap width (sym (split_cons s)) ∙ width_split s)

pub width-levels : (s : List ℕ) (i : ℕ) → width (levels_at s i) ≤ length s + 1
width-levels s zero = omega (arith, width_split s)
width-levels [] (suc i) = omega arith
width-levels (b ∷ s) (suc i) = omega (arith, width-levels s i)

-- the units of a run by its first level
pub units-on : (l : Level) (gs : Filter) → run_units (l ∷ gs) ≡ level_units l + run_units gs
unfolding run_units
units-on l gs = refl

pub units-none : run_units [] ≡ 1
unfolding run_units
units-none = refl

-- a node holds one where only one unit is left behind its row
some_units : (gs : Filter) → 1 ≤ run_units gs
unfolding run_units
some_units [] = omega arith
some_units (g ∷ gs) = omega arith

one_left : (gs : Filter) → bool_byte (eqb (run_units gs) 1) ≡ last_own gs
one_left [] = rw units-none
one_left (g ∷ gs) = rw (units-on g gs, ne_eqb (level_units g + run_units gs) 1 (λ z. omega (arith, z, some_units gs)))

pub length_run : (x : List ℕ) (gs : Filter) → length x ≡ 16 → length (run_bytes x gs) ≡ run_units gs * 16
unfolding run_bytes run_units
length_run x [] h = h
length_run x (g ∷ gs) h = rw (length-append, length-append, length_head, length_run x gs h) (omega (arith, length_level g))

pub run_on : (x l : List ℕ) (gs : Filter) → run_bytes x (l ∷ gs) ≡ (head_bytes l (last_own gs) (run_units gs - last_own gs) ++ level_bytes l) ++ run_bytes x gs
unfolding run_bytes
run_on x l gs = refl

-- the turns of put_rows, over all levels, where `rest` is left: what is left to write gives all
pub record RowsLeft (base at : ℕ) (x : List ℕ) (all : Filter) (s₀ : List ℕ) (units i left : ℕ) (rest : Filter) (s : List ℕ) : Type 0 where
  pub same : patch (unit_at base i) (run_bytes x rest) s ≡ patch (unit_at base at) (run_bytes x all) s₀
  pub many : left ≡ run_units rest
  pub placed : i + left ≡ at + units
  pub long : length s ≡ length s₀
  pub short : width rest ≤ 65536

pub rows_begin : (base at : ℕ) (x tx : List ℕ) (from : ℕ) (s₀ : List ℕ) (units : ℕ) → units ≡ run_units (levels_at tx from) → length tx ≤ 65535
    → RowsLeft base at x (levels_at tx from) s₀ units at units (levels_at tx from) s₀
rows_begin base at x tx from s₀ units h k = record { same = refl; many = h; placed = refl; long = refl; short = omega (arith, width-levels tx from) }

module _ {base at : ℕ} {x : List ℕ} {all : Filter} {s₀ : List ℕ} {units i left : ℕ} {rest : Filter} {s : List ℕ} (r : RowsLeft base at x all s₀ units i left rest s) where
  -- there is room for a row and for what is left behind it
  module _ {l : Level} {gs : Filter} (e : rest ≡ l ∷ gs) where
    rest_is : left ≡ (length l + 23) / 16 + run_units gs
    rest_is = r.many ∙ ap run_units e ∙ units-on l gs

    pub row_within : (length l + 23) / 16 ≤ left
    row_within = omega (arith, rest_is)

    pub level_short : length l ≤ 65535
    level_short = omega (arith, r.short, ap width e)

    pub own_here : bool_byte (eqb (left - (length l + 23) / 16) 1) ≡ last_own gs
    own_here =
        let z : left - (length l + 23) / 16 ≡ run_units gs = omega (arith, rest_is) in
        rw z (one_left gs)

    pub row_fits : unit_at base (at + units) ≤ length s₀ → base + i * 16 + level_units l * 16 ≤ length s
    row_fits room = omega (arith, rest_is, r.placed, r.long)

    pub rows_step : {own : ℕ} → own ≡ bool_byte (eqb (left - (length l + 23) / 16) 1) → unit_at base (at + units) ≤ length s₀ → length x ≡ 16
        → {t : List ℕ} → t ≡ patch (base + i * 16) (head_bytes l own (left - (length l + 23) / 16 - own) ++ level_bytes l) s
        → RowsLeft base at x all s₀ units (i + (length l + 23) / 16) (left - (length l + 23) / 16) gs t
    rows_step {own} o room lx {t} f =
        let q : own ≡ last_own gs = o ∙ own_here in
        let b : left - (length l + 23) / 16 - own ≡ run_units gs - last_own gs = omega (arith, rest_is, q) in
        let lr : length (head_bytes l (last_own gs) (run_units gs - last_own gs) ++ level_bytes l) ≡ level_units l * 16 =
        rw (length-append, length_head) (length_level l) in
        let f' : t ≡ patch (unit_at base i) (head_bytes l (last_own gs) (run_units gs - last_own gs) ++ level_bytes l) s = rw (b, q) at f in
        let fit : unit_at base i + (level_units l * 16 + run_units gs * 16) ≤ length s = omega (arith, rest_is, r.placed, r.long) in
        let w : unit_at base (i + (length l + 23) / 16) ≡ unit_at base i + length (head_bytes l (last_own gs) (run_units gs - last_own gs) ++ level_bytes l) = omega (arith, lr) in
        record {
          same =
              rw (w, f') (patch-append (unit_at base i) (head_bytes l (last_own gs) (run_units gs - last_own gs) ++ level_bytes l) (run_bytes x gs) s (omega (arith, lr, fit, length_run x gs lx)))
              ∙ sym (ap (λ (y : List ℕ). patch (unit_at base i) y s) (ap (run_bytes x) e ∙ run_on x l gs)) ∙ r.same;
          many = omega (arith, rest_is);
          placed = omega (arith, rest_is, r.placed);
          long = ap length f' ∙ length-patch (unit_at base i) _ s (omega (arith, lr, fit)) ∙ r.long;
          short = omega (arith, r.short, ap width e);
        }

  pub rows_end : rest ≡ [] → unit_at base (at + units) ≤ length s₀ → length x ≡ 16 → {t : List ℕ} → t ≡ write (base + i * 16) x s
      → t ≡ patch (unit_at base at) (run_bytes x all) s₀
  unfolding run_bytes
  rows_end e room lx {t} f =
      let m : left ≡ 1 = r.many ∙ ap run_units e ∙ units-none in
      first_written (unit_at base i) x s t (omega (arith, lx, m, r.placed, r.long)) f ∙ (rw e at r.same)

-- the marks of a row
pub row_marked : (at row depth : ℕ) (s s₁ s₂ : List ℕ) → 0 < row → at + row ≤ length s → s₁ ≡ write at (replicate 1 depth) s → s₂ ≡ write (at + 1) (replicate (row - 1) 255) s₁
    → s₂ ≡ patch at (depth ∷ replicate (row - 1) 255) s
row_marked at row depth s s₁ s₂ h k f g =
    let n : length {A = ℕ} (replicate (row - 1) 255) ≡ row - 1 = length-replicate {A = ℕ} (row - 1) 255 in
    then_written at (at + 1) (replicate 1 depth) (replicate (row - 1) 255) s s₁ s₂ refl (omega (arith, n)) (first_written at (replicate 1 depth) s s₁ (omega arith) f) g

-- the turns of put_marks, over all levels, where `rest` is left
pub record MarksLeft (at d : ℕ) (all : Filter) (s₀ : List ℕ) (units i depth : ℕ) (rest : Filter) (s : List ℕ) : Type 0 where
  pub same : patch i (run_marks depth rest) s ≡ patch (64 + at) (run_marks d all) s₀
  pub many : i + run_units rest ≡ 64 + at + units
  pub deep : depth + length rest ≡ d + length all
  pub long : length s ≡ length s₀

pub marks_begin : (at d : ℕ) (all : Filter) (s₀ : List ℕ) (units : ℕ) → units ≡ run_units all → MarksLeft at d all s₀ units (64 + at) d all s₀
marks_begin at d all s₀ units h = record { same = refl; many = omega (arith, h); deep = refl; long = refl }

pub length-run_marks : (d : ℕ) (gs : Filter) → length (run_marks d gs) ≡ run_units gs
unfolding run_marks run_units
length-run_marks d [] = refl
length-run_marks d (g ∷ gs) = rw (length-append, length-replicate, length-run_marks (d + 1) gs) (omega arith)

pub marks-on : (d : ℕ) (l : List ℕ) (gs : Filter) → run_marks d (l ∷ gs) ≡ (d ∷ replicate (level_units l - 1) 255) ++ run_marks (d + 1) gs
unfolding run_marks
marks-on d l gs = refl

module _ {at d : ℕ} {all : Filter} {s₀ : List ℕ} {units i depth : ℕ} {rest : Filter} {s : List ℕ} (r : MarksLeft at d all s₀ units i depth rest s) where
  module _ {l : Level} {gs : Filter} (e : rest ≡ l ∷ gs) where
    marks_rest : i + ((length l + 23) / 16 + run_units gs) ≡ 64 + at + units
    marks_rest = omega (arith, r.many, ap run_units e, units-on l gs)

    pub depth_small : d + length all ≤ 256 → depth < 256
    depth_small b = omega (arith, r.deep, ap length e)

    pub marks_fit : 64 + (at + units) ≤ length s₀ → i + (length l + 23) / 16 ≤ length s
    marks_fit room = omega (arith, marks_rest, r.long)

    pub marks_step : 64 + (at + units) ≤ length s₀ → {t : List ℕ} → t ≡ patch i (depth ∷ replicate ((length l + 23) / 16 - 1) 255) s
        → MarksLeft at d all s₀ units (i + (length l + 23) / 16) (depth + 1) gs t
    marks_step room f =
        let n : length {A = ℕ} (replicate (level_units l - 1) 255) ≡ level_units l - 1 = length-replicate {A = ℕ} (level_units l - 1) 255 in
        let lr : length (depth ∷ replicate (level_units l - 1) 255) ≡ level_units l = omega (arith, n) in
        let w : i + (length l + 23) / 16 ≡ i + length (depth ∷ replicate (level_units l - 1) 255) = omega (arith, lr) in
        let lm = length-run_marks (depth + 1) gs in
        record {
          same =
              rw (w, f) (patch-append i (depth ∷ replicate (level_units l - 1) 255) (run_marks (depth + 1) gs) s (omega (arith, lr, lm, marks_rest, r.long)))
              ∙ sym (ap (λ (y : List ℕ). patch i y s) (ap (run_marks depth) e ∙ marks-on depth l gs)) ∙ r.same;
          many = omega (arith, marks_rest);
          deep = omega (arith, r.deep, ap length e);
          long = ap length f ∙ length-patch i (depth ∷ replicate (level_units l - 1) 255) s (omega (arith, lr, marks_rest, r.long)) ∙ r.long;
        }

  pub marks_end : rest ≡ [] → 64 + (at + units) ≤ length s₀ → {t : List ℕ} → t ≡ write i (replicate 1 255) s → t ≡ patch (64 + at) (run_marks d all) s₀
  unfolding run_marks
  marks_end e room {t} f =
      let m : i + 1 ≡ 64 + at + units = omega (arith, r.many, ap run_units e, units-none) in
      first_written i (replicate 1 255) s t (omega (arith, m, r.long)) f ∙ (rw e at r.same)

-- the turns of wanted_for, over all levels, where `rest` is left
pub record WantedLeft (tx : List ℕ) (from nodes cells units : ℕ) (rest : Filter) : Type 0 where
  pub nodes-left : nodes + length rest ≡ length (levels_at tx from)
  pub cells_left : cells + weigh level_cells rest ≡ weigh level_cells (levels_at tx from)
  pub units-left : units + run_units rest ≡ run_units (levels_at tx from) + 1
  pub nodes_most : nodes + width rest ≤ length tx + 1
  pub cells_most : cells + width rest ≤ length tx + 1
  pub units_most : units + 2 * width rest ≤ 2 * length tx + 3

pub wanted_begin : (tx : List ℕ) (from : ℕ) → WantedLeft tx from 0 0 1 (levels_at tx from)
wanted_begin tx from =
    let w = width-levels tx from in
    record { nodes-left = omega arith; cells_left = omega arith; units-left = omega arith; nodes_most = omega arith; cells_most = omega arith; units_most = omega arith }

cells_few : (l : Level) → level_cells l ≤ (length l + 15) / 16
cells_few l = go (is_only 43 l || is_only 35 l)
  where
    go : (t : Bool) → cond t 0 ((length l + 15) / 16) ≤ (length l + 15) / 16
    go true = omega arith
    go false = omega arith

module _ {tx : List ℕ} {from nodes cells units : ℕ} {rest : Filter} (r : WantedLeft tx from nodes cells units rest) where
  pub wanted_step : {l : List ℕ} {gs : Filter} → rest ≡ l ∷ gs → {c : ℕ} → c ≡ level_cells l
      → WantedLeft tx from (nodes + 1) (cells + c) (units + (length l + 23) / 16) gs
  wanted_step {l} {gs} e q =
      let w : width rest ≡ suc (length l) + width gs = ap width e in
      record {
        nodes-left = omega (arith, r.nodes-left, ap length e);
        cells_left = omega (arith, r.cells_left, ap (weigh level_cells) e, q);
        units-left = omega (arith, r.units-left, ap run_units e, units-on l gs);
        nodes_most = omega (arith, r.nodes_most);
        cells_most = omega (arith, r.cells_most, q, cells_few l);
        units_most = omega (arith, r.units_most);
      }

  pub wanted_end : rest ≡ [] → WantedFor (levels_at tx from) (record { nodes = nodes; pairs = 1; cells = cells; units = units })
  wanted_end e =
      record {
        nodes_are = omega (arith, r.nodes-left, ap length e);
        pairs_are = refl;
        cells_are = omega (arith, r.cells_left, ap (weigh level_cells) e);
        units_are = omega (arith, r.units-left, ap run_units e, units-none);
      }

  pub wanted_small : length tx ≤ 65535 → SmallLoad (record { nodes = nodes; pairs = 1; cells = cells; units = units })
  wanted_small h =
      record {
        nodes_small = omega (arith, r.nodes_most);
        pairs_small = omega arith;
        cells_small = omega (arith, r.cells_most);
        units_small = omega (arith, r.units_most);
      }
