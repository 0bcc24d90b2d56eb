-- One row of a sweep, in the words of the code: whether its record stays, its units moved down, its head put right. Assumes nothing.
use Rattle.std.specs.Prelude.{None, Option, Some}
use mathlib.Core.Path.{◌≡◌, sym, ap, ◌∙◌}
use mathlib.Core.List.{List, ◌∷◌, ◌++◌}
use Prim.Native.Nat.{ℕ, ◌+◌, ◌-◌, ◌*◌, ◌/◌, ◌≤◌, ◌<◌, min}
use native.Mathlib.Omega.{arith}
use lib.ListN.{length, replicate, length-replicate}
use borrow.Author.Tests.{eq-eqb, ne_eqb}
use Rattle.lent.specs.Numbers.{bytes}
use Rattle.lent.specs.Parts.{part, patch}
use Rattle.lent.specs.Total.{write, closed}
use Rattle.lent.proofs.Parts.{length_part, length-patch}
use Rattle.lent.proofs.Digits.{length-bytes}
use Rattle.lent.proofs.Anywhere.{close_in}
use Rattle.held.specs.Room.{level_cells}
use Rattle.region.specs.Units.{stored_of}
use Rattle.forest.specs.declared.Row.{Row}
use Rattle.forest.specs.Places.{unit_at, len_at, level_in, RowAt}
use Rattle.room.proofs.Middle.{first_written, then_written}
use Rattle.room.proofs.RunLaws.{row_marked}
use Rattle.sweep.specs.declared.Kept.{Kept}
use Rattle.sweep.specs.declared.Stay.{Stay}
use Rattle.sweep.specs.Moved.{StaysAt, row_moved, Begun, ended}
use Rattle.lookup.specs.Lives.{life_of}
use Rattle.lookup.proofs.OwnLaws.{over_is, left_is}

-- the record of a unit, by the time that it has left
module _ (clock base : ℕ) (s : List ℕ) (at end : ℕ) (some : at < end) {life : Option ℕ} (lives : life ≡ life_of clock (stored_of (part (unit_at base at) 16 s))) where
  pub stays-not : life ≡ None → StaysAt clock base s at end 0
  stays-not is = record { within = omega arith; one = omega arith; stays = λ q. rw (over_is clock (stored_of (part (unit_at base at) 16 s)) (sym is ∙ lives)) }

  pub stays_yet : (m : ℕ) → life ≡ Some m → StaysAt clock base s at end 1
  stays_yet m is = record { within = omega arith; one = omega arith; stays = λ q. rw (left_is clock m (stored_of (part (unit_at base at) 16 s)) (sym is ∙ lives)).0 }

-- the level of a row
module _ (base i n : ℕ) (s : List ℕ) (some : i < n) (within : unit_at base n ≤ length s) where
  pub level_few : len_at base s i < 65536 → {l : List ℕ} → l ≡ level_in base s i n → length l ≤ 65535
  unfolding level_in
  level_few h {l} e =
      let m = min (len_at base s i) ((n - i) * 16 - 8) in
      let k : length l ≡ m = rw e (length_part (unit_at base i + 8) m s (omega arith)) in
      omega (arith, k)

pub cells_level : (base i n : ℕ) (s : List ℕ) {l : List ℕ} {r : ℕ} → l ≡ level_in base s i n → r ≡ level_cells l → r ≤ 4096
    → (r ≡ level_cells (level_in base s i n)) × (r ≤ 4096)
cells_level base i n s e f h = (f ∙ ap level_cells e, h)

-- the units of a row moved down, and marked
pub row-moved : (base i to row d : ℕ) (s s₁ s₂ s₃ : List ℕ) → to ≤ i → 0 < row → unit_at base (i + row) ≤ length s → 64 + (i + row) ≤ base
    → s₁ ≡ closed (base + to * 16) (base + to * 16 + row * 16) ((i - to) * 16) s
    → s₂ ≡ write (64 + to) (replicate 1 d) s₁ → s₃ ≡ write (64 + to + 1) (replicate (row - 1) 255) s₂ → s₃ ≡ row_moved base i to row d s
unfolding row_moved
row-moved base i to row d s s₁ s₂ s₃ a b c k e₁ e₂ e₃ =
    let p : base + to * 16 + (i - to) * 16 ≡ unit_at base i = omega arith in
    let q : base + to * 16 + row * 16 - (base + to * 16) ≡ row * 16 = omega arith in
    let l : length (part (unit_at base i) (row * 16) s) ≡ row * 16 = length_part (unit_at base i) (row * 16) s (omega arith) in
    let f₁ : s₁ ≡ patch (unit_at base to) (part (unit_at base i) (row * 16) s) s = e₁ ∙ close_in (base + to * 16) (base + to * 16 + row * 16) ((i - to) * 16) s (omega arith) ∙ rw (p, q) in
    let z : length s₁ ≡ length s = ap length f₁ ∙ length-patch (unit_at base to) (part (unit_at base i) (row * 16) s) s (omega (arith, l)) in
    row_marked (64 + to) row d s₁ s₂ s₃ b (omega (arith, z)) e₂ e₃ ∙ ap (patch (64 + to) (d ∷ replicate (row - 1) 255)) f₁

length_moved : (base i to row d : ℕ) (s : List ℕ) → 0 < row → to ≤ i → unit_at base (i + row) ≤ length s → 64 + (i + row) ≤ base → length (row_moved base i to row d s) ≡ length s
unfolding row_moved
length_moved base i to row d s a b c e =
    let l : length (part (unit_at base i) (row * 16) s) ≡ row * 16 = length_part (unit_at base i) (row * 16) s (omega arith) in
    let m : length (d ∷ replicate (row - 1) 255) ≡ row = rw length-replicate (omega arith) in
    let f : length (patch (unit_at base to) (part (unit_at base i) (row * 16) s) s) ≡ length s = length-patch (unit_at base to) (part (unit_at base i) (row * 16) s) s (omega (arith, l)) in
    length-patch (64 + to) (d ∷ replicate (row - 1) 255) (patch (unit_at base to) (part (unit_at base i) (row * 16) s) s) (omega (arith, f, m)) ∙ f

-- a head's two numbers
pub head-put : (at own below : ℕ) (s s₁ s₂ : List ℕ) → at + 8 ≤ length s → s₁ ≡ write (at + 2) (bytes 2 own) s → s₂ ≡ write (at + 4) (bytes 2 below) s₁
    → s₂ ≡ patch (at + 2) (bytes 2 own ++ bytes 2 below) s
head-put at own below s s₁ s₂ h e₁ e₂ =
    let a : length (bytes 2 own) ≡ 2 = length-bytes 2 own in
    let b : length (bytes 2 below) ≡ 2 = length-bytes 2 below in
    then_written (at + 2) (at + 4) (bytes 2 own) (bytes 2 below) s s₁ s₂ (omega (arith, a)) (omega (arith, a, b)) (first_written (at + 2) (bytes 2 own) s s₁ (omega (arith, a)) e₁) e₂

-- a node begun
pub row_begun : (clock base d i hi : ℕ) (row : Row) (to : ℕ) (s t : List ℕ) → RowAt base s i hi row → i < hi → to ≤ i → unit_at base hi ≤ length s → 64 + hi ≤ base
    → {units own cells : ℕ} → units ≡ min ((row.len + 23) / 16) (row.end - i) → StaysAt clock base s (i + units) row.end own
    → cells ≡ level_cells (level_in base s i hi) → cells ≤ 4096 → t ≡ row_moved base i to (units + own) d s → Begun clock base d i hi row to s t (record { units = units; own = own; cells = cells })
row_begun clock base d i hi row to s t ra some low within apart {units} {own} {cells} u st ce cf m =
    record {
      units_are = u;
      stays = st;
      cells_are = ce;
      cells_few = cf;
      moved = m;
      long = ap length m ∙ moved_long (omega (arith, u, ra.on)) (omega (arith, st.within, ra.within, ra.last));
      some = omega (arith, u, ra.on);
      fits = omega (arith, st.within);
      one = st.one;
    }
  where
    moved_long : 0 < units → i + units + own ≤ hi → length (row_moved base i to (units + own) d s) ≡ length s
    moved_long p q = length_moved base i to (units + own) d s (omega (arith, p)) low (omega (arith, q, within)) (omega (arith, q, apart))

-- a node ended
module _ (a : Kept) (r : Stay) (b : Kept) where
  pub ended-gone : r.own + (b.to - (a.to + r.units + r.own)) ≡ 0 → a ≡ ended a r b
  unfolding ended
  ended-gone h = rw (eq-eqb (r.own + (b.to - (a.to + r.units + r.own))) 0 h)

  pub ended-on : (r.own + (b.to - (a.to + r.units + r.own)) ≡ 0 → ⊥)
      → ◌≡◌ {A = Kept} (record { to = b.to; nodes = a.nodes + b.nodes + 1; pairs = a.pairs + b.pairs + r.own; cells = a.cells + b.cells + r.cells }) (ended a r b)
  unfolding ended
  ended-on h = rw (ne_eqb (r.own + (b.to - (a.to + r.units + r.own))) 0 h)
