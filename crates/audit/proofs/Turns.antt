-- The pass over the rows by its first row: the two equations behind which it hides. Assumes nothing.
use Rattle.std.specs.Prelude.{None, Option, Some}
use mathlib.Core.Path.{◌≡◌, refl, ap}
use Prim.Native.Nat.{ℕ, ◌+◌, ◌-◌, ◌≤◌, ◌<◌}
use mathlib.Core.Bool.{Bool, true, false, cond, ◌&&◌}
use mathlib.Core.List.{List}
use native.Mathlib.Omega.{arith}
use lib.Dec.{leb}
use lib.ListN.{length}
use borrow.Author.Tests.{le-leb, leb-true}
use Rattle.held.specs.Order.{Level}
use Rattle.held.specs.Room.{level_cells}
use Rattle.held.proofs.Orders.{and_left, and_right}
use Rattle.region.specs.declared.Kind.{Kind}
use Rattle.forest.specs.Places.{unit_at, len_at, own_at, row_end, kids_end, level_in}
use Rattle.forest.proofs.FirstRow.{forest-none, forest_some}
use Rattle.audit.specs.declared.Left.{Left}
use Rattle.audit.specs.Tests.{node_fine}
use Rattle.audit.specs.Tally.{on_sound, taken, tally_f, tally}

module _ (k : Kind) (base : ℕ) (s : List ℕ) (d room i n : ℕ) (a : Left) where
  pub tally-none : n ≤ i → tally k base s d room i n a ≡ Some a
  unfolding tally tally_f
  tally-none h = rw (forest-none (λ w. w) base s i n h)

  pub tally_some : i < n → unit_at base n ≤ length s → tally k base s d room i n a
      ≡ cond (node_fine k base s d room i n)
      (on_sound (taken a (level_in base s i n) (own_at base s i))
      (λ b. on_sound (tally k base s (d + 1) (room - (len_at base s i + 1)) (row_end base s i n) (kids_end base s i n) b)
      (λ c. tally k base s d room (kids_end base s i n) n c)))
      None
  unfolding tally tally_f
  tally_some h w = rw (forest_some (λ w. w) base s i n h w)

-- what a node takes from what is left
pub record Took (a b : Left) (l : Level) (own : ℕ) : Type 0 where
  pub nodes : a.nodes ≡ b.nodes + 1
  pub pairs : a.pairs ≡ b.pairs + own
  pub cells : a.cells ≡ b.cells + level_cells l

left_of : Left → Option Left → Left
left_of a (Some b) = b
left_of a None = a

pub sound_is : (a b : Left) → ◌≡◌ {A = Option Left} (Some a) (Some b) → a ≡ b
unfolding left_of
sound_is a b e = ap (left_of a) e

pub unsound-not : (b : Left) → ◌≡◌ {A = Option Left} None (Some b) → ⊥
unsound-not b e = let z : ◌≡◌ {A = ℕ} 0 1 = cc in omega arith

module _ (a b : Left) (l : Level) (own : ℕ) where
  enough : Bool
  enough = leb 1 a.nodes && (leb own a.pairs && leb (level_cells l) a.cells)

  pub took : taken a l own ≡ Some b → Took a b l own
  unfolding taken enough
  took e = go enough refl e
    where
      go : (t : Bool) → enough ≡ t → cond t (Some (record { nodes = a.nodes - 1; pairs = a.pairs - own; cells = a.cells - level_cells l })) None ≡ Some b → Took a b l own
      go true q e =
          let f = sound_is (record { nodes = a.nodes - 1; pairs = a.pairs - own; cells = a.cells - level_cells l }) b e in
          let x : 1 ≤ a.nodes = leb-true 1 a.nodes (and_left (leb 1 a.nodes) (leb own a.pairs && leb (level_cells l) a.cells) q) in
          let y = and_right (leb 1 a.nodes) (leb own a.pairs && leb (level_cells l) a.cells) q in
          let z : own ≤ a.pairs = leb-true own a.pairs (and_left (leb own a.pairs) (leb (level_cells l) a.cells) y) in
          let w : level_cells l ≤ a.cells = leb-true (level_cells l) a.cells (and_right (leb own a.pairs) (leb (level_cells l) a.cells) y) in
          let f0 : a.nodes - 1 ≡ b.nodes = ap (λ (x : Left). x.nodes) f in
          let f1 : a.pairs - own ≡ b.pairs = ap (λ (x : Left). x.pairs) f in
          let f2 : a.cells - level_cells l ≡ b.cells = ap (λ (x : Left). x.cells) f in
          record { nodes = omega (arith, x, f0); pairs = omega (arith, z, f1); cells = omega (arith, w, f2) }
      go false q e = absurd (unsound-not b e)

  pub takes : Took a b l own → taken a l own ≡ Some b
  unfolding taken
  takes t =
      let x : leb 1 a.nodes ≡ true = le-leb 1 a.nodes (omega (arith, t.nodes)) in
      let y : leb own a.pairs ≡ true = le-leb own a.pairs (omega (arith, t.pairs)) in
      let z : leb (level_cells l) a.cells ≡ true = le-leb (level_cells l) a.cells (omega (arith, t.cells)) in
      let f0 : a.nodes - 1 ≡ b.nodes = omega (arith, t.nodes) in
      let f1 : a.pairs - own ≡ b.pairs = omega (arith, t.pairs) in
      let f2 : a.cells - level_cells l ≡ b.cells = omega (arith, t.cells) in
      rw (x, y, z, f0, f1, f2)
