-- The header as the code reads it. Assumes nothing.
use mathlib.Core.Path.{◌≡◌, refl, ◌∙◌}
use mathlib.Core.List.{List}
use Prim.Native.Nat.{ℕ, ◌+◌, ◌*◌, ◌≤◌, ◌<◌}
use native.Mathlib.Omega.{arith}
use lib.ListN.{length}
use Rattle.lent.specs.Numbers.{be}
use Rattle.lent.specs.Parts.{part}
use Rattle.lent.specs.Total.{read}
use Rattle.lent.proofs.Anywhere.{read_in}
use Rattle.region.specs.Layout.{unit_room, needed_bytes}
use Rattle.region.specs.Store.{room_at}
use Rattle.region.specs.Shapes.{CapacitiesOf, UnitsOf, NoUnits}

module _ (s : List ℕ) where
  pub capacities_are : {a b c : ℕ} → a ≡ read 2 4 s → a < 65536 → b ≡ read 2 6 s → b < 65536 → c ≡ read 2 8 s → c < 65536
      → CapacitiesOf s (record { nodes = record { 0 = a }; pairs = record { 0 = b }; cells = record { 0 = c } })
  capacities_are ea ha eb hb ec hc =
      record {
        room_is = λ (l : 10 ≤ length s). rw (ea, eb, ec, read_in 2 4 s (omega arith), read_in 2 6 s (omega arith), read_in 2 8 s (omega arith));
        nodes_small = ha;
        pairs_small = hb;
        cells_small = hc;
      }

  module _ {a b c u : ℕ} (ea : a ≡ read 2 4 s) (ha : a < 65536) (eb : b ≡ read 2 6 s) (hb : b < 65536) (ec : c ≡ read 2 8 s) (hc : c < 65536) (eu : u ≡ read 2 16 s) where
    room-sum : 18 ≤ length s → a + b + c ≡ unit_room (room_at s)
    room-sum l = rw (ea, eb, ec, read_in 2 4 s (omega arith), read_in 2 6 s (omega arith), read_in 2 8 s (omega arith))

    used-sum : 18 ≤ length s → u ≡ be (part 16 2 s)
    used-sum l = eu ∙ read_in 2 16 s (omega arith)

    pub shape_short : {r : ℕ} → r ≡ a + b + c → length s < 64 + 17 * r → NoUnits s
    shape_short e h = record { none = λ (l : needed_bytes (room_at s) ≤ length s) (m : be (part 16 2 s) ≤ unit_room (room_at s)). omega (arith, room-sum (omega arith), e) }

    pub shape_over : {r : ℕ} → r ≡ a + b + c → 64 + 17 * r ≤ length s → r < u → NoUnits s
    shape_over e h o = record { none = λ (l : needed_bytes (room_at s) ≤ length s) (m : be (part 16 2 s) ≤ unit_room (room_at s)). omega (arith, room-sum (omega arith), used-sum (omega arith), e) }

    pub shape_units : {r : ℕ} → r ≡ a + b + c → 64 + 17 * r ≤ length s → u ≤ r → UnitsOf s (64 + r) u r
    shape_units e h o =
        record {
          room_is = e ∙ room-sum (omega arith);
          base_is = refl;
          used_is = used-sum (omega arith);
          within = o;
          long = h;
          small = omega (arith, e);
        }
