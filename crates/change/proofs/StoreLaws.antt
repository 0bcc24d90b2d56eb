-- A store holds the forest that is decoded from it; and a region that holds a well-formed forest is a store of it. Assumes nothing.
use mathlib.Core.Path.{◌≡◌, refl, sym, ap, ◌∙◌}
use mathlib.Core.List.{List, ◌++◌}
use mathlib.Core.Option.{Option, none, some}
use Prim.Native.Nat.{ℕ, ◌%◌, ◌^◌, ◌<◌}
use native.Mathlib.Omega.{arith}
use Rattle.lent.specs.Numbers.{bytes, be}
use Rattle.lent.specs.Parts.{part}
use Rattle.lent.proofs.Digits.{be-bytes, bytes_mod}
use Rattle.topic.specs.Rules.{filter_rules, name_rules}
use Rattle.held.specs.Order.{Filter}
use Rattle.held.specs.Ascending.{All}
use Rattle.held.specs.Retained.{Stored}
use Rattle.held.specs.Sized.{SmallStored}
use Rattle.held.specs.Forest.{Forest, held, Rows, Full, WellFormed, WellNamed}
use Rattle.region.specs.Layout.{units_f, unit_bytes}
use Rattle.region.specs.Units.{value_bytes, value_of, moment_bytes, stored_bytes, stored_of}
use Rattle.region.specs.Forms.{Form, Fits}
use Rattle.region.specs.Decode.{decode}
use Rattle.region.specs.Store.{room_at, forest_at, used_by, WrittenIn, Accepts, SubscriptionStore, RetainedStore}
use Rattle.region.proofs.Sizes.{few_units}
use Rattle.region.proofs.Stores.{header_field, units-read, units_fit}
use Rattle.region.proofs.Decoded.{decode_units}
use Rattle.region.proofs.Fitted.{fits_back}
use Rattle.region.proofs.Instances.{values, records}
use Rattle.change.specs.Holds.{Holds}

-- the units that a header tells of are those of the forest
module _ {X : Type 0} (u : Form X) (kind : ℕ) (s : List ℕ) (F : Forest X) (w : WrittenIn kind u.write F s) (rows : Rows F) (full : Full F) where
  units_few : units_f F < 65536
  units_few = omega (arith, units_fit F rows full, w.nodes_fit, w.pairs_fit, w.cells_fit, few_units (room_at s) w.range)

  pub used_is : be (part 16 2 s) ≡ units_f F
  used_is = ap be (header_field kind (room_at s) (used_by F) s w.header 16 (omega arith)) ∙ units-read kind (room_at s) (used_by F) units_few

  decoded : forest_at u.read s ≡ decode u.read (unit_bytes u.write F)
  decoded = rw (used_is, w.units)

  pub forest_is : Fits u.Small F → forest_at u.read s ≡ F
  forest_is f = decoded ∙ decode_units u F f

  pub holds_of : ((x : X) → u.read (u.write x) ≡ x → u.Small x) → forest_at u.read s ≡ F → Holds u kind s F
  holds_of back e = record { written = w; rows = rows; full = full; fits = fits_back u back F units_few (sym decoded ∙ e) }

-- a number that is read back from its bytes fits them
four : (x : ℕ) → be (bytes 4 x) ≡ x → x < 256 ^ 4
four x e =
    let z : be (bytes 4 x) ≡ x % 4294967296 = ap be (sym (bytes_mod 4 x)) ∙ be-bytes 4 (x % 4294967296) (omega arith) in
    omega (arith, z, e)

eight : (x : ℕ) → be (bytes 8 x) ≡ x → x < 256 ^ 8
eight x e =
    let z : be (bytes 8 x) ≡ x % 18446744073709551616 = ap be (sym (bytes_mod 8 x)) ∙ be-bytes 8 (x % 18446744073709551616) (omega arith) in
    omega (arith, z, e)

value_small : (v : ℕ) → value_of (value_bytes v) ≡ v → v < 256 ^ 4
unfolding value_of value_bytes bytes part
value_small v e = four v e

-- a store of subscriptions holds its forest
pub store_holds : (s : List ℕ) → SubscriptionStore s → Holds values 1 s (forest_at value_of s)
store_holds s w = holds_of values 1 s (forest_at value_of s) w.written w.well.rows w.well.full value_small refl

-- and a region that holds a well-formed forest with accepted texts is a store
pub holds_store : (s : List ℕ) (F : Forest ℕ) → Holds values 1 s F → WellFormed F → All (λ (e : Filter × ℕ). Accepts filter_rules e.0) (held F)
    → SubscriptionStore s × (forest_at value_of s ≡ F)
holds_store s F h w t =
    let e : forest_at value_of s ≡ F = forest_is values 1 s F h.written h.rows h.full h.fits in
    (record { written = rw e h.written; well = rw e w; texts = rw e t }, e)

-- a record that is read back is small
abbrev or_none : Option ℕ → ℕ
or_none none = 0
or_none (some m) = m

moment_small : (h m : ℕ) → ◌≡◌ {A = Option ℕ} (stored_of (bytes 4 h ++ moment_bytes (some m))).moment (some m) → m < 256 ^ 8
unfolding stored_of bytes part
moment_small h m e = eight m (ap or_none e)

pub stored_small : (x : Stored) → stored_of (stored_bytes x) ≡ x → SmallStored x
unfolding stored_of stored_bytes bytes part
stored_small x e = record { handle = four x.handle (ap (λ (s : Stored). s.handle) e); moment = λ m z. moment_small x.handle m (rw z at (ap (λ (s : Stored). s.moment) e)) }

-- a store of retained names holds its forest
pub retained_holds : (s : List ℕ) → RetainedStore s → Holds records 2 s (forest_at stored_of s)
retained_holds s w = holds_of records 2 s (forest_at stored_of s) w.written w.well.rows w.well.full stored_small refl

-- and a region that holds a well-formed forest with accepted names is a store
pub holds-retained : (s : List ℕ) (F : Forest Stored) → Holds records 2 s F → WellNamed F → All (λ (e : Filter × Stored). Accepts name_rules e.0) (held F)
    → RetainedStore s × (forest_at stored_of s ≡ F)
holds-retained s F h w t =
    let e : forest_at stored_of s ≡ F = forest_is records 2 s F h.written h.rows h.full h.fits in
    (record { written = rw e h.written; well = rw e w; texts = rw e t }, e)
