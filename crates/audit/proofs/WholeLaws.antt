-- The test of a whole region, as the code makes it. Assumes nothing.
use Rattle.std.specs.Prelude.{Err, Ok, Option, Result}
use mathlib.Core.Path.{◌≡◌, refl, sym, ap, ◌∙◌}
use Prim.Native.Nat.{ℕ, ◌+◌, ◌≤◌, ◌<◌}
use mathlib.Core.Bool.{Bool, true, false, not, ◌&&◌}
use mathlib.Core.List.{List}
use native.Mathlib.Omega.{arith}
use lib.Dec.{eqb, leb}
use lib.ListN.{length}
use borrow.Author.Tests.{eq-eqb, ne_eqb, le-leb, lt-leb, not-false, not-true}
use Rattle.lent.specs.Numbers.{be, AreBytes}
use Rattle.lent.specs.Parts.{part}
use Rattle.lent.specs.Total.{read}
use Rattle.lent.proofs.Anywhere.{read_in}
use Rattle.held.specs.Room.{in_range}
use Rattle.refusal.specs.declared.Refusal.{Refusal}
use Rattle.refusal.specs.declared.Refusal.TheVariants.{BadSize}
use Rattle.region.specs.declared.Kind.{Kind}
use Rattle.region.specs.declared.Capacities.{Capacities}
use Rattle.region.specs.Layout.{unit_room, needed_bytes}
use Rattle.region.specs.Opening.{room_of, needed_of}
use Rattle.region.specs.Shapes.{CapacitiesOf}
use Rattle.region.specs.Store.{room_at}
use Rattle.forest.specs.Places.{unit_at}
use Rattle.audit.specs.declared.Left.{Left}
use Rattle.audit.specs.Tally.{tally}
use Rattle.audit.specs.Whole.{mark_of, left_at, used_units, units_base, none, all_taken, used_fine, header_fine, store_fine}
use Rattle.audit.specs.Decides.{StoreOf, Decides}
use Rattle.audit.proofs.Headers.{header_yes}
use Rattle.audit.proofs.Stores.{fine_decides}

module _ (s : List ℕ) (long : 64 ≤ length s) where
  number : (p : ℕ) → p + 2 ≤ 64 → read 2 p s ≡ be (part p 2 s)
  number p h = read_in 2 p s (omega arith)

  pub left_is : {a b c : ℕ} → a ≡ read 2 10 s → b ≡ read 2 12 s → c ≡ read 2 14 s → ◌≡◌ {A = Left} (record { nodes = a; pairs = b; cells = c }) (left_at s)
  left_is ea eb ec = rw (ea, eb, ec, number 10 (omega arith), number 12 (omega arith), number 14 (omega arith))

  pub sum_is : {a b c : ℕ} → a ≡ read 2 4 s → b ≡ read 2 6 s → c ≡ read 2 8 s → a + b + c ≡ unit_room (room_at s)
  sum_is ea eb ec = rw (ea, eb, ec, number 4 (omega arith), number 6 (omega arith), number 8 (omega arith))

  -- what is in use
  module _ {n un : ℕ} (en : n ≡ read 2 4 s) (eun : un ≡ read 2 10 s) where
    nodes_in : leb (left_at s).nodes (room_at s).nodes ≡ leb un n
    nodes_in = rw (en, eun, number 4 (omega arith), number 10 (omega arith))

    pub used_nodes : n < un → false ≡ used_fine s
    unfolding used_fine
    used_nodes h = rw (nodes_in, lt-leb un n h)

    module _ (hn : un ≤ n) {p up : ℕ} (ep : p ≡ read 2 6 s) (eup : up ≡ read 2 12 s) where
      pairs_in : leb (left_at s).pairs (room_at s).pairs ≡ leb up p
      pairs_in = rw (ep, eup, number 6 (omega arith), number 12 (omega arith))

      pub used_pairs : p < up → false ≡ used_fine s
      unfolding used_fine
      used_pairs h = rw (nodes_in, le-leb un n hn, pairs_in, lt-leb up p h)

      module _ (hp : up ≤ p) {c uc : ℕ} (ec : c ≡ read 2 8 s) (euc : uc ≡ read 2 14 s) where
        cells_in : leb (left_at s).cells (room_at s).cells ≡ leb uc c
        cells_in = rw (ec, euc, number 8 (omega arith), number 14 (omega arith))

        pub used_cells : c < uc → false ≡ used_fine s
        unfolding used_fine
        used_cells h = rw (nodes_in, le-leb un n hn, pairs_in, le-leb up p hp, cells_in, lt-leb uc c h)

        pub used-units : uc ≤ c → {u r : ℕ} → u ≡ read 2 16 s → r ≡ unit_room (room_at s) → leb u r ≡ used_fine s
        unfolding used_fine
        used-units h eu er = rw (nodes_in, le-leb un n hn, pairs_in, le-leb up p hp, cells_in, le-leb uc c h, eu, er, number 16 (omega arith))

  -- the header
  module _ (k : Kind) {c : Capacities} (ec : CapacitiesOf s c) {z : Result ℕ Refusal} (ez : z ≡ needed_of (room_of c)) where
    size_is : z ≡ needed_of (room_at s)
    size_is = ez ∙ ap needed_of (ec.room_is (omega arith))

    ranged : (t : Bool) → in_range (room_at s) ≡ t → {n : ℕ} → z ≡ Ok n → (in_range (room_at s) ≡ true) × (n ≡ needed_bytes (room_at s))
    ranged true q {n} e = (q, (let f : Ok (needed_bytes (room_at s)) ≡ Ok n = sym (size_is ∙ rw q) ∙ e in cc))
    ranged false q {n} e = absurd (let f : Err BadSize ≡ Ok n = sym (size_is ∙ rw q) ∙ e in let y : ◌≡◌ {A = ℕ} 0 1 = cc in omega arith)

    unranged : (t : Bool) → in_range (room_at s) ≡ t → {r : Refusal} → z ≡ Err r → in_range (room_at s) ≡ false
    unranged true q {r} e = absurd (let f : Ok (needed_bytes (room_at s)) ≡ Err r = sym (size_is ∙ rw q) ∙ e in let y : ◌≡◌ {A = ℕ} 0 1 = cc in omega arith)
    unranged false q e = q

    pub header_range : {r : Refusal} → z ≡ Err r → false ≡ header_fine k s
    unfolding header_fine
    header_range e = rw (unranged (in_range (room_at s)) refl e)

    module _ {n : ℕ} (en : z ≡ Ok n) where
      range : in_range (room_at s) ≡ true
      range = (ranged (in_range (room_at s)) refl en).0

      need : n ≡ needed_bytes (room_at s)
      need = (ranged (in_range (room_at s)) refl en).1

      pub header_short : length s < n → false ≡ header_fine k s
      unfolding header_fine
      header_short h = rw (range, ← need, lt-leb n (length s) h)

      module _ (fits : n ≤ length s) {m w : ℕ} (em : m ≡ read 4 0 s) (ew : w ≡ mark_of k) where
        mark_is : eqb (be (part 0 4 s)) (mark_of k) ≡ eqb m w
        mark_is = rw (em, ew, read_in 4 0 s (omega arith))

        pub header_mark : (m ≡ w → ⊥) → false ≡ header_fine k s
        unfolding header_fine
        header_mark x = rw (range, ← need, le-leb n (length s) fits, mark_is, ne_eqb m w x)

        pub header_last : m ≡ w → {t : Bool} → t ≡ used_fine s → t ≡ header_fine k s
        unfolding header_fine
        header_last x et = rw (range, ← need, le-leb n (length s) fits, mark_is, eq-eqb m w x) et

-- nothing is left
module _ (a : Left) where
  pub none_nodes : (a.nodes ≡ 0 → ⊥) → false ≡ none a
  none_nodes x = rw (ne_eqb a.nodes 0 x)

  pub none_pairs : a.nodes ≡ 0 → (a.pairs ≡ 0 → ⊥) → false ≡ none a
  none_pairs z x = rw (eq-eqb a.nodes 0 z, ne_eqb a.pairs 0 x)

  pub none_cells : a.nodes ≡ 0 → a.pairs ≡ 0 → eqb a.cells 0 ≡ none a
  none_cells z y = rw (eq-eqb a.nodes 0 z, eq-eqb a.pairs 0 y)

-- the whole
module _ (k : Kind) (s : List ℕ) where
  header_long : (t : Bool) → length s < 64 → false ≡ (t && (leb (needed_bytes (room_at s)) (length s) && (eqb (be (part 0 4 s)) (mark_of k) && used_fine s)))
  header_long true h = rw (lt-leb (needed_bytes (room_at s)) (length s) (omega arith))
  header_long false h = refl

  pub whole_short : length s < 64 → false ≡ store_fine k s
  unfolding store_fine header_fine
  whole_short h = rw (← header_long (in_range (room_at s)) h)

  module _ (long : 64 ≤ length s) {t : Bool} (et : t ≡ header_fine k s) where
    pub whole_header : not t ≡ true → false ≡ store_fine k s
    unfolding store_fine
    whole_header x = rw (sym et ∙ not-true t x)

    module _ (ht : not t ≡ false) {r u : ℕ} (er : r ≡ unit_room (room_at s)) (eu : u ≡ read 2 16 s) where
      used : u ≡ used_units s
      used = eu ∙ number s long 16 (omega arith)

      pub whole-fits : (unit_at (64 + r) u ≤ length s) × (64 + u ≤ 64 + r)
      whole-fits =
          let h = header_yes k s (sym et ∙ not-false t ht) in
          (omega (arith, h.long, h.units, used, er), omega (arith, h.units, used, er))

      pub whole_last : {a : Left} → a ≡ left_at s → {x : Option Left} → x ≡ tally k (64 + r) s 1 65536 0 u a → {v : Bool} → v ≡ all_taken x → v ≡ store_fine k s
      unfolding store_fine
      whole_last {a} ea ex ev =
          let y : tally k (64 + r) s 1 65536 0 u a ≡ tally k (units_base s) s 1 65536 0 (used_units s) (left_at s) = rw (ea, er, used) in
          rw (sym et ∙ not-false t ht) (ev ∙ ap all_taken (ex ∙ y))

-- and so it tells exactly a store
pub decides : (k : Kind) (s : List ℕ) → AreBytes s → {r : Bool} → r ≡ store_fine k s → Decides r (StoreOf k s)
decides k s o e = rw e (fine_decides k s o)
