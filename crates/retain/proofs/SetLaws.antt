-- Setting a record: what each answer rests on. Assumes nothing.
use Rattle.std.specs.Prelude.{Err, None, Ok, Option, Result, Some}
use Rattle.std.proofs.lemmas.Option.{none-some}
use Rattle.refusal.specs.declared.Refusal.{Refusal}
use mathlib.Core.Path.{◌≡◌, refl, sym, ap, ◌∙◌}
use mathlib.Core.Bool.{true, not}
use mathlib.Core.List.{List, [], ◌∷◌}
use Prim.Native.Nat.{ℕ, ◌+◌, ◌-◌, ◌*◌, ◌≤◌, ◌<◌}
use native.Mathlib.Omega.{arith}
use lib.ListN.{length, take, get_or}
use Rattle.refusal.specs.declared.Refusal.TheVariants.{NotAStore}
use Rattle.lent.specs.Parts.{patch}
use Rattle.lent.specs.Total.{write}
use Rattle.lent.proofs.Anywhere.{write_in}
use Rattle.level.specs.Levels.{split}
use Rattle.level.specs.Places.{levels_at}
use Rattle.topic.specs.Rules.{name_rules}
use Rattle.topic.specs.Answers.{checked}
use Rattle.held.specs.Order.{Filter}
use Rattle.held.specs.Room.{level_cells}
use Rattle.held.specs.Retained.{Stored, has_filter, set}
use Rattle.held.specs.Sized.{SmallStored}
use Rattle.held.specs.Forest.{Forest}
use Rattle.held.specs.Walks.{hit, values_at}
use Rattle.held.specs.Edit.{set_f, missing, weigh}
use Rattle.held.proofs.Stores.{null}
use Rattle.held.proofs.ByTexts.{set_text}
use Rattle.region.specs.Layout.{level_units, units_f}
use Rattle.region.specs.Units.{stored_bytes, stored_of}
use Rattle.region.specs.Store.{forest_at, RetainedStore}
use Rattle.region.specs.Shapes.{UnitsOf}
use Rattle.region.proofs.Instances.{records, stored_long}
use Rattle.forest.specs.Places.{unit_at}
use Rattle.seek.specs.declared.Path.{Path}
use Rattle.seek.specs.PathFound.{PathFound}
use Rattle.seek.proofs.PathLaws.{holds-none}
use Rattle.room.specs.declared.Load.{Load}
use Rattle.room.specs.Runs.{WantedFor}
use Rattle.room.specs.Changes.{made_unit, made_chain}
use Rattle.change.specs.Ways.{ahead}
use Rattle.change.proofs.EditLaws.{Becomes}
use Rattle.change.proofs.StoreLaws.{stored_small, retained_holds}
use Rattle.edit.specs.Calls.{Step, Does}
use Rattle.edit.specs.Adding.{fitting, Added, no_fit, no-room, added, ChainAdded}
use Rattle.edit.proofs.LastLaws.{last_inside}
use Rattle.edit.proofs.KnownPath.{stands, node_is}
use Rattle.edit.proofs.Added.{none-missing, unit-more, unit-held, unit_swapped, load_fits, chain_more, chain_held}
use Rattle.retain.specs.Slots.{slot_in}
use Rattle.retain.specs.Units.{UnitOf}
use Rattle.retain.specs.Calls.{held_in, retained_store}
use Rattle.retain.proofs.SlotLaws.{here, own_held, slot-stored, One, some-held, none-held}
use Rattle.retain.proofs.StepLaws.{set_refused, set_new, set_again}
use Rattle.retain.proofs.StoredPath.{has_is, not-held, rooms_are, set-within, set_units}

-- a node holds this record, whatever it held
abbrev only : Stored → List Stored → List Stored
only x v = x ∷ []

module _ (s : List ℕ) {base n room : ℕ} (units : UnitsOf s base n room) (f : List ℕ) (fine : checked (name_rules f) ≡ Ok tt) (few : length (split f) ≤ 128) {p : Path} (pf : PathFound base s n f p)
    (full : length p.nodes ≡ 128) (x : Stored) where
  -- a new name, once the room was tested: the region then holds the forest with it
  module _ (st : RetainedStore s) (absent : values_at (split f) (hit [] (forest_at stored_of s)) ≡ []) (nodes cells more : ℕ)
      (fits : fitting s (length (missing (split f) (forest_at stored_of s))) (weigh level_cells (missing (split f) (forest_at stored_of s))) ≡ fitting s nodes cells)
      (size : units_f (set_f (split f) x (forest_at stored_of s)) ≡ n + more) (made : List ℕ)
      (becomes : fitting s nodes cells ≡ Ok tt → Becomes records 2 s made (set_f (split f) x (forest_at stored_of s))) where
    new_name : {t : List ℕ} {r : Result ℕ Refusal} → Added s n room nodes cells more made t r → Step retained_store (set f 1 x) s t r
    new_name (no_fit {r = r} z) = set_refused s st f x fine r (rooms_are s st f units few x absent ∙ fits ∙ z)
    new_name (no-room z g) = absurd (omega (arith, size, g, set_units s st f units few x absent (fits ∙ z)))
    new_name (added z g) = set_new s st f x fine few (not-held s st f units few x absent) (rooms_are s st f units few x absent ∙ fits ∙ z) made (becomes z)

  -- the nodes are there
  module _ (q : length f < p.from) {node : ℕ} (at : node ≡ get_or p.nodes (p.depth - 1) 0) {answer : Option (Result ℕ ℕ)} (e : answer ≡ slot_in base s n node) where
    pub record_broken : answer ≡ None → Does retained_store (set f 1 x) s s (Err NotAStore)
    record_broken h =
        record { does = λ (st : RetainedStore s). absurd (none-some _ (sym h ∙ e ∙ slot-stored s units f few pf q full st at)) }

    module _ (st : RetainedStore s) where
      abbrev F : Forest Stored
      F = forest_at stored_of s

      abbrev place : ℕ
      place = ahead (here s units f few pf q full st).way + level_units (here s units f few pf q full st).level

      own_now : values_at (split f) (hit [] F) ≡ (here s units f few pf q full st).own
      own_now = own_held s units f few pf q full st

      -- its record is replaced
      over : {k : ℕ} → k ≡ place → One (here s units f few pf q full st).own → SmallStored x → Step retained_store (set f 1 x) s (patch (unit_at base k) (stored_bytes x) s) (Ok 2)
      unfolding set_f
      over {k} a o small =
          let h : has_filter (split f) (held_in s) ≡ true = has_is s st f ∙ ap (λ (v : List Stored). not (null v)) (own_now ∙ o.is) in
          let z : k ≡ place + 0 = omega (arith, a) in
          set_again s st f x fine few h (patch (unit_at base k) (stored_bytes x) s)
          (unit_swapped records 2 s units F (retained_holds s st) f few pf full (only x) q o.it x [] [] o.is refl small (set_text f F st.well x).1.full z)

      -- the node had none
      module _ (none : (here s units f few pf q full st).own ≡ []) (small : SmallStored x) where
        absent : values_at (split f) (hit [] F) ≡ []
        absent = own_now ∙ none

        fits : fitting s (length (missing (split f) F)) (weigh level_cells (missing (split f) F)) ≡ fitting s 0 0
        fits = ap (λ (m : Filter). fitting s (length m) (weigh level_cells m)) (none-missing records 2 s units F (retained_holds s st) f few pf full (only x) q x [] [] none refl)

        more : units_f (set_f (split f) x F) ≡ n + 1
        unfolding set_f
        more = unit-more records 2 s units F (retained_holds s st) f few pf full (only x) q x [] [] none refl

        becomes : fitting s 0 0 ≡ Ok tt → Becomes records 2 s (made_unit base n (take (p.depth - 1) p.nodes) node (place + 0) (stored_bytes x) s) (set_f (split f) x F)
        unfolding set_f
        becomes z =
            unit-held records 2 s units F (retained_holds s st) f few pf full (only x) q x [] [] none refl small (set_text f F st.well x).1.full
            (set-within s st f units few x absent (fits ∙ z)) (at ∙ node_is records 2 s units F (retained_holds s st) f few pf q full)

        new_record : {t : List ℕ} {r : Result ℕ Refusal} → Added s n room 0 0 1 (made_unit base n (take (p.depth - 1) p.nodes) node (place + 0) (stored_bytes x) s) t r → Step retained_store (set f 1 x) s t r
        new_record a = new_name st absent 0 0 1 fits more _ becomes a

      inside : {k : ℕ} → k ≡ place → One (here s units f few pf q full st).own → unit_at base k + 16 ≤ length s
      inside a o =
          omega (arith, a, last_inside records base s n F (stands records 2 s units F (retained_holds s st)) (split f) (here s units f few pf q full st), ap length o.is, units.within, units.long, units.base_is)

    pub record_over : {slot : Result ℕ ℕ} → answer ≡ Some slot → {k : ℕ} → slot ≡ Ok k → {unit : List ℕ} → UnitOf x unit → {t : List ℕ} → t ≡ write (base + k * 16) unit s → Does retained_store (set f 1 x) s t (Ok 2)
    record_over g {k} h w {t} z =
        record {
          does = λ (st : RetainedStore s).
              let o = some-held s units f few pf q full st at e g h in
              let i : base + k * 16 + length (stored_bytes x) ≤ length s = rw (stored_long x) (inside st o.0 o.1) in
              let y : t ≡ patch (unit_at base k) (stored_bytes x) s = z ∙ ap (λ (v : List ℕ). write (base + k * 16) v s) w.is ∙ write_in (base + k * 16) (stored_bytes x) s i in
              rw y (over st o.0 o.1 (stored_small x w.back));
        }

    pub record_added : {slot : Result ℕ ℕ} → answer ≡ Some slot → {k : ℕ} → slot ≡ Err k → {unit : List ℕ} → UnitOf x unit → {t : List ℕ} {r : Result ℕ Refusal}
        → Added s n room 0 0 1 (made_unit base n (take (p.depth - 1) p.nodes) node k unit s) t r → Does retained_store (set f 1 x) s t r
    record_added g {k} h w d =
        record {
          does = λ (st : RetainedStore s).
              let o = none-held s units f few pf q full st at e g h in
              let m : k ≡ place st + 0 = omega (arith, o.0) in
              new_record st o.1 (stored_small x w.back) (rw (m, w.is) at d);
        }

  -- some nodes are missing
  module _ (size : length f ≤ 65535) (q : p.from ≤ length f) where
    module _ (st : RetainedStore s) (small : SmallStored x) (load : Load) (w : WantedFor (levels_at f p.from) load) where
      abbrev G : Forest Stored
      G = forest_at stored_of s

      nothing : values_at (split f) (hit [] G) ≡ []
      nothing = holds-none base s n f p pf records G (stands records 2 s units G (retained_holds s st)) few q

      chain_fits : fitting s (length (missing (split f) G)) (weigh level_cells (missing (split f) G)) ≡ fitting s load.nodes load.cells
      chain_fits = load_fits records 2 s units G (retained_holds s st) f few pf full (only x) q x refl load w

      chain_size : units_f (set_f (split f) x G) ≡ n + load.units
      unfolding set_f
      chain_size = chain_more records 2 s units G (retained_holds s st) f few pf full (only x) q x refl load w

      chain_becomes : fitting s load.nodes load.cells ≡ Ok tt
          → Becomes records 2 s (made_chain base n (take p.depth p.nodes) p.place (p.depth + 1) (stored_bytes x) (levels_at f p.from) load s) (set_f (split f) x G)
      unfolding set_f
      chain_becomes z =
          chain_held records 2 s units G (retained_holds s st) f few pf full (only x) q x refl load w small size (set_text f G st.well x).1.full
          (set-within s st f units few x nothing (chain_fits ∙ z))

      new-chain : {t : List ℕ} {r : Result ℕ Refusal}
          → Added s n room load.nodes load.cells load.units (made_chain base n (take p.depth p.nodes) p.place (p.depth + 1) (stored_bytes x) (levels_at f p.from) load s) t r → Step retained_store (set f 1 x) s t r
      new-chain a = new_name st nothing load.nodes load.cells load.units chain_fits chain_size _ chain_becomes a

    pub chain_does : {unit : List ℕ} → UnitOf x unit → {t : List ℕ} {r : Result ℕ Refusal} → ChainAdded s base n room p f unit t r → Does retained_store (set f 1 x) s t r
    chain_does w a = record { does = λ (st : RetainedStore s). new-chain st (stored_small x w.back) a.load a.wanted (rw w.is at a.adds) }
