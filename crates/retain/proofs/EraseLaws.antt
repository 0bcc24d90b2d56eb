-- Erasing a record: what each answer rests on. Assumes nothing.
use Rattle.std.specs.Prelude.{Err, None, Ok, Option, Result, Some}
use Rattle.std.proofs.lemmas.Option.{none-some}
use Rattle.refusal.specs.declared.Refusal.{Refusal}
use mathlib.Core.Path.{◌≡◌, refl, sym, ap, ◌∙◌}
use mathlib.Core.Bool.{Bool, true, false, not}
use mathlib.Core.List.{List, []}
use Prim.Native.Nat.{ℕ, ◌+◌, ◌-◌, ◌≤◌, ◌<◌}
use native.Mathlib.Omega.{arith}
use lib.ListN.{length, take, get_or}
use Rattle.refusal.specs.declared.Refusal.TheVariants.{NotAStore}
use Rattle.level.specs.Levels.{split}
use Rattle.topic.specs.Rules.{name_rules}
use Rattle.topic.specs.Answers.{checked}
use Rattle.held.specs.Order.{same_filter}
use Rattle.held.specs.Retained.{Stored, Named, has_filter, erase_held, set}
use Rattle.held.specs.Forest.{Forest, leaf, held, Full}
use Rattle.held.specs.Edit.{erase_f, cut_f}
use Rattle.held.proofs.Stores.{null}
use Rattle.held.proofs.Bounds.{length-keep}
use Rattle.held.proofs.RoomLaws.{Within}
use Rattle.held.proofs.ByTexts.{erase_text}
use Rattle.region.specs.Layout.{level_units}
use Rattle.region.specs.Units.{stored_of}
use Rattle.region.specs.Store.{room_at, forest_at, RetainedStore}
use Rattle.region.specs.Shapes.{UnitsOf}
use Rattle.region.proofs.Instances.{records}
use Rattle.seek.specs.declared.Path.{Path}
use Rattle.seek.specs.PathFound.{PathFound}
use Rattle.change.specs.Ways.{ahead}
use Rattle.change.proofs.EditLaws.{Becomes}
use Rattle.change.proofs.StoreLaws.{retained_holds}
use Rattle.edit.specs.Calls.{Step}
use Rattle.edit.specs.Taking.{alone_in, PathTaken, OneLess}
use Rattle.edit.proofs.KnownPath.{node_is}
use Rattle.edit.proofs.Taken.{cut-within, alone_own, not_alone, unit-gone, path-gone}
use Rattle.retain.specs.Slots.{slot_in}
use Rattle.retain.specs.Calls.{held_in, retained_store}
use Rattle.retain.specs.Erasing.{Erases}
use Rattle.retain.proofs.SlotLaws.{here, own_held, slot-stored, One, some-held, none-held}
use Rattle.retain.proofs.StepLaws.{erase-none, erase_done}
use Rattle.retain.proofs.StoredPath.{has_is}

-- a node holds nothing then
abbrev emptied : List Stored → List Stored
emptied v = []

-- what is held after a name is erased fits
module _ (s : List ℕ) (st : RetainedStore s) (f : List ℕ) where
  erased_full : Full (cut_f emptied (split f) (forest_at stored_of s))
  unfolding erase_f
  erased_full = (erase_text f (forest_at stored_of s) st.well).1.full

  erased-within : Within (room_at s) (held (cut_f emptied (split f) (forest_at stored_of s)))
  unfolding erase_f erase_held
  erased-within =
      let i = erase_text f (forest_at stored_of s) st.well in
      cut-within records 2 s (forest_at stored_of s) (retained_holds s st) emptied (split f) erased_full
      (omega (arith, ap length i.0, length-keep (λ (q : Named). not (same_filter (split f) q.0)) (held_in s)))

module _ (s : List ℕ) {base n room : ℕ} (units : UnitsOf s base n room) (f : List ℕ) (fine : checked (name_rules f) ≡ Ok tt) (few : length (split f) ≤ 128) {p : Path} (pf : PathFound base s n f p)
    (q : length f < p.from) (full : length p.nodes ≡ 128) {node : ℕ} (at : node ≡ get_or p.nodes (p.depth - 1) 0) {answer : Option (Result ℕ ℕ)} (e : answer ≡ slot_in base s n node) where
  has_own : (st : RetainedStore s) {v : List Stored} → (here s units f few pf q full st).own ≡ v → has_filter (split f) (held_in s) ≡ not (null v)
  has_own st z = has_is s st f ∙ ap (λ (v : List Stored). not (null v)) (own_held s units f few pf q full st ∙ z)

  pub gone_broken : answer ≡ None → Erases f s s (Err NotAStore)
  gone_broken h =
      record {
        does = λ (x : Stored).
            record { does = λ (st : RetainedStore s). absurd (none-some _ (sym h ∙ e ∙ slot-stored s units f few pf q full st at)) };
      }

  pub gone_absent : {slot : Result ℕ ℕ} → answer ≡ Some slot → {k : ℕ} → slot ≡ Err k → Erases f s s (Ok 4)
  gone_absent g h =
      record {
        does = λ (x : Stored).
            record { does = λ (st : RetainedStore s). erase-none s st f x fine (has_own st (none-held s units f few pf q full st at e g h).1) };
      }

  module _ {slot : Result ℕ ℕ} (g : answer ≡ Some slot) {k : ℕ} (h : slot ≡ Ok k) {b : Bool} (eb : b ≡ alone_in base s n node) where
    module _ (x : Stored) (st : RetainedStore s) where
      abbrev F : Forest Stored
      F = forest_at stored_of s

      it : One (here s units f few pf q full st).own
      it = (some-held s units f few pf q full st at e g h).1

      done : (t : List ℕ) → Becomes records 2 s t (cut_f emptied (split f) F) → Step retained_store (set f 0 x) s t (Ok 3)
      unfolding erase_f
      done t c = erase_done s st f x fine (has_own st it.is) t c

      -- of a node without children
      path_step : b ≡ true → {t : List ℕ} {r : Result ℕ Refusal} → PathTaken s base n p.nodes p.depth f 3 t r → Step retained_store (set f 0 x) s t r
      path_step z a =
          let c = alone_own records 2 s units F (retained_holds s st) f few pf full q at (sym eb ∙ z) in
          path-gone records 2 s units F (retained_holds s st) f few pf full q emptied (erased_full s st f) (erased-within s st f) it.it it.is c.1 refl
          (λ (t : List ℕ) (r : Result ℕ Refusal). Step retained_store (set f 0 x) s t r) done a

      -- of a node with children
      others : b ≡ false → ◌≡◌ {A = List Stored} [] [] → (here s units f few pf q full st).kids ≡ leaf → ⊥
      others z u v = not_alone records 2 s units F (retained_holds s st) f few pf full q at (sym eb ∙ z) (ap length it.is) v

      unit_step : b ≡ false → {t : List ℕ} {r : Result ℕ Refusal} → OneLess s base n (take (p.depth - 1) p.nodes) node k 3 t r → Step retained_store (set f 0 x) s t r
      unit_step z a =
          let w : k ≡ ahead (here s units f few pf q full st).way + level_units (here s units f few pf q full st).level + 0 =
          omega (arith, (some-held s units f few pf q full st at e g h).0) in
          unit-gone records 2 s units F (retained_holds s st) f few pf full q emptied (erased_full s st f) (erased-within s st f) it.it [] [] it.is refl (others z)
          (λ (t : List ℕ) (r : Result ℕ Refusal). Step retained_store (set f 0 x) s t r) done (at ∙ node_is records 2 s units F (retained_holds s st) f few pf q full) w a

    pub gone_path : b ≡ true → {t : List ℕ} {r : Result ℕ Refusal} → PathTaken s base n p.nodes p.depth f 3 t r → Erases f s t r
    gone_path z a = record { does = λ (x : Stored). record { does = λ (st : RetainedStore s). path_step x st z a } }

    pub gone_unit : b ≡ false → {t : List ℕ} {r : Result ℕ Refusal} → OneLess s base n (take (p.depth - 1) p.nodes) node k 3 t r → Erases f s t r
    gone_unit z a = record { does = λ (x : Stored). record { does = λ (st : RetainedStore s). unit_step x st z a } }
