-- A store of retained names, and the path of a name in it. Assumes nothing.
use Rattle.std.specs.Prelude.{Ok}
use mathlib.Core.Path.{◌≡◌, ap, ◌∙◌}
use mathlib.Core.Bool.{false, not}
use mathlib.Core.List.{List, [], ◌∷◌}
use Prim.Native.Nat.{ℕ, suc, ◌+◌, ◌≤◌}
use native.Mathlib.Omega.{arith}
use lib.ListN.{length}
use Rattle.level.specs.Levels.{split}
use Rattle.level.specs.Places.{first}
use Rattle.level.proofs.Split.{split_cons, after}
use Rattle.topic.specs.Answers.{checked}
use Rattle.held.specs.Room.{level_cells, full_rules, room_rules, depth_rule}
use Rattle.held.specs.Retained.{Stored, has_filter, set_held}
use Rattle.held.specs.Forest.{Forest, held}
use Rattle.held.specs.Walks.{hit, values_at}
use Rattle.held.specs.Edit.{set_f, size_f, cells_f, weigh, missing}
use Rattle.held.specs.History.{accepted}
use Rattle.held.proofs.Stores.{null}
use Rattle.held.proofs.Refusals.{rules-set}
use Rattle.held.proofs.RoomLaws.{Within, room_within}
use Rattle.held.proofs.ByTexts.{set_text}
use Rattle.held.proofs.Names.{has_at}
use Rattle.region.proofs.Stores.{units_fit}
use Rattle.region.specs.Layout.{units_f}
use Rattle.region.specs.Units.{stored_of}
use Rattle.region.specs.Store.{room_at, forest_at, RetainedStore}
use Rattle.region.specs.Shapes.{UnitsOf}
use Rattle.region.proofs.Instances.{records}
use Rattle.change.proofs.StoreLaws.{retained_holds}
use Rattle.edit.specs.Adding.{fitting}
use Rattle.edit.proofs.KnownPath.{depth-first, fits_as}
use Rattle.retain.specs.Calls.{held_in}

module _ (s : List ℕ) (st : RetainedStore s) (f : List ℕ) where
  abbrev F : Forest Stored
  F = forest_at stored_of s

  pub has_is : has_filter (split f) (held_in s) ≡ not (null (values_at (split f) (hit [] F)))
  has_is = has_at F st.well.rows (split f)

  module _ {base n room : ℕ} (units : UnitsOf s base n room) (few : length (split f) ≤ 128) (x : Stored) (e : values_at (split f) (hit [] F) ≡ []) where
    pub not-held : has_filter (split f) (held_in s) ≡ false
    not-held = has_is ∙ ap (λ (v : List Stored). not (null v)) e

    -- the rules for room, in the words of the forest
    full-rules : room_rules (room_at s) (has_filter (split f) (held_in s)) (set_held (split f) x (held_in s))
        ≡ full_rules (room_at s) (not (null (values_at (split f) (hit [] F)))) (size_f F + weigh (λ t. 1) (missing (split f) F)) (suc (length (held F))) (cells_f F + weigh level_cells (missing (split f) F))
    unfolding values_at
    full-rules =
        let z : split f ≡ first f ∷ after f = split_cons f in
        rw z (rules-set (room_at s) (first f) (after f) x F st.well)

    only_rooms : checked (room_rules (room_at s) (has_filter (split f) (held_in s)) (set_held (split f) x (held_in s))) ≡ fitting s (length (missing (split f) F)) (weigh level_cells (missing (split f) F))
    only_rooms =
        let full : room_rules (room_at s) (has_filter (split f) (held_in s)) (set_held (split f) x (held_in s))
        ≡ full_rules (room_at s) false (size_f F + weigh (λ t. 1) (missing (split f) F)) (suc (length (held F))) (cells_f F + weigh level_cells (missing (split f) F)) =
        full-rules ∙ rw e in
        ap checked full ∙ fits_as records 2 s units F (retained_holds s st) (missing (split f) F)

    pub rooms_are : checked (depth_rule f ∷ room_rules (room_at s) (has_filter (split f) (held_in s)) (set_held (split f) x (held_in s))) ≡ fitting s (length (missing (split f) F)) (weigh level_cells (missing (split f) F))
    rooms_are = depth-first f few (room_rules (room_at s) (has_filter (split f) (held_in s)) (set_held (split f) x (held_in s))) ∙ only_rooms

    -- what is then held fits, and so do its units
    module _ (q : fitting s (length (missing (split f) F)) (weigh level_cells (missing (split f) F)) ≡ Ok tt) where
      pub set-within : Within (room_at s) (held (set_f (split f) x F))
      set-within =
          let i = set_text f F st.well x in
          rw i.0 (room_within (room_at s) (set_held (split f) x (held_in s)) (rw not-held at (ap accepted (only_rooms ∙ q))))

      pub set_units : units_f (set_f (split f) x F) ≤ room
      set_units =
          let i = set_text f F st.well x in
          omega (arith, units_fit (set_f (split f) x F) i.1.rows i.1.full, set-within.nodes, set-within.pairs, set-within.cells, units.room_is)
