-- A store of subscriptions, and the path of a filter in it. Assumes nothing.
use Rattle.std.specs.Prelude.{Ok}
use mathlib.Core.Path.{◌≡◌, ap, ◌∙◌}
use mathlib.Core.Bool.{false}
use mathlib.Core.List.{List, [], ◌∷◌}
use Prim.Native.Nat.{ℕ, suc, ◌+◌, ◌≤◌}
use native.Mathlib.Omega.{arith}
use lib.Dec.{eqb}
use lib.ListN.{length}
use Rattle.level.specs.Levels.{split}
use Rattle.level.specs.Places.{first}
use Rattle.level.proofs.Split.{split_cons, after}
use Rattle.topic.specs.Rules.{filter_rules}
use Rattle.topic.specs.Answers.{checked}
use Rattle.held.specs.Ascending.{member}
use Rattle.held.specs.Room.{level_cells, full_rules, room_rules, depth_rule}
use Rattle.held.specs.Subscriptions.{is_held, insert_held}
use Rattle.held.specs.Forest.{Forest, held}
use Rattle.held.specs.Walks.{hit, values_at}
use Rattle.held.specs.Edit.{insert_f, size_f, cells_f, weigh, missing, HashLast}
use Rattle.held.specs.History.{accepted}
use Rattle.held.proofs.Texts.{filter-hash}
use Rattle.held.proofs.Refusals.{rules_insert}
use Rattle.held.proofs.RoomLaws.{Within, room_within}
use Rattle.held.proofs.ByTexts.{insert_text}
use Rattle.held.proofs.Forests.{held_at}
use Rattle.region.proofs.Stores.{units_fit}
use Rattle.region.specs.Layout.{units_f}
use Rattle.region.specs.Units.{value_of}
use Rattle.region.specs.Store.{room_at, forest_at, SubscriptionStore}
use Rattle.region.specs.Shapes.{UnitsOf}
use Rattle.region.proofs.Instances.{values}
use Rattle.change.proofs.StoreLaws.{store_holds}
use Rattle.edit.specs.Adding.{fitting}
use Rattle.edit.proofs.KnownPath.{depth-first, fits_as}
use Rattle.trie.specs.Calls.{held_in}

module _ (s : List ℕ) (st : SubscriptionStore s) (f : List ℕ) where
  abbrev F : Forest ℕ
  F = forest_at value_of s

  pub held_is : (x : ℕ) → is_held (split f, x) (held_in s) ≡ member eqb x (values_at (split f) (hit [] F))
  held_is x = held_at F st.well.rows (split f) x

  module _ {base n room : ℕ} (units : UnitsOf s base n room) (fine : checked (filter_rules f) ≡ Ok tt) (few : length (split f) ≤ 128) (x : ℕ) (e : member eqb x (values_at (split f) (hit [] F)) ≡ false) where
    -- the rules for room, in the words of the forest
    full-rules : room_rules (room_at s) (is_held (split f, x) (held_in s)) (insert_held (split f, x) (held_in s))
        ≡ full_rules (room_at s) (member eqb x (values_at (split f) (hit [] F))) (size_f F + weigh (λ t. 1) (missing (split f) F)) (suc (length (held F))) (cells_f F + weigh level_cells (missing (split f) F))
    unfolding values_at
    full-rules =
        let z : split f ≡ first f ∷ after f = split_cons f in
        let hash : HashLast (split f) = filter-hash f (ap accepted fine) in
        rw z (rules_insert (room_at s) (first f) (after f) x F st.well (rw z at hash))

    only_rooms : checked (room_rules (room_at s) (is_held (split f, x) (held_in s)) (insert_held (split f, x) (held_in s))) ≡ fitting s (length (missing (split f) F)) (weigh level_cells (missing (split f) F))
    only_rooms =
        let full : room_rules (room_at s) (is_held (split f, x) (held_in s)) (insert_held (split f, x) (held_in s))
        ≡ full_rules (room_at s) false (size_f F + weigh (λ t. 1) (missing (split f) F)) (suc (length (held F))) (cells_f F + weigh level_cells (missing (split f) F)) =
        full-rules ∙ rw e in
        ap checked full ∙ fits_as values 1 s units F (store_holds s st) (missing (split f) F)

    pub rooms_are : checked (depth_rule f ∷ room_rules (room_at s) (is_held (split f, x) (held_in s)) (insert_held (split f, x) (held_in s))) ≡ fitting s (length (missing (split f) F)) (weigh level_cells (missing (split f) F))
    rooms_are = depth-first f few (room_rules (room_at s) (is_held (split f, x) (held_in s)) (insert_held (split f, x) (held_in s))) ∙ only_rooms

    -- what is then held fits, and so do its units
    module _ (q : fitting s (length (missing (split f) F)) (weigh level_cells (missing (split f) F)) ≡ Ok tt) where
      pub inserted-within : Within (room_at s) (held (insert_f (split f) x F))
      inserted-within =
          let i = insert_text f (ap accepted fine) x F st.well in
          let n : is_held (split f, x) (held_in s) ≡ false = held_is x ∙ e in
          rw i.0 (room_within (room_at s) (insert_held (split f, x) (held_in s)) (rw n at (ap accepted (only_rooms ∙ q))))

      pub inserted_units : units_f (insert_f (split f) x F) ≤ room
      inserted_units =
          let i = insert_text f (ap accepted fine) x F st.well in
          omega (arith, units_fit (insert_f (split f) x F) i.1.rows i.1.full, inserted-within.nodes, inserted-within.pairs, inserted-within.cells, units.room_is)
