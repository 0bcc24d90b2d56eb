-- The rules for room, from a forest's own counts: what the code tests. Assumes nothing.
use mathlib.Core.Path.{◌≡◌, ap, ◌∙◌}
use Prim.Native.Nat.{ℕ, suc, ◌+◌}
use mathlib.Core.Bool.{Bool, false, not}
use mathlib.Core.List.{List, [], ◌∷◌}
use lib.Dec.{eqb}
use lib.ListN.{length}
use Rattle.held.specs.Order.{Level, Filter}
use Rattle.held.specs.Ascending.{member}
use Rattle.held.specs.Room.{node_count, level_cells, cell_count, Room, full_rules, room_rules}
use Rattle.held.specs.Subscriptions.{Pair, is_held, insert_held}
use Rattle.held.specs.Retained.{Stored, Named, has_filter, set_held}
use Rattle.held.specs.Forest.{Forest, held, WellFormed, WellNamed}
use Rattle.held.specs.Walks.{kid, values_at}
use Rattle.held.specs.Edit.{with_value, insert_f, HashLast, size_f, cells_f, set_f, missing, weigh}
use Rattle.held.proofs.Stores.{null}
use Rattle.held.proofs.RoomLaws.{rules_by}
use Rattle.held.proofs.Lengths.{length_insert, length-set}
use Rattle.held.proofs.Forests.{held_at, insert_well, well_pairs, insert-held}
use Rattle.held.proofs.Names.{has_at, set_well, well_names, set-held}
use Rattle.held.proofs.Counts.{node-count, cell-count}
use Rattle.held.proofs.Weights.{weigh_grow}

module _ (r : Room) (g : Level) (gs : Filter) (x : ℕ) (F : Forest ℕ) (w : WellFormed F) (s : HashLast (g ∷ gs)) where
  counts_inserted : is_held (g ∷ gs, x) (held F) ≡ false → let h : List Pair = insert_held (g ∷ gs, x) (held F) in
      (node_count h ≡ size_f F + weigh (λ t. 1) (missing (g ∷ gs) F)) × (length h ≡ suc (length (held F))) × (cell_count h ≡ cells_f F + weigh level_cells (missing (g ∷ gs) F))
  unfolding insert_f
  counts_inserted e =
      let G : Forest ℕ = insert_f (g ∷ gs) x F in
      let wg : WellFormed G = insert_well (g ∷ gs) x F s w in
      let i : held G ≡ insert_held (g ∷ gs, x) (held F) = insert-held g gs x F w s in (
        rw (← i) (node-count G wg.rows wg.full ∙ weigh_grow (λ t. 1) (with_value x) F w.rows (g ∷ gs)),
        length_insert (g ∷ gs, x) (held F) (well_pairs F w) ∙ rw e,
        rw (← i) (cell-count G wg.rows wg.full ∙ weigh_grow level_cells (with_value x) F w.rows (g ∷ gs)),
      )

  -- what an insertion tests: the value at the path, the counts, and the levels that are missing
  pub rules_insert : room_rules r (is_held (g ∷ gs, x) (held F)) (insert_held (g ∷ gs, x) (held F))
      ≡ full_rules r (member eqb x (values_at gs (kid g F))) (size_f F + weigh (λ t. 1) (missing (g ∷ gs) F)) (suc (length (held F))) (cells_f F + weigh level_cells (missing (g ∷ gs) F))
  unfolding values_at
  rules_insert =
      rules_by r (insert_held (g ∷ gs, x) (held F)) _ _ _ (is_held (g ∷ gs, x) (held F)) counts_inserted
      ∙ ap (λ (b : Bool). full_rules r b (size_f F + weigh (λ t. 1) (missing (g ∷ gs) F)) (suc (length (held F))) (cells_f F + weigh level_cells (missing (g ∷ gs) F))) (held_at F w.rows (g ∷ gs) x)

module _ (r : Room) (g : Level) (gs : Filter) (s : Stored) (F : Forest Stored) (w : WellNamed F) where
  counts-set : has_filter (g ∷ gs) (held F) ≡ false → let h : List Named = set_held (g ∷ gs) s (held F) in
      (node_count h ≡ size_f F + weigh (λ t. 1) (missing (g ∷ gs) F)) × (length h ≡ suc (length (held F))) × (cell_count h ≡ cells_f F + weigh level_cells (missing (g ∷ gs) F))
  unfolding set_f
  counts-set e =
      let G : Forest Stored = set_f (g ∷ gs) s F in
      let wg : WellNamed G = set_well (g ∷ gs) s F w in
      let i : held G ≡ set_held (g ∷ gs) s (held F) = set-held F w g gs s in (
        rw (← i) (node-count G wg.rows wg.full ∙ weigh_grow (λ t. 1) (λ v. s ∷ []) F w.rows (g ∷ gs)),
        length-set (g ∷ gs) s (held F) (well_names F w) ∙ rw e,
        rw (← i) (cell-count G wg.rows wg.full ∙ weigh_grow level_cells (λ v. s ∷ []) F w.rows (g ∷ gs)),
      )

  -- the same for a name: whether its node holds a record
  pub rules-set : room_rules r (has_filter (g ∷ gs) (held F)) (set_held (g ∷ gs) s (held F))
      ≡ full_rules r (not (null (values_at gs (kid g F)))) (size_f F + weigh (λ t. 1) (missing (g ∷ gs) F)) (suc (length (held F))) (cells_f F + weigh level_cells (missing (g ∷ gs) F))
  unfolding values_at
  rules-set =
      rules_by r (set_held (g ∷ gs) s (held F)) _ _ _ (has_filter (g ∷ gs) (held F)) counts-set
      ∙ ap (λ (b : Bool). full_rules r b (size_f F + weigh (λ t. 1) (missing (g ∷ gs) F)) (suc (length (held F))) (cells_f F + weigh level_cells (missing (g ∷ gs) F))) (has_at F w.rows (g ∷ gs))
