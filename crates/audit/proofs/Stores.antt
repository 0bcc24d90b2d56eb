-- The test of a region is true exactly of a store. Assumes nothing.
use Rattle.std.specs.Prelude.{None, Option, Some}
use mathlib.Core.Path.{◌≡◌, refl, sym, ap, subst, ◌∙◌}
use Prim.Native.Nat.{ℕ, ◌-◌, ◌*◌, ◌≤◌}
use mathlib.Core.Bool.{Bool, true, false, ◌&&◌, true≢false}
use mathlib.Core.List.{List, [], ◌∷◌}
use native.Mathlib.Omega.{arith}
use lib.Dec.{eqb}
use lib.ListN.{length}
use borrow.Author.Tests.{eqb-true}
use Rattle.lent.specs.Numbers.{be, AreBytes}
use Rattle.lent.specs.Parts.{part}
use Rattle.held.specs.Order.{Filter}
use Rattle.held.specs.Ascending.{All}
use Rattle.held.specs.Room.{node_count, cell_count}
use Rattle.held.specs.Forest.{Forest, held}
use Rattle.held.specs.Edit.{HashLast}
use Rattle.held.proofs.Orders.{and_left, and_right}
use Rattle.held.proofs.Entries.{all_with, all_both}
use Rattle.held.proofs.Counts.{node-count, cell-count}
use Rattle.held.proofs.Bounds.{in-range}
use Rattle.region.specs.declared.Kind.{Kind}
use Rattle.region.specs.declared.Kind.TheVariants.{Subscriptions, Retained}
use Rattle.region.specs.Layout.{unit_room, units_f, unit_bytes}
use Rattle.region.specs.Opening.{kind_byte}
use Rattle.region.specs.Store.{room_at, forest_at, used_by, WrittenIn, Accepts, SubscriptionStore, RetainedStore}
use Rattle.region.proofs.Stores.{units_fit}
use Rattle.forest.specs.Places.{unit_at, forest_in}
use Rattle.audit.specs.declared.Left.{Left}
use Rattle.audit.specs.Tally.{tally}
use Rattle.content.specs.Texts.{rules_of, TextFine}
use Rattle.audit.specs.Fine.{Fine, Audited}
use Rattle.audit.specs.Whole.{left_at, used_units, units_base, none, all_taken, header_fine, store_fine}
use Rattle.audit.specs.Decides.{StoreOf, Decides, Decided}
use Rattle.content.proofs.Holdings.{Holding, held_values, held_records}
use Rattle.audit.proofs.Sound.{same_left, audit_sound, audit_passes}
use Rattle.audit.proofs.Headers.{HeaderFine, header_yes, header_no, header-bytes, mark_back, nodes_back, pairs_back, cells_back, units_back}
use Rattle.audit.proofs.Wells.{fine-rows, fine_ends, fine_owns, fine_full, fine_texts, fine-starts, wells_fine, names_end, held_path, held-hash}
use Rattle.content.proofs.Accepted.{text_levels, levels_text, accepted_text, text-accepted}

abbrev nothing : Left
nothing = record { nodes = 0; pairs = 0; cells = 0 }

-- nothing is left
none_is : (a : Left) → none a ≡ true → a ≡ nothing
none_is a e =
    let p = and_left (eqb a.nodes 0) (eqb a.pairs 0 && eqb a.cells 0) e in
    let q = and_right (eqb a.nodes 0) (eqb a.pairs 0 && eqb a.cells 0) e in
    let x : a.nodes ≡ 0 = eqb-true a.nodes 0 p in
    let y : a.pairs ≡ 0 = eqb-true a.pairs 0 (and_left (eqb a.pairs 0) (eqb a.cells 0) q) in
    let z : a.cells ≡ 0 = eqb-true a.cells 0 (and_right (eqb a.pairs 0) (eqb a.cells 0) q) in
    same_left a nothing x y z

taken_is : (t : Option Left) → all_taken t ≡ true → t ≡ Some nothing
taken_is (Some a) e = ap (λ (b : Left). Some b) (none_is a e)
taken_is None e = absurd (true≢false (sym e))

module _ {X : Type 0} {kind : Kind} (u : Holding X kind) (s : List ℕ) (o : AreBytes s) where
  abbrev F : Forest X
  F = forest_at u.form.read s

  whole : forest_in u.form.read (units_base s) s 0 (used_units s) ≡ F
  unfolding forest_in
  whole =
      let e : unit_at (units_base s) 0 ≡ units_base s = omega arith in
      let f : (used_units s - 0) * 16 ≡ used_units s * 16 = omega arith in
      rw (e, f)

  -- a forest that is written down and fine
  pub record Kept : Type 0 where
    pub written : WrittenIn (kind_byte kind) u.form.write F s
    pub fine : Fine kind u.Fit 1 65536 F

  fine_written : HeaderFine kind s → Audited kind u.Fit u.form.write (units_base s) s 1 65536 0 (used_units s) (left_at s) nothing F → Kept
  fine_written h a =
      let rows = fine-rows kind u.Fit 1 65536 F a.fine in
      let full = fine_full kind u.Fit 1 65536 F a.fine in
      let en : node_count (held F) ≡ be (part 10 2 s) = node-count F rows full ∙ omega (arith, a.nodes) in
      let ep : length (held F) ≡ be (part 12 2 s) = omega (arith, a.pairs) in
      let ec : cell_count (held F) ≡ be (part 14 2 s) = cell-count F rows full ∙ omega (arith, a.cells) in
      let eu : units_f F ≡ be (part 16 2 s) = omega (arith, a.size) in
      let e : unit_at (units_base s) 0 ≡ units_base s = omega arith in
      record {
        written = record {
          range = h.range;
          long = h.long;
          header = header-bytes kind s (used_by F) o (omega (arith, h.long)) h.mark en ep ec eu;
          marks = a.marks;
          units = rw e at a.units;
          nodes_fit = rw en h.nodes;
          pairs_fit = rw ep h.pairs;
          cells_fit = rw ec h.cells;
        };
        fine = a.fine;
      }

  pub kept_yes : store_fine kind s ≡ true → Kept
  unfolding store_fine
  kept_yes e =
      let h = header_yes kind s (and_left (header_fine kind s) (all_taken (tally kind (units_base s) s 1 65536 0 (used_units s) (left_at s))) e) in
      let t = taken_is (tally kind (units_base s) s 1 65536 0 (used_units s) (left_at s)) (and_right (header_fine kind s) (all_taken (tally kind (units_base s) s 1 65536 0 (used_units s) (left_at s))) e) in
      fine_written h (rw whole at (audit_sound u (units_base s) s o (used_units s) 1 65536 0 (used_units s) (left_at s) nothing (omega arith) (omega arith) (omega (arith, h.long, h.units)) (omega (arith, h.units)) t))

  pub kept_no : Kept → store_fine kind s ≡ true
  unfolding store_fine
  kept_no k =
      let w = k.written in
      let rows = fine-rows kind u.Fit 1 65536 F k.fine in
      let full = fine_full kind u.Fit 1 65536 F k.fine in
      let r = in-range (room_at s) w.range in
      let few : units_f F ≤ unit_room (room_at s) = omega (arith, units_fit F rows full, w.nodes_fit, w.pairs_fit, w.cells_fit) in
      let cap : unit_room (room_at s) ≤ 20480 = omega (arith, r.nodes.1, r.pairs.1, r.cells.1) in
      let en : be (part 10 2 s) ≡ node_count (held F) = nodes_back kind s (used_by F) w.header (omega (arith, w.nodes_fit, r.nodes.1)) in
      let ep : be (part 12 2 s) ≡ length (held F) = pairs_back kind s (used_by F) w.header (omega (arith, w.pairs_fit, r.pairs.1)) in
      let ec : be (part 14 2 s) ≡ cell_count (held F) = cells_back kind s (used_by F) w.header (omega (arith, w.cells_fit, r.cells.1)) in
      let eu : be (part 16 2 s) ≡ units_f F = units_back kind s (used_by F) w.header (omega (arith, few, cap)) in
      let h : HeaderFine kind s =
      record {
        range = w.range;
        long = w.long;
        mark = mark_back kind s (used_by F) w.header;
        nodes = rw en w.nodes_fit;
        pairs = rw ep w.pairs_fit;
        cells = rw ec w.cells_fit;
        units = rw eu few;
      } in
      let e : units_base s ≡ unit_at (units_base s) 0 = omega arith in
      let a : Audited kind u.Fit u.form.write (units_base s) s 1 65536 0 (used_units s) (left_at s) nothing F =
      record {
        size = omega (arith, eu);
        units = subst (λ (p : ℕ). part p (units_f F * 16) s ≡ unit_bytes u.form.write F) e w.units;
        marks = w.marks;
        fine = k.fine;
        nodes = omega (arith, en, node-count F rows full);
        pairs = omega (arith, ep);
        cells = omega (arith, ec, cell-count F rows full);
      } in
      rw (
        header_no kind s h,
        audit_passes u (units_base s) s o (used_units s) 1 65536 0 (used_units s) (left_at s) nothing (omega arith) (omega arith) (omega (arith, h.long, h.units)) (omega (arith, h.units))
            (omega (arith, h.units, cap)) (subst (λ (G : Forest X). Audited kind u.Fit u.form.write (units_base s) s 1 65536 0 (used_units s) (left_at s) nothing G) (sym whole) a),
      )

  -- the texts of what is held
  pub texts_yes : Fine kind u.Fit 1 65536 F → All (λ (e : Filter × X). Accepts (rules_of kind) e.0) (held F)
  texts_yes f =
      let a = fine_texts kind u.Fit 1 65536 F f in
      let b = fine-starts kind u.Fit 1 65536 F refl f in
      let c = held-hash F (fine_ends kind u.Fit 1 65536 F f) in
      all_with (λ (e : Filter × X). (TextFine kind 1 65536 e.0 × (e.0 ≡ [] ∷ [] → ⊥)) × (HashLast e.0 × (e.0 ≡ [] → ⊥))) (λ (e : Filter × X). Accepts (rules_of kind) e.0)
      (λ e p. one e.0 p.0.0 p.0.1 p.1.0 p.1.1) (held F)
      (all_both (λ (e : Filter × X). TextFine kind 1 65536 e.0 × (e.0 ≡ [] ∷ [] → ⊥)) (λ (e : Filter × X). HashLast e.0 × (e.0 ≡ [] → ⊥)) (held F)
      (all_both (λ (e : Filter × X). TextFine kind 1 65536 e.0) (λ (e : Filter × X). e.0 ≡ [] ∷ [] → ⊥) (held F) a b)
      (all_both (λ (e : Filter × X). HashLast e.0) (λ (e : Filter × X). e.0 ≡ [] → ⊥) (held F) c (held_path F)))
    where
      one : (f : Filter) → TextFine kind 1 65536 f → (f ≡ [] ∷ [] → ⊥) → HashLast f → (f ≡ [] → ⊥) → Accepts (rules_of kind) f
      one [] t b h z = absurd (z refl)
      one (l ∷ f) t b h z = text-accepted kind l f (text_levels kind 1 65536 (l ∷ f) (omega arith) t) b h

  pub texts_no : All (λ (e : Filter × X). Accepts (rules_of kind) e.0) (held F)
      → All (λ (e : Filter × X). TextFine kind 1 65536 e.0) (held F) × All (λ (e : Filter × X). e.0 ≡ [] ∷ [] → ⊥) (held F)
  texts_no a = (
    all_with (λ (e : Filter × X). Accepts (rules_of kind) e.0) (λ (e : Filter × X). TextFine kind 1 65536 e.0) (λ e p. levels_text kind 1 65536 e.0 (accepted_text kind e.0 p).0) (held F) a,
    all_with (λ (e : Filter × X). Accepts (rules_of kind) e.0) (λ (e : Filter × X). e.0 ≡ [] ∷ [] → ⊥) (λ e p. (accepted_text kind e.0 p).1) (held F) a,
  )

-- the two kinds
module _ (s : List ℕ) (o : AreBytes s) where
  pub subscriptions_yes : Kept held_values s o → SubscriptionStore s
  subscriptions_yes k =
      let f = k.fine in
      record {
        written = k.written;
        well = record {
          rows = fine-rows Subscriptions held_values.Fit 1 65536 (F held_values s o) f;
          ends = fine_ends Subscriptions held_values.Fit 1 65536 (F held_values s o) f;
          owns = fine_owns Subscriptions held_values.Fit 1 65536 (F held_values s o) f;
          full = fine_full Subscriptions held_values.Fit 1 65536 (F held_values s o) f;
        };
        texts = texts_yes held_values s o f;
      }

  pub subscriptions_no : SubscriptionStore s → Kept held_values s o
  subscriptions_no r =
      let t = texts_no held_values s o r.texts in
      record {
        written = r.written;
        fine = wells_fine Subscriptions held_values.Fit 1 65536 (F held_values s o) (omega arith) r.well.rows r.well.ends r.well.owns r.well.full t.0 (λ q. t.1);
      }

  pub retained_yes : Kept held_records s o → RetainedStore s
  retained_yes k =
      let f = k.fine in
      record {
        written = k.written;
        well = record {
          rows = fine-rows Retained held_records.Fit 1 65536 (F held_records s o) f;
          owns = fine_owns Retained held_records.Fit 1 65536 (F held_records s o) f;
          full = fine_full Retained held_records.Fit 1 65536 (F held_records s o) f;
        };
        texts = texts_yes held_records s o f;
      }

  pub retained_no : RetainedStore s → Kept held_records s o
  retained_no r =
      let t = texts_no held_records s o r.texts in
      record {
        written = r.written;
        fine = wells_fine Retained held_records.Fit 1 65536 (F held_records s o) (omega arith) r.well.rows
            (names_end 1 65536 (F held_records s o) r.well.full t.0) r.well.owns r.well.full t.0 (λ q. t.1);
      }

-- the test decides it exactly: true of a store of the kind, and of nothing else
pub fine_decides : (k : Kind) (s : List ℕ) → AreBytes s → Decides (store_fine k s) (StoreOf k s)
fine_decides Subscriptions s o = record { yes = λ e. subscriptions_yes s o (kept_yes held_values s o e); no = λ r. kept_no held_values s o (subscriptions_no s o r) }
fine_decides Retained s o = record { yes = λ e. retained_yes s o (kept_yes held_records s o e); no = λ r. kept_no held_records s o (retained_no s o r) }

-- so bytes are a store of a kind, or they are not
pub decided : (k : Kind) (s : List ℕ) → AreBytes s → Decided (StoreOf k s)
decided k s o = record { answer = store_fine k s; decides = fine_decides k s o }

-- and it settles the answer: two that decide the same are the same
pub decided_settled : (P : Type 0) (a b : Bool) → Decides a P → Decides b P → a ≡ b
decided_settled P true b x y = sym (y.no (x.yes refl))
decided_settled P false true x y = x.no (y.yes refl)
decided_settled P false false x y = refl
