-- One node of the pass, in the words of the code: where it writes, and that what stays of it stands there. Assumes nothing.
use mathlib.Core.Path.{◌≡◌, refl, sym, ap, subst, ◌∙◌}
use mathlib.Core.Bool.{Bool, true, false, cond}
use mathlib.Core.List.{List, [], ◌∷◌, ◌++◌}
use Prim.Native.Nat.{ℕ, ◌+◌, ◌-◌, ◌*◌, ◌≤◌, ◌<◌}
use native.Mathlib.Omega.{arith}
use lib.Dec.{eqb}
use borrow.Author.Tests.{eqb-true, eqb-false}
use lib.ListN.{length, replicate, length-replicate, length-append}
use Rattle.lent.specs.Numbers.{bytes}
use Rattle.lent.specs.Parts.{part, patch}
use Rattle.lent.proofs.Parts.{part-patch, part-patch_before, part-patch_after, length_part}
use Rattle.lent.proofs.Digits.{length-bytes}
use Rattle.held.specs.Order.{Level}
use Rattle.held.specs.Bytes.{each}
use Rattle.held.specs.Room.{level_cells}
use Rattle.held.specs.Ascending.{All, keep}
use Rattle.held.specs.Retained.{Stored, unexpired}
use Rattle.held.specs.Sized.{SmallStored}
use Rattle.held.specs.Forest.{Forest, fork, Single}
use Rattle.held.specs.Edit.{pruned, sweep_f}
use Rattle.region.specs.Layout.{level_units, row_units, units_f, head_bytes, level_bytes, row_bytes, unit_bytes, marks_of}
use Rattle.region.specs.Units.{stored_bytes, stored_of}
use Rattle.region.proofs.Instances.{records}
use Rattle.region.proofs.Decoded.{length_level, length-each}
use Rattle.forest.specs.declared.Row.{Row}
use Rattle.forest.specs.Places.{unit_at, RowAt}
use Rattle.forest.specs.Stands.{Stands}
use Rattle.forest.proofs.StandsLaws.{fork_units, fits_fork, stands_len, stands_level, stands_end, stands_past, stands_kids}
use Rattle.walk.proofs.Heights.{height_fork}
use Rattle.sweep.specs.declared.Kept.{Kept}
use Rattle.sweep.specs.Touched.{Touched}
use Rattle.sweep.specs.declared.Stay.{Stay}
use Rattle.sweep.specs.Moved.{one_if, row_moved, Begun, ended}
use Rattle.sweep.specs.Swept.{Sweepable, Grown, NodeSwept, Wholly, RowsSwept}
use Rattle.sweep.proofs.TouchedLaws.{touched_trans, touched_wider, touched_marks, touched_units, touched_stands}
use Rattle.sweep.proofs.PieceLaws.{head-told, pruned-gone, pruned-stays, unit-part, row_kept}
use Rattle.sweep.proofs.GrownLaws.{grown-none, grown_node}

-- how many of what a node holds are kept
one_kept : (clock : ℕ) (x : Stored) → one_if (unexpired clock x) ≡ length (keep (unexpired clock) (x ∷ []))
one_kept clock x = go (unexpired clock x)
  where
    go : (t : Bool) → one_if t ≡ length (cond t (x ∷ []) [])
    go true = refl
    go false = refl

module _ (clock base d i hi : ℕ) (s : List ℕ) (row : Row) (a : Kept) (ra : RowAt base s i hi row) (some : i < hi) (low : a.to ≤ i) (within : unit_at base hi ≤ length s) (apart : 64 + hi ≤ base)
    (r : Stay) (s₁ s₂ s₃ : List ℕ) (begun : Begun clock base d i hi row a.to s s₁ r)
    (b : Kept) (swept : RowsSwept clock base (d + 1) row.end row.past (a.to + r.units + r.own) s₁ s₂ b)
    (told : s₃ ≡ patch (unit_at base a.to + 2) (bytes 2 r.own ++ bytes 2 (b.to - (a.to + r.units + r.own))) s₂) where
  abbrev units : ℕ
  units = r.units

  abbrev own : ℕ
  own = r.own

  abbrev first : ℕ
  first = a.to + units + own

  abbrev under : ℕ
  under = b.to - first

  row_fits : i + (units + own) ≤ row.end
  row_fits = omega (arith, begun.fits)

  row_some : 0 < units
  row_some = begun.some

  -- what is moved, and where
  abbrev body : List ℕ
  body = part (unit_at base i) ((units + own) * 16) s

  body_long : length body ≡ (units + own) * 16
  body_long = length_part (unit_at base i) ((units + own) * 16) s (omega (arith, row_fits, ra.within, ra.last))

  abbrev marks : List ℕ
  marks = d ∷ replicate (units + own - 1) 255

  marks_long : length marks ≡ units + own
  marks_long = rw length-replicate (omega (arith, row_some))

  abbrev s₀ : List ℕ
  s₀ = patch (unit_at base a.to) body s

  shifted : s₁ ≡ patch (64 + a.to) marks s₀
  unfolding row_moved
  shifted = begun.moved

  touched_0 : Touched base a.to row.end s s₀
  touched_0 =
      touched_units base a.to row.end s (omega (arith, ra.within, ra.last)) (omega (arith, ra.within, ra.last)) body (unit_at base a.to)
      (omega (arith, ra.on)) (omega arith) (omega (arith, body_long, row_fits))

  touched_1 : Touched base a.to row.end s s₁
  touched_1 =
      touched_trans base a.to row.end s s₀ s₁ touched_0
      (subst (Touched base a.to row.end s₀) (sym shifted)
      (touched_marks base a.to row.end s₀ (omega (arith, touched_0.long, ra.within, ra.last)) (omega (arith, ra.within, ra.last)) marks (omega (arith, marks_long, row_fits))))

  numbers_long : length (bytes 2 own ++ bytes 2 under) ≡ 4
  numbers_long = length-append (bytes 2 own) (bytes 2 under) ∙ rw (length-bytes 2 own, length-bytes 2 under)

  long_2 : length s₂ ≡ length s
  long_2 = swept.touched.long ∙ touched_1.long

  touched_3 : Touched base a.to row.past s₂ s₃
  touched_3 =
      subst (Touched base a.to row.past s₂) (sym told)
      (touched_units base a.to row.past s₂ (omega (arith, long_2, ra.last)) (omega (arith, ra.last)) (bytes 2 own ++ bytes 2 under) (unit_at base a.to + 2)
      (omega (arith, ra.within, ra.on)) (omega arith) (omega (arith, numbers_long, ra.within, ra.on)))

  touched-all : Touched base a.to row.past s s₃
  touched-all =
      touched_trans base a.to row.past s s₁ s₃ (touched_wider base a.to row.end a.to row.past s s₁ (omega arith) ra.within touched_1)
      (touched_trans base a.to row.past s₁ s₂ s₃ (touched_wider base first row.past a.to row.past s₁ s₂ (omega arith) (omega arith) swept.touched) touched_3)

  -- the moved units and marks in the end
  body_kept : part (unit_at base a.to) ((units + own) * 16) s₂ ≡ body
  body_kept =
      let k : unit_at base a.to + length body ≤ length s = omega (arith, body_long, row_fits, ra.within, ra.last) in
      swept.touched.between (unit_at base a.to) ((units + own) * 16) (omega (arith, ra.last)) (omega arith)
      ∙ ap (part (unit_at base a.to) ((units + own) * 16)) shifted
      ∙ part-patch_after (64 + a.to) marks s₀ (omega (arith, marks_long, touched_0.long, row_fits, ra.within, ra.last)) (unit_at base a.to) ((units + own) * 16) (omega (arith, marks_long, row_fits, ra.within, ra.last))
      ∙ rw body_long at (part-patch (unit_at base a.to) body s k)

  marks_kept : part (64 + a.to) (units + own) s₃ ≡ marks
  marks_kept =
      let k : unit_at base a.to + 2 + length (bytes 2 own ++ bytes 2 under) ≤ length s₂ = omega (arith, numbers_long, long_2, ra.within, ra.on, ra.last) in
      let j : 64 + a.to + length marks ≤ length s₀ = omega (arith, marks_long, touched_0.long, row_fits, ra.within, ra.last) in
      ap (part (64 + a.to) (units + own)) told
      ∙ part-patch_before (unit_at base a.to + 2) (bytes 2 own ++ bytes 2 under) s₂ k (64 + a.to) (units + own) (omega (arith, row_fits, ra.within, ra.last))
      ∙ swept.touched.before (64 + a.to) (units + own) (omega arith)
      ∙ ap (part (64 + a.to) (units + own)) shifted
      ∙ rw marks_long at (part-patch (64 + a.to) marks s₀ j)

  -- a node that stands there
  module _ (l : Level) (v : List Stored) (k n : Forest Stored) (w : Sweepable base s d i hi (fork l v k n)) where
    abbrev q : Stored → Bool
    q = unexpired clock

    room : i + row_units l v + units_f k ≤ hi
    room = omega (arith, w.stands.size, fork_units l v k n)

    len_is : row.len ≡ length l
    len_is = ra.len_is ∙ stands_len records base s d i hi l v k n w.stands

    end_is : row.end ≡ i + row_units l v
    end_is = ra.end_is ∙ stands_end records base s d i hi l v k n w.stands hi (omega (arith, room))

    past_is : row.past ≡ i + row_units l v + units_f k
    past_is = ra.past_is ∙ stands_past records base s d i hi l v k n w.stands hi room

    units_are : units ≡ level_units l
    units_are = omega (arith, begun.units_are, len_is, end_is)

    own_is : own ≡ length (keep q v)
    own_is = go v refl w.single.0
      where
        go : (y : List Stored) → v ≡ y → Single y → own ≡ length (keep q y)
        go [] e h = omega (arith, begun.fits, end_is, units_are, ap length e)
        go (x ∷ []) e h =
            let at : unit_at base (i + units) ≡ unit_at base (i + level_units l) = omega (arith, units_are) in
            let f = fits_fork l v k n w.stands.fits in
            let small : SmallStored x = (subst (λ (z : List Stored). All SmallStored z) e f.small).0 in
            let is : stored_of (part (unit_at base (i + units)) 16 s) ≡ x = rw at (ap stored_of (unit-part records base s d i hi l v k n w.stands x e)) ∙ records.back x small in
            begun.stays.stays (omega (arith, end_is, units_are, ap length e)) ∙ ap (λ (z : Stored). one_if (unexpired clock z)) is ∙ one_kept clock x
        go (x ∷ y ∷ z) e h = absurd h

    kids : Sweepable base s₁ (d + 1) row.end row.past k
    kids =
        let stand : Stands stored_bytes SmallStored base s (d + 1) row.end row.past k = rw (end_is, past_is) (stands_kids records base s d i hi l v k n w.stands) in
        record {
          stands = touched_stands base a.to row.end s s₁ (d + 1) row.end row.past k touched_1 (omega arith) (omega (arith, ra.last)) stand;
          single = w.single.1;
          low = omega (arith, w.low, height_fork l v k n);
        }

    below : Wholly clock base s₂ (d + 1) first b k
    below = swept.swept k kids

    abbrev v' : List Stored
    v' = keep q v

    abbrev k' : Forest Stored
    k' = sweep_f q k

    under_is : under ≡ units_f k'
    under_is = omega (arith, below.size)

    row_is : units + own ≡ row_units l v'
    row_is = omega (arith, units_are, own_is)

    kept_row : part (unit_at base a.to) (row_units l v' * 16) s₃ ≡ row_bytes stored_bytes l v' (units_f k')
    unfolding row_bytes
    kept_row =
        let z : List ℕ = level_bytes l ++ each stored_bytes v' in
        let lz : 8 + length z ≡ row_units l v' * 16 = rw (length-append, length-each records v') (omega (arith, length_level l)) in
        let e : part (unit_at base a.to) (row_units l v' * 16) s₂ ≡ head_bytes l (length v) (units_f k) ++ z =
        (rw row_is at body_kept) ∙ row_kept records base s d i hi l v k n w.stands q w.single.0 in
        let t : s₃ ≡ patch (unit_at base a.to + 2) (bytes 2 (length v') ++ bytes 2 (units_f k')) s₂ = told ∙ rw (under_is, own_is) in
        rw t (head-told (unit_at base a.to) (length v') (units_f k') (length v) (units_f k) (row_units l v' * 16) l z s₂ lz (omega (arith, long_2, row_is, row_fits, ra.within, ra.last)) e)

    kept_kids : part (unit_at base first) (units_f k' * 16) s₃ ≡ unit_bytes stored_bytes k'
    kept_kids =
        let j : unit_at base a.to + 2 + length (bytes 2 own ++ bytes 2 under) ≤ length s₂ = omega (arith, numbers_long, long_2, ra.within, ra.on, ra.last) in
        ap (part (unit_at base first) (units_f k' * 16)) told
        ∙ part-patch_after (unit_at base a.to + 2) (bytes 2 own ++ bytes 2 under) s₂ j (unit_at base first) (units_f k' * 16) (omega (arith, numbers_long, row_some)) ∙ below.units

    kept_marks : part (64 + first) (units_f k') s₃ ≡ marks_of (d + 1) k'
    kept_marks =
        let j : unit_at base a.to + 2 + length (bytes 2 own ++ bytes 2 under) ≤ length s₂ = omega (arith, numbers_long, long_2, ra.within, ra.on, ra.last) in
        ap (part (64 + first) (units_f k')) told
        ∙ part-patch_before (unit_at base a.to + 2) (bytes 2 own ++ bytes 2 under) s₂ j (64 + first) (units_f k') (omega (arith, below.size, swept.most, row_fits, ra.within, ra.last)) ∙ below.marks

    abbrev with : Kept
    with = record { to = b.to; nodes = a.nodes + b.nodes + 1; pairs = a.pairs + b.pairs + own; cells = a.cells + b.cells + r.cells }

    cells_are : r.cells ≡ level_cells l
    cells_are = begun.cells_are ∙ ap level_cells (stands_level records base s d i hi l v k n w.stands hi (omega (arith, room)))

    gone : own + under ≡ 0 → (m : Forest Stored) → Grown base s₃ d a a m (pruned l v' k' m)
    gone h m = rw (pruned-gone l v' k' m (omega (arith, h, own_is, under_is))) (grown-none base s₃ d a m)

    there : (own + under ≡ 0 → ⊥) → (m : Forest Stored) → Grown base s₃ d a with m (pruned l v' k' m)
    there h m =
        rw (pruned-stays l v' k' m (λ (z : length v' + units_f k' ≡ 0). h (omega (arith, z, own_is, under_is))))
        (grown_node base s₃ d first a with l v' k' (omega (arith, row_is)) below.size kept_row (rw row_is at marks_kept) kept_kids kept_marks
        (omega (arith, below.nodes)) (omega (arith, below.pairs, own_is)) (omega (arith, below.cells, cells_are)) m)

  node-gone : own + under ≡ 0 → NodeSwept clock base d i hi row.past s s₃ a a
  node-gone h =
      record {
        onward = omega arith;
        most = omega (arith, ra.on, ra.within);
        nodes_most = omega (arith, ra.on, ra.within);
        pairs_most = omega (arith, ra.on, ra.within);
        cells_most = omega (arith, ra.on, ra.within);
        touched = touched-all;
        swept = λ l v k n w. gone l v k n w h;
      }

  node_stays : (own + under ≡ 0 → ⊥)
      → NodeSwept clock base d i hi row.past s s₃ a (record { to = b.to; nodes = a.nodes + b.nodes + 1; pairs = a.pairs + b.pairs + own; cells = a.cells + b.cells + r.cells })
  node_stays h =
      record {
        onward = omega (arith, swept.onward);
        most = omega (arith, swept.most, row_fits, ra.within);
        nodes_most = omega (arith, swept.nodes_most, ra.on);
        pairs_most = omega (arith, swept.pairs_most, row_fits, row_some);
        cells_most = omega (arith, swept.cells_most, begun.cells_few, ra.on);
        touched = touched-all;
        swept = λ l v k n w. there l v k n w h;
      }

  pub node_swept : {e : Kept} → e ≡ ended a r b → NodeSwept clock base d i hi row.past s s₃ a e
  unfolding ended
  node_swept {e} h = subst (NodeSwept clock base d i hi row.past s s₃ a) (sym h) (go (eqb (own + under) 0) refl)
    where
      go : (t : Bool) → eqb (own + under) 0 ≡ t
          → NodeSwept clock base d i hi row.past s s₃ a
          (cond t a (record { to = b.to; nodes = a.nodes + b.nodes + 1; pairs = a.pairs + b.pairs + own; cells = a.cells + b.cells + r.cells }))
      go true e = node-gone (eqb-true (own + under) 0 e)
      go false e = node_stays (eqb-false (own + under) 0 e)
