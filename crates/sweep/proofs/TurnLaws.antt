-- The loop along a row, in the words of the code: before the first turn, a turn, and after the last. Assumes nothing.
use mathlib.Core.Path.{◌≡◌, refl, sym, ap, ◌∙◌}
use mathlib.Core.List.{List, append-nil}
use Prim.Native.Nat.{ℕ, ◌+◌, ◌-◌, ◌*◌, ◌≤◌, ◌<◌}
use native.Mathlib.Omega.{arith}
use lib.ListN.{length}
use Rattle.lent.specs.Parts.{part}
use Rattle.lent.proofs.Parts.{length_part}
use Rattle.lent.proofs.Turns.{part_none}
use Rattle.held.specs.Ascending.{keep}
use Rattle.held.specs.Retained.{Stored, unexpired}
use Rattle.held.specs.Forest.{Forest, leaf, fork, held}
use Rattle.held.specs.Edit.{pruned, sweep_f, weigh_f}
use Rattle.region.specs.Layout.{row_units, units_f, unit_bytes, marks_of}
use Rattle.region.specs.Units.{stored_bytes}
use Rattle.region.proofs.Instances.{records}
use Rattle.forest.specs.declared.Row.{Row}
use Rattle.forest.specs.Places.{unit_at, RowAt}
use Rattle.forest.proofs.StandsLaws.{fork_units, length_marks, stands_past, stands_next}
use Rattle.walk.proofs.Heights.{height_fork, no_height}
use Rattle.sweep.specs.declared.Kept.{Kept}
use Rattle.sweep.specs.Swept.{Sweepable, Grown, NodeSwept, none_to, Rest, SweptTo, Wholly, RowsSwept}
use Rattle.sweep.proofs.TouchedLaws.{touched-same, touched_trans, touched_wider, touched_stands}
use Rattle.sweep.proofs.GrownLaws.{grown-none, grown_trans}

module _ (clock base d lo hi to : ℕ) (s : List ℕ) where
  pub rows_begin : to ≤ lo → lo ≤ hi → SweptTo clock base d lo hi to s lo s (none_to to)
  rows_begin h k =
      record {
        begun = omega arith;
        within = k;
        onward = omega arith;
        most = omega arith;
        nodes_most = omega arith;
        pairs_most = omega arith;
        cells_most = omega arith;
        touched = touched-same base to lo s;
        swept = λ F w. record { rest = F; left = w; grown = grown-none base s d (none_to to) (sweep_f (unexpired clock) F) };
      }

  -- what is left after a node
  module _ (i : ℕ) (t u : List ℕ) (b c : Kept) (row : Row) (low : to ≤ lo) (apart : 64 + hi ≤ base) (z : SweptTo clock base d lo hi to s i t b) (some : i < hi) (ra : RowAt base t i hi row)
      (y : NodeSwept clock base d i hi row.past t u b c) where
    sweep_fork : (l : List ℕ) (v : List Stored) (k n : Forest Stored) → sweep_f (unexpired clock) (fork l v k n) ≡ pruned l (keep (unexpired clock) v) (sweep_f (unexpired clock) k) (sweep_f (unexpired clock) n)
    unfolding sweep_f
    sweep_fork l v k n = refl

    nothing : hi ≡ i + units_f {X = Stored} leaf → ⊥
    unfolding units_f
    nothing e = omega (arith, e, some)

    left_after : (F : Forest Stored) → Rest clock base t d i hi to b F → Rest clock base u d row.past hi to c F
    left_after F x = go x.rest x.left x.grown
      where
        go : (G : Forest Stored) → Sweepable base t d i hi G → Grown base t d (none_to to) b (sweep_f (unexpired clock) G) (sweep_f (unexpired clock) F) → Rest clock base u d row.past hi to c F
        go leaf w g = absurd (nothing w.stands.size)
        go (fork l v k n) w g =
            let past : row.past ≡ i + row_units l v + units_f k = ra.past_is ∙ stands_past records base t d i hi l v k n w.stands hi (omega (arith, w.stands.size, fork_units l v k n)) in
            record {
              rest = n;
              left = record {
                stands = touched_stands base b.to row.past t u d row.past hi n y.touched (omega arith) apart (rw past (stands_next records base t d i hi l v k n w.stands));
                single = w.single.2;
                low = omega (arith, w.low, height_fork l v k n);
              };
              grown = grown_trans base t u d row.past (none_to to) b c (sweep_f (unexpired clock) n) (sweep_f (unexpired clock) (fork l v k n)) (sweep_f (unexpired clock) F)
                  z.onward y.onward (omega (arith, ra.last, apart)) y.touched g (rw (sweep_fork l v k n) (y.swept l v k n w (sweep_f (unexpired clock) n)));
            }

    pub rows_step : SweptTo clock base d lo hi to s row.past u c
    rows_step =
        record {
          begun = omega (arith, z.begun, ra.on, ra.within);
          within = ra.last;
          onward = omega (arith, z.onward, y.onward);
          most = omega (arith, z.most, y.most);
          nodes_most = omega (arith, z.nodes_most, y.nodes_most);
          pairs_most = omega (arith, z.pairs_most, y.pairs_most);
          cells_most = omega (arith, z.cells_most, y.cells_most);
          touched = touched_trans base to row.past s t u (touched_wider base to i to row.past s t (omega arith) (omega (arith, ra.on, ra.within)) z.touched)
              (touched_wider base b.to row.past to row.past t u z.onward (omega arith) y.touched);
          swept = λ F w. left_after F (z.swept F w);
        }

  -- nothing of nothing
  none_left : (t : List ℕ) (F : Forest Stored) → F ≡ leaf → Wholly clock base t d to (none_to to) F
  unfolding sweep_f units_f unit_bytes marks_of weigh_f held
  none_left t F e =
      rw e
      (record {
        size = omega arith;
        units = part_none (unit_at base to) t;
        marks = part_none (64 + to) t;
        nodes = refl;
        pairs = refl;
        cells = refl;
      })

  -- a row too deep is no row of a store
  pub rows_deep : to ≤ lo → lo ≤ hi → 128 < d → RowsSwept clock base d lo hi to s s (none_to to)
  rows_deep h k j =
      record {
        onward = omega arith;
        most = omega arith;
        nodes_most = omega arith;
        pairs_most = omega arith;
        cells_most = omega arith;
        touched = touched-same base to hi s;
        swept = λ F w. none_left s F (no_height F (omega (arith, w.low)));
      }

  -- after the last row
  module _ (i : ℕ) (t : List ℕ) (b : Kept) (low : to ≤ lo) (long : unit_at base hi ≤ length s) (apart : 64 + hi ≤ base) (z : SweptTo clock base d lo hi to s i t b) (done : hi ≤ i) where
    all_there : (F : Forest Stored) → Rest clock base t d i hi to b F → Wholly clock base t d to b F
    unfolding sweep_f unit_bytes marks_of weigh_f held
    all_there F x = go x.rest x.left x.grown
      where
        go : (G : Forest Stored) → Sweepable base t d i hi G → Grown base t d (none_to to) b (sweep_f (unexpired clock) G) (sweep_f (unexpired clock) F) → Wholly clock base t d to b F
        go leaf w g =
            let F' = sweep_f (unexpired clock) F in
            let m : part (64 + to) (b.to - to) t ≡ marks_of d F' = sym (append-nil (part (64 + to) (b.to - to) t)) ∙ g.marks in
            let l : b.to - to ≡ units_f F' = sym (length_part (64 + to) (b.to - to) t (omega (arith, z.touched.long, z.most, z.within))) ∙ ap length m ∙ length_marks d F' in
            let u : part (unit_at base to) ((b.to - to) * 16) t ≡ unit_bytes stored_bytes F' = sym (append-nil (part (unit_at base to) ((b.to - to) * 16) t)) ∙ g.units in
            record {
              size = omega (arith, l, z.onward);
              units = rw l at u;
              marks = rw l at m;
              nodes = omega (arith, g.nodes);
              pairs = omega (arith, g.pairs);
              cells = omega (arith, g.cells);
            }
        go (fork l v k n) w g = absurd (omega (arith, w.stands.size, fork_units l v k n, done))

    pub rows_end : RowsSwept clock base d lo hi to s t b
    rows_end =
        let e : i ≡ hi = omega (arith, done, z.within) in
        record {
          onward = z.onward;
          most = omega (arith, z.most, z.within);
          nodes_most = omega (arith, z.nodes_most, z.within);
          pairs_most = omega (arith, z.pairs_most, z.within);
          cells_most = omega (arith, z.cells_most, z.within);
          touched = rw e at z.touched;
          swept = λ F w. all_there F (z.swept F w);
        }
