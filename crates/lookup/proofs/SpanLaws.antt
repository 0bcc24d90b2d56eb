-- The siblings of a row that a filter's level may take, in the words of the code. Assumes nothing.
use Rattle.std.specs.Prelude.{Result, Ok, Err}
use mathlib.Core.Path.{◌≡◌, refl, sym, ap, ◌∙◌}
use mathlib.Core.Bool.{Bool, true, false, ◌&&◌, ◌||◌}
use mathlib.Core.List.{List, [], ◌∷◌}
use Prim.Native.Nat.{ℕ, ◌+◌, ◌-◌, ◌≤◌, ◌<◌}
use native.Mathlib.Omega.{arith}
use lib.Dec.{eqb}
use lib.ListN.{length, take, drop}
use Rattle.lent.proofs.Turns.{part_none}
use Rattle.level.specs.Kinds.{is_only, same}
use Rattle.level.specs.Places.{levels_at}
use Rattle.level.proofs.Split.{levels-none}
use Rattle.held.specs.Order.{Level, Filter}
use Rattle.held.specs.Retained.{Stored}
use Rattle.held.specs.Forest.{Forest, leaf, fork, Owns, Single}
use Rattle.held.specs.Walks.{hit, kid}
use Rattle.held.specs.Stream.{row_count, row_bytes}
use Rattle.held.proofs.Orders.{level_order}
use Rattle.held.proofs.Equations.{kid_here, kid_next}
use Rattle.region.specs.Layout.{units_f, unit_bytes, marks_of}
use Rattle.region.specs.Forms.{leaf_fits}
use Rattle.region.proofs.Instances.{records}
use Rattle.forest.specs.Places.{unit_at}
use Rattle.forest.specs.Stands.{raw_in, RawStands}
use Rattle.seek.specs.declared.Child.{Child}
use Rattle.seek.specs.Child.{child_at, child_of, Inside}
use Rattle.seek.proofs.Found.{found_in, missed_in}
use Rattle.seek.proofs.Raw.{child_stands}
use Rattle.walk.specs.Height.{height_f}
use Rattle.walk.specs.Nodes.{Below}
use Rattle.walk.proofs.Heights.{height_fork, kid_height}
use Rattle.lookup.specs.declared.Step.{Step}
use Rattle.lookup.specs.declared.Span.{Span}
use Rattle.lookup.specs.Steps.{StepOf}
use Rattle.lookup.specs.Standing.{Standing}
use Rattle.lookup.specs.Spans.{Taken, SpanOf, Spanned, AlongOf}
use Rattle.lookup.proofs.RowLaws.{only, no_miss, count_only, bytes_only, and-false, count-ended, bytes-ended}

-- a wildcard takes every node
wild-takes : (a b c : Bool) → (b || a) ≡ true → (a || (b || c)) ≡ true
wild-takes true b c e = refl
wild-takes false true c e = refl
wild-takes false false c e = absurd (true-not e)
  where
    true-not : false ≡ true → ⊥
    true-not q = let z : ◌≡◌ {A = ℕ} 0 1 = cc in absurd (omega arith)

taken-all : (g : Level) (gs : Filter) → (is_only 43 g || is_only 35 g) ≡ true → (F : Forest Stored) → Taken (g ∷ gs) F
taken-all g gs e leaf = tt
taken-all g gs e (fork t v k n) = (wild-takes (is_only 35 g) (is_only 43 g) (same g t) e, taken-all g gs e n)

-- a level takes itself
same_taken : (a b c : Bool) → c ≡ true → (a || (b || c)) ≡ true
same_taken true b c e = refl
same_taken false true c e = refl
same_taken false false c e = e

no-wild : (a b : Bool) → (a || b) ≡ false → (b ≡ false) × (a ≡ false)
no-wild true b e = absurd (go e)
  where
    go : true ≡ false → ⊥
    go q = let z : ◌≡◌ {A = ℕ} 0 1 = cc in absurd (omega arith)
no-wild false b e = (e, refl)

-- a node holds what its row lets it
owns-kid : (g : Level) (F : Forest Stored) (v : List Stored) (k : Forest Stored) → Owns Single F → kid g F ≡ hit v k → Single v × Owns Single k
unfolding kid
owns-kid g leaf v k o e = absurd (no_miss v k (sym e))
owns-kid g (fork t w j n) v k o e = go (same g t) refl (owns-kid g n v k o.2)
  where
    go : (x : Bool) → same g t ≡ x → (kid g n ≡ hit v k → Single v × Owns Single k) → Single v × Owns Single k
    go true p f =
        let q : hit w j ≡ hit v k = sym (kid_here g t w j n p) ∙ e in
        let a : w ≡ v = cc in
        let b : j ≡ k = cc in
        rw (← a, ← b) (o.0, o.1)
    go false p f = f (sym (kid_next g t w j n p) ∙ e)

-- no node
leaf_stands : (base : ℕ) (s : List ℕ) (left lo : ℕ) → Standing base s left lo lo leaf
unfolding units_f unit_bytes marks_of height_f
leaf_stands base s left lo =
    record {
      stands = record { size = omega arith; units = part_none (unit_at base lo) s; marks = part_none (64 + lo) s; rows = tt; fits = leaf_fits };
      single = tt;
      low = omega arith;
    }

module _ (base : ℕ) (s : List ℕ) (left lo hi : ℕ) (filter : List ℕ) (from : ℕ) (step : Step) (below : Below base s lo hi) (of : StepOf filter from step) where
  -- the whole row
  pub span-all : step.wild ≡ true → Spanned base s left lo hi (levels_at filter from) (record { lo = lo; hi = hi })
  span-all w =
      record {
        begun = omega arith;
        on = below.low;
        within = omega arith;
        is = λ F st. record { nodes = F; stands = st; taken = taken F; count_is = λ now b. refl; bytes_are = λ now o l i p b. refl };
      }
    where
      taken : (F : Forest Stored) → Taken (levels_at filter from) F
      taken F =
          let e = sym of.wild_is ∙ w in
          rw of.level.levels (taken-all (take (step.stop - from) (drop from filter)) (levels_at filter (step.stop + 1)) (rw of.level.levels at e) F)

  module _ (plain : step.wild ≡ false) {c : Result Child ℕ} (ask : RawStands base s (129 - left) lo hi → c ≡ child_of (take (step.stop - from) (drop from filter)) lo (raw_in base s lo hi)) where
    abbrev g : Level
    g = take (step.stop - from) (drop from filter)

    abbrev gs : Filter
    gs = levels_at filter (step.stop + 1)

    plain_level : (is_only 35 g ≡ false) × (is_only 43 g ≡ false)
    plain_level = let e = sym of.wild_is ∙ plain in no-wild (is_only 43 g) (is_only 35 g) (rw of.level.levels at e)

    counts : (F : Forest Stored) → Standing base s left lo hi F → (now : ℕ) (b : Bool) → row_count now b (levels_at filter from) F ≡ row_count now b (levels_at filter from) (only g (kid g F))
    counts F st now b = rw of.level.levels (count_only now b g gs plain_level.0 plain_level.1 F st.stands.rows)

    wrote : (F : Forest Stored) → Standing base s left lo hi F → (now o l i : ℕ) (p : Filter) (b : Bool) → row_bytes now o l i p b (levels_at filter from) F ≡ row_bytes now o l i p b (levels_at filter from) (only g (kid g F))
    wrote F st now o l i p b = rw of.level.levels (bytes_only now b g gs plain_level.0 plain_level.1 o l i p F st.stands.rows)

    -- no node
    pub span_none : (i : ℕ) → c ≡ Err i → Spanned base s left lo hi (levels_at filter from) (record { lo = lo; hi = lo })
    span_none i e =
        record {
          begun = omega arith;
          on = omega arith;
          within = below.low;
          is = λ F st.
              let m = missed_in g lo F i (sym e ∙ child_stands records base s (129 - left) lo hi F st.stands g c ask) in
              let z : only g (kid g F) ≡ leaf = rw m.missed in
              record {
                nodes = leaf;
                stands = leaf_stands base s left lo;
                taken = tt;
                count_is = λ now b. counts F st now b ∙ ap (row_count now b (levels_at filter from)) z;
                bytes_are = λ now o l i p b. wrote F st now o l i p b ∙ ap (row_bytes now o l i p b (levels_at filter from)) z;
              };
        }

    -- the one node
    takes_it : (is_only 35 g || (is_only 43 g || same g g)) ≡ true
    takes_it = same_taken (is_only 35 g) (is_only 43 g) (same g g) (level_order.eq_refl g)

    no_more : height_f {X = Stored} leaf ≡ 0
    unfolding height_f
    no_more = refl

    one_low : (F : Forest Stored) → height_f F ≤ left → (v : List Stored) (k : Forest Stored) → kid g F ≡ hit v k → height_f (fork g v k leaf) ≤ left
    one_low F h v k e = omega (arith, h, height_fork g v k leaf, no_more, kid_height g F v k e)

    pub span_one : (ch : Child) → c ≡ Ok ch → Inside lo hi c → Spanned base s left lo hi (levels_at filter from) (record { lo = ch.node; hi = ch.past })
    span_one ch is inside =
        let j : Inside lo hi (Ok ch) = rw is at inside in
        record {
          begun = j.0;
          on = omega (arith, j.1, j.2);
          within = j.3;
          is = λ F st. one F st;
        }
      where
        one : (F : Forest Stored) → Standing base s left lo hi F → SpanOf base s left (levels_at filter from) F ch.node ch.past
        one F st =
            let f = found_in records base s g (129 - left) lo hi F st.stands ch.node ch.end ch.past (sym is ∙ child_stands records base s (129 - left) lo hi F st.stands g c ask) in
            let z : only g (kid g F) ≡ fork g f.own f.kids leaf = rw f.found in
            let o = owns-kid g F f.own f.kids st.single f.found in
            record {
              nodes = fork g f.own f.kids leaf;
              stands = record {
                stands = f.node;
                single = (o.0, o.1, tt);
                low = one_low F st.low f.own f.kids f.found;
              };
              taken = rw of.level.levels (takes_it, tt);
              count_is = λ now b. counts F st now b ∙ ap (row_count now b (levels_at filter from)) z;
              bytes_are = λ now o l i p b. wrote F st now o l i p b ∙ ap (row_bytes now o l i p b (levels_at filter from)) z;
            }

-- the walk of a row
module _ (base : ℕ) (s : List ℕ) (left lo hi : ℕ) (filter : List ℕ) (from : ℕ) where
  pub along-none : length filter < from → from ≤ length filter + 1 → Below base s lo hi → AlongOf base s left lo hi filter from (record { lo = lo; hi = lo; next = from; barred = false })
  along-none h k b =
      let e : levels_at filter from ≡ [] = levels-none filter from h in
      record {
        begun = omega arith;
        on = omega arith;
        within = b.low;
        goes = rw e;
        next_in = k;
        barred_is = rw e (sym (and-false (eqb left 128) false refl));
        is = λ F st.
            record {
              nodes = leaf;
              stands = leaf_stands base s left lo;
              taken = tt;
              count_is = λ now c. rw e (count-ended now c F ∙ sym (count-ended now c leaf));
              bytes_are = λ now o l i p c. rw e (bytes-ended now o l i p c F ∙ sym (bytes-ended now o l i p c leaf));
            };
      }

  pub along_some : (step : Step) (span : Span) → StepOf filter from step → Spanned base s left lo hi (levels_at filter from) span → {b : Bool} → b ≡ (eqb left 128 && step.wild)
      → AlongOf base s left lo hi filter from (record { lo = span.lo; hi = span.hi; next = step.next; barred = b })
  along_some step span of sp {b} e =
      record {
        begun = sp.begun;
        on = sp.on;
        within = sp.within;
        goes = of.goes;
        next_in = of.within;
        barred_is = e ∙ ap (λ (w : Bool). eqb left 128 && w) of.wild_is;
        is = sp.is;
      }
