-- The turns along a row that is written, in the words of the code. Assumes nothing.
use mathlib.Core.Path.{◌≡◌, refl, sym, ap, ◌∙◌}
use mathlib.Core.Bool.{Bool, true, false, ◌&&◌}
use mathlib.Core.List.{List, [], ◌∷◌, ◌++◌}
use Prim.Native.Nat.{ℕ, ◌-◌, ◌≤◌, ◌<◌}
use native.Mathlib.Omega.{arith}
use lib.ListN.{length, replicate, length-replicate}
use Rattle.lent.specs.Parts.{patch}
use Rattle.level.specs.Kinds.{dollar}
use Rattle.level.specs.Levels.{split}
use Rattle.level.specs.Places.{levels_at}
use Rattle.topic.specs.Match.{lead_wild}
use Rattle.held.specs.Order.{Filter}
use Rattle.held.specs.Walks.{onward}
use Rattle.held.specs.Stream.{row_bytes}
use Rattle.forest.specs.declared.Row.{Row}
use Rattle.forest.specs.Places.{unit_at, level_in, RowAt}
use Rattle.listing.proofs.RecordLaws.{wrote_none, wrote_then}
use Rattle.lookup.specs.declared.Query.{Query}
use Rattle.lookup.specs.declared.Along.{Along}
use Rattle.lookup.specs.Standing.{stored_in, Looked}
use Rattle.lookup.specs.Spans.{AlongOf}
use Rattle.lookup.specs.Turns.{node_asked, Ready}
use Rattle.lookup.proofs.TurnLaws.{rest-first, rest_hidden, rest_met, rest_end}
use Rattle.pages.specs.declared.Spot.{Spot}
use Rattle.pages.specs.Paths.{levels_of, path_at, Trail}
use Rattle.pages.specs.Written.{NodeWritten, RowTo, RowWritten}

-- the turns
pub row_begin : (q : Query) (b : Bool) (base : ℕ) (s : List ℕ) (n left lo hi : ℕ) (filter : List ℕ) (from : ℕ) (path old : List ℕ) (a : Spot) (walk : Along) → a.at ≤ length old → a.number ≤ lo
    → AlongOf base s left lo hi filter from walk → RowTo q b (levels_at filter from) base s n left walk.lo walk.hi walk.lo path path old old a a
row_begin q b base s n left lo hi filter from path old a walk h k of =
    record {
      begun = omega arith;
      inside = of.on;
      long = refl;
      within = h;
      most = omega (arith, k, of.begun);
      same = refl;
      passed = λ G st ta.
          record { done = []; rest = rest-first q b (levels_at filter from) base s left walk.lo walk.hi (path_at base s n path (128 - left)) G a.number st ta; wrote = wrote_none old a.at };
    }

module _ (q : Query) (b : Bool) (base : ℕ) (s : List ℕ) (n left lo hi i : ℕ) (filter : List ℕ) (from size : ℕ) (path kept old mid : List ℕ) (a sum : Spot)
    (z : RowTo q b (levels_at filter from) base s n left lo hi i path kept old mid a sum) (next : ℕ) (y : Ready base s left hi filter from next size) (more : i < hi) (node : Row) (ra : RowAt base s i hi node)
    {h : Bool} (hidden : h ≡ (b && dollar (level_in base s i hi))) where
  abbrev fs : Filter
  fs = levels_at filter from

  abbrev p : Filter
  p = path_at base s n path (128 - left)

  pub row_hidden : h ≡ true → RowTo q b (levels_at filter from) base s n left lo hi node.past path kept old mid a sum
  row_hidden t =
      record {
        begun = omega (arith, z.begun, ra.on, ra.within);
        inside = ra.last;
        long = z.long;
        within = z.within;
        most = omega (arith, z.most, ra.on, ra.within);
        same = z.same;
        passed = λ G st ta.
            let x = z.passed G st ta in
            record { done = x.done; rest = rest_hidden q b fs base s left i hi p G a.number x.done sum.number x.rest node ra more y.deep hidden t; wrote = x.wrote };
      }

  pub row_visited : h ≡ false → (kept2 new : List ℕ) (r : Spot) → length new ≡ length mid → NodeWritten q base s n left i node (levels_at filter next) kept kept2 mid new sum r
      → RowTo q b (levels_at filter from) base s n left lo hi node.past path kept2 old new a r
  row_visited t kept2 new r l w =
      record {
        begun = omega (arith, z.begun, ra.on, ra.within);
        inside = ra.last;
        long = l ∙ z.long;
        within = omega (arith, w.within, z.long);
        most = w.most;
        same = w.same ∙ z.same;
        passed = λ G st ta.
            let x = z.passed G st ta in
            let m = rest_met q b fs base s left i hi p G a.number x.done sum.number x.rest node ra more y.deep hidden t in
            let u = rw (y.goes, z.same) at (w.is m.level m.own m.kids m.has) in
            let here : List ℕ = node_asked q sum.number (p ++ m.level ∷ []) (onward fs) m.own m.kids in
            record {
              done = x.done ++ here;
              rest = rw u.number_is m.after;
              wrote = wrote_then old mid new a.at x.done here sum.at r.at z.long x.wrote u.wrote;
            };
      }

pub row_written : (q : Query) (base : ℕ) (s : List ℕ) (n left lo hi i : ℕ) (filter : List ℕ) (from size : ℕ) (path kept old new : List ℕ) (a sum : Spot) (walk : Along) → AlongOf base s left lo hi filter from walk
    → Trail base s n kept left size → RowTo q walk.barred (levels_at filter from) base s n left walk.lo walk.hi i path kept old new a sum → walk.hi ≤ i
    → RowWritten q base s n left lo hi (levels_at filter from) path kept old new a sum
row_written q base s n left lo hi i filter from size path kept old new a sum walk of tr z over =
    let fs : Filter = levels_at filter from in
    let p : Filter = path_at base s n path (128 - left) in
    record {
      within = z.within;
      most = omega (arith, z.most, z.inside, of.within);
      rows = tr.path_in.long;
      same = z.same;
      is = λ F st.
          let g = of.is F st in
          let y = z.passed g.nodes g.stands g.taken in
          let d = rest_end q walk.barred fs base s left i walk.hi p g.nodes a.number y.done sum.number y.rest over in
          rw (← of.barred_is, g.bytes_are q.clock q.offset q.limit a.number p walk.barred, g.count_is q.clock walk.barred)
          (record { wrote = rw d.0 y.wrote; number_is = sym d.1 });
    }

-- from the start, with no row yet
module _ (base n : ℕ) (s path : List ℕ) where
  pub trail_start : path ≡ replicate 128 0 → unit_at base n ≤ length s → Trail base s n path 128 0
  unfolding levels_of
  trail_start l u =
      record {
        within = omega arith;
        path_in = record { deep = omega arith; long = ap length l ∙ length-replicate {A = ℕ} 128 0; units = u; rows = λ j h. absurd (omega (arith, h)) };
        size_is = refl;
        small = omega arith;
      }

  pub all_written : (clock offset limit : ℕ) (filter kept old new : List ℕ) (end : Spot)
      → RowWritten (record { clock = clock; offset = offset; limit = limit }) base s n 128 0 n (split filter) path kept old new (record { at = 0; number = 0 }) end
      → Looked base s n → length (row_bytes clock offset limit 0 [] (lead_wild (split filter)) (split filter) (stored_in base s n)) ≤ length old
      → new ≡ patch 0 (row_bytes clock offset limit 0 [] (lead_wild (split filter)) (split filter) (stored_in base s n)) old
  unfolding levels_of
  all_written clock offset limit filter kept old new end w l h = (w.is (stored_in base s n) l).wrote.stored (omega (arith, h))
