-- A node written: its own record, then those below it. Assumes nothing.
use mathlib.Core.Path.{◌≡◌, refl, sym, ap, ◌∙◌}
use mathlib.Core.Bool.{false}
use mathlib.Core.Logic.{⊎_elim}
use mathlib.Core.List.{List, [], ◌∷◌, ◌++◌}
use Prim.Native.Nat.{ℕ, ◌+◌, ◌-◌, ◌*◌, ◌/◌, ◌≤◌, ◌<◌, min}
use native.Mathlib.Omega.{arith}
use lib.ListN.{length, take, set, get_or, length-set}
use lib.Seq.{take-take, take-set-le, get_or-take, get_or-set_same}
use Rattle.lent.proofs.Parts.{length_part}
use Rattle.lent.proofs.Anywhere.{lt-or_ge}
use Rattle.level.specs.Levels.{width}
use Rattle.level.specs.Places.{levels_at}
use Rattle.held.specs.Order.{Level, Filter}
use Rattle.held.specs.Retained.{Stored}
use Rattle.held.specs.Forest.{Forest}
use Rattle.held.specs.Stream.{row_count}
use Rattle.region.specs.Layout.{level_units}
use Rattle.forest.specs.declared.Row.{Row}
use Rattle.forest.specs.Places.{unit_at, len_at, level_in}
use Rattle.walk.specs.Nodes.{Below}
use Rattle.walk.proofs.Widths.{width_next}
use Rattle.lookup.specs.declared.Query.{Query}
use Rattle.lookup.specs.Standing.{NodeIn, NodeHas}
use Rattle.lookup.specs.Turns.{row_asked, own_number, own_asked, node_number, node_asked}
use Rattle.lookup.proofs.SizeLaws.{not_top}
use Rattle.pages.specs.declared.Spot.{Spot}
use Rattle.pages.specs.Paths.{path_at, Trail}
use Rattle.pages.specs.Written.{Given, OwnWritten, NodeWritten, RowWritten}
use Rattle.pages.proofs.PathLaws.{path-set}
use Rattle.pages.proofs.RecordLaws.{given_both}

-- the rows of a path with one more
set_other : (path : List ℕ) (j k u : ℕ) → k < j → get_or (set path j u) k 0 ≡ get_or path k 0
set_other path j k u h = sym (get_or-take j (set path j u) k 0 h) ∙ ap (λ (l : List ℕ). get_or l k 0) (take-set-le j path j u (omega arith)) ∙ get_or-take j path k 0 h

module _ (base : ℕ) (s : List ℕ) (n : ℕ) (path : List ℕ) (left size i : ℕ) (node : Row) (t : Trail base s n path left size) (some : left ≡ 0 → ⊥) (inside : NodeIn base s i node) (within : node.past ≤ n) where
  deeper : 128 - left + 1 ≡ 128 - (left - 1)
  deeper = omega (arith, some, t.within)

  before_end : i < n
  before_end = omega (arith, inside.on, inside.within, within)

  path_down : path_at base s n (set path (128 - left) i) (128 - (left - 1)) ≡ path_at base s n path (128 - left) ++ level_in base s i n ∷ []
  path_down = rw (← deeper) (path-set base s n path (128 - left) i (omega (arith, t.path_in.long, some, t.within)))

  last_row : (j : ℕ) → j ≡ 128 - left → get_or (set path (128 - left) i) j 0 < n
  last_row j e = rw (e, get_or-set_same path (128 - left) i 0 (omega (arith, t.path_in.long, some, t.within))) before_end

  rows_in : (j : ℕ) → j < 128 - (left - 1) → get_or (set path (128 - left) i) j 0 < n
  rows_in j h =
      ⊎_elim (λ (k : j < 128 - left). rw (set_other path (128 - left) j i k) (t.path_in.rows j k)) (λ (k : 128 - left ≤ j). last_row j (omega (arith, k, h, deeper)))
      (lt-or_ge j (128 - left))

  module _ {l : List ℕ} (is : l ≡ level_in base s i n) where
    short : length l < 65536
    unfolding level_in
    short =
        let m : ℕ = min (len_at base s i) ((n - i) * 16 - 8) in
        let k : length l ≡ m = rw is (length_part (unit_at base i + 8) m s (omega (arith, t.path_in.units, before_end))) in
        omega (arith, k, inside.len_is, inside.short)

    pub trail_down : Trail base s n (set path (128 - left) i) (left - 1) (size + length l + 1)
    trail_down =
        let wide : width (path_at base s n path (128 - left) ++ level_in base s i n ∷ []) ≡ width (path_at base s n path (128 - left)) + length l + 1 = rw (← is) (width_next (path_at base s n path (128 - left)) l) in
        record {
          within = omega (arith, t.within);
          path_in = record {
            deep = omega arith;
            long = length-set path (128 - left) i ∙ t.path_in.long;
            units = t.path_in.units;
            rows = rows_in;
          };
          size_is = ap width path_down ∙ wide ∙ omega (arith, t.size_is);
          small = omega (arith, t.small, short, deeper);
        }

  -- all of it
  module _ (q : Query) (filter : List ℕ) (next unit : ℕ) (at : unit ≡ min (i + (node.len + 23) / 16) node.end) (p2 o0 o1 o2 : List ℕ) (a b c : Spot) (long : length o1 ≡ length o0)
      (own : OwnWritten q base s unit node.end (path_at base s n (set path (128 - left) i) (128 - (left - 1))) (levels_at filter next) o0 o1 a b)
      (below : RowWritten q base s n (left - 1) node.end node.past (levels_at filter next) (set path (128 - left) i) p2 o1 o2 b c) where
    same_path : take (128 - left) p2 ≡ take (128 - left) path
    same_path =
        sym (take-take (128 - left) (128 - (left - 1)) p2 (omega arith)) ∙ ap (take (128 - left)) below.same ∙ take-take (128 - left) (128 - (left - 1)) (set path (128 - left) i) (omega arith)
        ∙ take-set-le (128 - left) path (128 - left) i (omega arith)

    all_given : (l : Level) (v : List Stored) (k : Forest Stored) → NodeHas base s left i node l v k
        → Given o0 o2 a (node_asked q a.number (path_at base s n path (128 - left) ++ l ∷ []) (levels_at filter next) v k) (node_number q (levels_at filter next) v k) c
    unfolding node_asked node_number
    all_given l v k has =
        let gs : Filter = levels_at filter next in
        let p : Filter = path_at base s n path (128 - left) ++ l ∷ [] in
        let u : unit ≡ i + level_units l = omega (arith, at, has.len, has.holds.count) in
        let d : path_at base s n (set path (128 - left) i) (128 - (left - 1)) ≡ p = path_down ∙ rw (has.text n (omega (arith, inside.within, within))) in
        let x : Given o0 o1 a (own_asked q a.number p gs v) (own_number q gs v) b = rw d at (own.is v (rw u has.holds)) in
        let y : Given o1 o2 b (row_asked q b.number p false gs k) (row_count q.clock false gs k) c = rw (d, not_top left gs t.within has.deep) at (below.is k has.kids) in
        rw (← x.number_is) (given_both o0 o1 o2 a b c (own_asked q a.number p gs v) (row_asked q b.number p false gs k) (own_number q gs v) (row_count q.clock false gs k) long x y)

    pub node_written : NodeWritten q base s n left i node (levels_at filter next) path p2 o0 o2 a c
    node_written = record { within = omega (arith, below.within, long); most = below.most; rows = below.rows; same = same_path; is = all_given }

-- what the row below it needs
pub node_below : (base : ℕ) (s : List ℕ) (i : ℕ) (node : Row) → NodeIn base s i node → Below base s node.end node.past
node_below base s i node h = record { low = h.within; within = h.units; marks = h.marks }

-- no node is deeper than 128
pub node_shut : (q : Query) (base : ℕ) (s : List ℕ) (n : ℕ) (path old : List ℕ) (left size i : ℕ) (node : Row) (filter : List ℕ) (next : ℕ) (a : Spot) → left ≡ 0 → Trail base s n path left size → NodeIn base s i node
    → a.at ≤ length old → a.number ≤ i → NodeWritten q base s n left i node (levels_at filter next) path path old old a a
node_shut q base s n path old left size i node filter next a z t h r f =
    record {
      within = r;
      most = omega (arith, f, h.on, h.within);
      rows = t.path_in.long;
      same = refl;
      is = λ l v k has. absurd (omega (arith, has.deep, z));
    }
