-- A walk along a row: before the first turn, a node passed, and after the last. Assumes nothing.
use mathlib.Core.Path.{◌≡◌, refl, sym, ap, ◌∙◌}
use mathlib.Core.Bool.{Bool, true, false, not, ◌&&◌}
use mathlib.Core.List.{List, [], ◌∷◌, ◌++◌, append_assoc, append-nil}
use Prim.Native.Nat.{ℕ, ◌+◌, ◌-◌, ◌*◌, ◌≤◌, ◌<◌}
use native.Mathlib.Omega.{arith}
use Rattle.level.specs.Kinds.{dollar}
use Rattle.held.specs.Order.{Level, Filter}
use Rattle.held.specs.Retained.{Stored}
use Rattle.held.specs.Forest.{Forest, leaf, fork}
use Rattle.held.specs.Walks.{fits, onward}
use Rattle.held.specs.Stream.{row_count}
use Rattle.held.proofs.Equations.{count_none, count_in, count_out, row-none, row_in, row_out}
use Rattle.region.specs.Layout.{row_units, units_f}
use Rattle.region.proofs.Instances.{records}
use Rattle.forest.specs.declared.Row.{Row}
use Rattle.forest.specs.Places.{level_in, RowAt}
use Rattle.forest.proofs.StandsLaws.{fork_units, fits_fork, stands_len, stands_level, stands_end, stands_past, stands_kids, stands_next}
use Rattle.seek.proofs.Holds.{stands_holds}
use Rattle.walk.specs.Nodes.{Below}
use Rattle.walk.proofs.Heights.{height_fork}
use Rattle.lookup.specs.declared.Query.{Query}
use Rattle.lookup.specs.declared.Along.{Along}
use Rattle.lookup.specs.Standing.{Standing, NodeIn, NodeHas}
use Rattle.lookup.specs.Spans.{Taken, AlongOf}
use Rattle.lookup.specs.Turns.{row_asked, own_number, own_asked, node_number, node_asked, Ready, Rest}
use Rattle.held.proofs.Orders.{and_both}

-- a node that stands, as the code has it
module _ (base : ℕ) (s : List ℕ) (left i hi : ℕ) (r : Row) (ra : RowAt base s i hi r) (few : left ≤ 128) (t : Level) (v : List Stored) (k n : Forest Stored) (st : Standing base s left i hi (fork t v k n)) where
  end_is : r.end ≡ i + row_units t v
  end_is = ra.end_is ∙ stands_end records base s (129 - left) i hi t v k n st.stands hi (omega (arith, st.stands.size, fork_units t v k n))

  pub past_is : r.past ≡ i + row_units t v + units_f k
  past_is = ra.past_is ∙ stands_past records base s (129 - left) i hi t v k n st.stands hi (omega (arith, st.stands.size, fork_units t v k n))

  some : 0 < left
  some = omega (arith, st.low, height_fork t v k n)

  deeper : 129 - left + 1 ≡ 129 - (left - 1)
  deeper = omega (arith, some)

  pub node-has : NodeHas base s left i r t v k
  node-has =
      record {
        deep = some;
        len = ra.len_is ∙ stands_len records base s (129 - left) i hi t v k n st.stands;
        text = λ m h. stands_level records base s (129 - left) i hi t v k n st.stands m (omega (arith, h, end_is));
        holds = record {
          count = omega (arith, end_is);
          units = stands_holds records base s (129 - left) i hi t v k n st.stands;
          small = (fits_fork t v k n st.stands.fits).small;
          single = st.single.0;
        };
        kids = record {
          stands = rw (← deeper, end_is, past_is) (stands_kids records base s (129 - left) i hi t v k n st.stands);
          single = st.single.1;
          low = omega (arith, st.low, height_fork t v k n);
        };
      }

  pub next_stands : Standing base s left r.past hi n
  next_stands =
      record {
        stands = rw past_is (stands_next records base s (129 - left) i hi t v k n st.stands);
        single = st.single.2;
        low = omega (arith, st.low, height_fork t v k n);
      }

  pub level_is : level_in base s i hi ≡ t
  level_is = stands_level records base s (129 - left) i hi t v k n st.stands hi (omega (arith, st.stands.size, fork_units t v k n))

-- the first turn
pub rest-first : (q : Query) (b : Bool) (fs : Filter) (base : ℕ) (s : List ℕ) (left lo hi : ℕ) (p : Filter) (G : Forest Stored) (first : ℕ) → Standing base s left lo hi G → Taken fs G → Rest q b fs base s left lo hi p G first [] first
rest-first q b fs base s left lo hi p G first st ta = record { rest = G; stands = st; taken = ta; parts = refl; numbers = refl }

-- a node that is barred, or is visited
barred_out : (x y : Bool) → x ≡ true → (not x && y) ≡ false
barred_out x y e = rw e

-- what a visit gives
pub record Met (q : Query) (b : Bool) (fs : Filter) (base : ℕ) (s : List ℕ) (left unit hi : ℕ) (p : Filter) (G : Forest Stored) (first : ℕ) (done : List ℕ) (i : ℕ) (r : Row) : Type 0 where
  pub level : Level
  pub own : List Stored
  pub kids : Forest Stored
  pub has : NodeHas base s left unit r level own kids
  pub after : Rest q b fs base s left r.past hi p G first (done ++ node_asked q i (p ++ level ∷ []) (onward fs) own kids) (i + node_number q (onward fs) own kids)

module _ (q : Query) (b : Bool) (fs : Filter) (base : ℕ) (s : List ℕ) (left unit hi : ℕ) (p : Filter) (G : Forest Stored) (first : ℕ) (done : List ℕ) (i : ℕ) (z : Rest q b fs base s left unit hi p G first done i) where
  module _ (r : Row) (ra : RowAt base s unit hi r) (more : unit < hi) (few : left ≤ 128) where
    nothing : hi ≡ unit + units_f {X = Stored} leaf → ⊥
    unfolding units_f
    nothing e = omega (arith, e, more)

    pub rest_hidden : {h : Bool} → h ≡ (b && dollar (level_in base s unit hi)) → h ≡ true → Rest q b fs base s left r.past hi p G first done i
    rest_hidden {h} is t = go z.rest z.stands z.taken z.parts z.numbers
      where
        go : (F : Forest Stored) → Standing base s left unit hi F → Taken fs F → row_asked q first p b fs G ≡ done ++ row_asked q i p b fs F → first + row_count q.clock b fs G ≡ i + row_count q.clock b fs F
            → Rest q b fs base s left r.past hi p G first done i
        go leaf st ta ps ns = absurd (nothing st.stands.size)
        go (fork l v k n) st ta ps ns =
            let e : (b && dollar l) ≡ true = rw (level_is base s left unit hi r ra few l v k n st) at (sym is ∙ t) in
            let o = barred_out (b && dollar l) (fits fs l) e in
            record {
              rest = n;
              stands = next_stands base s left unit hi r ra few l v k n st;
              taken = ta.1;
              parts = ps ∙ ap (λ (w : List ℕ). done ++ w) (row_out p b fs q.clock l v k n q.offset q.limit i o);
              numbers = ns ∙ ap (λ (w : ℕ). i + w) (count_out p b fs q.clock l v k n o);
            }

    pub rest_met : {h : Bool} → h ≡ (b && dollar (level_in base s unit hi)) → h ≡ false → Met q b fs base s left unit hi p G first done i r
    unfolding node_asked own_asked node_number own_number
    rest_met {h} is t = go z.rest z.stands z.taken z.parts z.numbers
      where
        go : (F : Forest Stored) → Standing base s left unit hi F → Taken fs F → row_asked q first p b fs G ≡ done ++ row_asked q i p b fs F → first + row_count q.clock b fs G ≡ i + row_count q.clock b fs F
            → Met q b fs base s left unit hi p G first done i r
        go leaf st ta ps ns = absurd (nothing st.stands.size)
        go (fork l v k n) st ta ps ns =
            let e : (b && dollar l) ≡ false = rw (level_is base s left unit hi r ra few l v k n st) at (sym is ∙ t) in
            let o = and_both (not (b && dollar l)) (fits fs l) (ap not e) ta.0 in
            let here : List ℕ = node_asked q i (p ++ l ∷ []) (onward fs) v k in
            let next : ℕ = i + node_number q (onward fs) v k in
            record {
              level = l;
              own = v;
              kids = k;
              has = node-has base s left unit hi r ra few l v k n st;
              after = record {
                rest = n;
                stands = next_stands base s left unit hi r ra few l v k n st;
                taken = ta.1;
                parts = ps ∙ ap (λ (w : List ℕ). done ++ w) (row_in p b fs q.clock l v k n q.offset q.limit i o) ∙ sym (append_assoc done here (row_asked q next p b fs n));
                numbers = ns ∙ ap (λ (w : ℕ). i + w) (count_in p b fs q.clock l v k n o) ∙ omega arith;
              };
            }

  -- after the last turn
  pub rest_end : hi ≤ unit → (row_asked q first p b fs G ≡ done) × (first + row_count q.clock b fs G ≡ i)
  rest_end over = go z.rest z.stands z.parts z.numbers
    where
      go : (F : Forest Stored) → Standing base s left unit hi F → row_asked q first p b fs G ≡ done ++ row_asked q i p b fs F → first + row_count q.clock b fs G ≡ i + row_count q.clock b fs F
          → (row_asked q first p b fs G ≡ done) × (first + row_count q.clock b fs G ≡ i)
      go leaf st ps ns =
          (ps ∙ ap (λ (w : List ℕ). done ++ w) (row-none p b fs q.clock q.offset q.limit i) ∙ append-nil done, ns ∙ omega (arith, count_none p b fs q.clock))
      go (fork l v k n) st ps ns = absurd (omega (arith, over, st.stands.size, fork_units l v k n))

-- what its visits need
pub row_ready : (base : ℕ) (s : List ℕ) (left lo hi : ℕ) (filter : List ℕ) (from size : ℕ) (walk : Along) → left ≤ 128 → Below base s lo hi → hi < 4294967296 → size ≤ 65536 * (128 - left)
    → AlongOf base s left lo hi filter from walk → Ready base s left walk.hi filter from walk.next size
row_ready base s left lo hi filter from size walk d b h k of =
    record {
      units = omega (arith, of.within, b.within);
      marks = omega (arith, of.within, b.marks);
      few = omega (arith, of.within, h);
      deep = d;
      goes = of.goes;
      within = of.next_in;
      small = k;
    }

pub node_in : (base : ℕ) (s : List ℕ) (left hi i : ℕ) (filter : List ℕ) (from next size : ℕ) (node : Row) → Ready base s left hi filter from next size → RowAt base s i hi node → NodeIn base s i node
node_in base s left hi i filter from next size node y ra =
    record {
      len_is = ra.len_is;
      on = ra.on;
      within = ra.within;
      units = omega (arith, ra.last, y.units);
      marks = omega (arith, ra.last, y.marks);
      few = omega (arith, ra.last, y.few);
      short = ra.short;
    }
