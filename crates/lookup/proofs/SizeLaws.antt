-- What a lookup's records take: what each turn of the code adds. Assumes nothing.
use Rattle.std.specs.Prelude.{None, Option, Some}
use mathlib.Core.Path.{◌≡◌, refl, sym, ap, ◌∙◌}
use mathlib.Core.Bool.{Bool, true, false, ◌&&◌}
use mathlib.Core.List.{List, [], ◌∷◌, ◌++◌}
use Prim.Native.Nat.{ℕ, ◌+◌, ◌-◌, ◌*◌, ◌/◌, ◌≤◌, ◌<◌, min}
use native.Mathlib.Nat.{zero-add}
use native.Mathlib.Omega.{arith}
use lib.ListN.{length, length-append}
use borrow.Author.Tests.{ne_eqb}
use Rattle.lent.specs.Parts.{part}
use Rattle.level.specs.Kinds.{dollar}
use Rattle.level.specs.Levels.{split, width}
use Rattle.level.specs.Places.{levels_at}
use Rattle.topic.specs.Match.{takes}
use Rattle.held.specs.Order.{Level, Filter}
use Rattle.held.specs.Retained.{Stored}
use Rattle.held.specs.Forest.{Forest}
use Rattle.held.specs.Walks.{onward}
use Rattle.held.specs.Stream.{in_page, row_count}
use Rattle.region.specs.Layout.{level_units}
use Rattle.region.specs.Units.{stored_of}
use Rattle.forest.specs.declared.Row.{Row}
use Rattle.forest.specs.Places.{unit_at, level_in, RowAt}
use Rattle.walk.proofs.Widths.{width_next, length-join_next}
use Rattle.lookup.specs.declared.Query.{Query}
use Rattle.lookup.specs.declared.Tally.{Tally}
use Rattle.lookup.specs.declared.Along.{Along}
use Rattle.lookup.specs.Lives.{life_of}
use Rattle.lookup.specs.Standing.{stored_in, NodeIn, NodeHas}
use Rattle.lookup.specs.Spans.{barred_at, AlongOf}
use Rattle.lookup.specs.Turns.{row_asked, own_number, own_asked, node_number, node_asked, Ready}
use Rattle.lookup.specs.Sizes.{Told, LiveTold, OwnTold, NodeTold, RowTo, RowTold, Measured}
use Rattle.lookup.proofs.TurnLaws.{rest-first, rest_hidden, rest_met, rest_end}
use Rattle.lookup.proofs.OwnLaws.{one-held, none-held, over_is, left_is, length_name, own_empty, own_unasked, own-asked, own-expired, own-counted, own-paged, own_unpaged}

-- nothing more, and one after the other
told_none : (m : Tally) {bs : List ℕ} {n : ℕ} → bs ≡ [] → n ≡ 0 → Told m bs n m
told_none m e f = record { bytes_are = omega (arith, ap length e); total_is = omega (arith, f) }

told_both : (x y z : Tally) (a b : List ℕ) (m n : ℕ) → Told x a m y → Told y b n z → Told x (a ++ b) (m + n) z
told_both x y z a b m n p q =
    record { bytes_are = rw length-append (omega (arith, p.bytes_are, q.bytes_are)); total_is = omega (arith, p.total_is, q.total_is) }

-- a record
module _ (q : Query) (before : Tally) (base : ℕ) (s : List ℕ) (at text : ℕ) {life : Option ℕ} (lives : life ≡ life_of q.clock (stored_of (part (unit_at base at) 16 s))) where
  pub live_over : life ≡ None → LiveTold q before base s at text before
  live_over is =
      record {
        total_most = omega arith;
        bytes_most = omega arith;
        told = λ p e x h.
            let u = over_is q.clock x (sym is ∙ lives ∙ ap (life_of q.clock) h) in
            let o = own-expired q.clock q.offset q.limit before.total p x u in
            told_none before o.0 o.1;
      }

  module _ (m : ℕ) (is : life ≡ Some m) {r : Bool} (paged : r ≡ in_page q.offset q.limit before.total) where
    pub live_in : r ≡ true → LiveTold q before base s at text (record { bytes = before.bytes + 16 + text; total = before.total + 1 })
    live_in g =
        record {
          total_most = omega arith;
          bytes_most = omega arith;
          told = λ p e x h.
              let u = left_is q.clock m x (sym is ∙ lives ∙ ap (life_of q.clock) h) in
              let b = own-paged q.clock q.offset q.limit before.total p x u.0 (sym paged ∙ g) in
              let c = own-counted q.clock q.offset q.limit before.total p x u.0 in
              record { bytes_are = omega (arith, ap length b, length_name q.clock p x, e); total_is = omega (arith, c) };
        }

    pub live_out : r ≡ false → LiveTold q before base s at text (record { bytes = before.bytes; total = before.total + 1 })
    live_out g =
        record {
          total_most = omega arith;
          bytes_most = omega arith;
          told = λ p e x h.
              let u = left_is q.clock m x (sym is ∙ lives ∙ ap (life_of q.clock) h) in
              let b = own_unpaged q.clock q.offset q.limit before.total p x u.0 (sym paged ∙ g) in
              let c = own-counted q.clock q.offset q.limit before.total p x u.0 in
              record { bytes_are = omega (arith, ap length b); total_is = omega (arith, c) };
        }

-- a node's own record
module _ (q : Query) (before : Tally) (base : ℕ) (s : List ℕ) (at end : ℕ) (filter : List ℕ) (next text : ℕ) where
  pub own-none : end ≤ at → OwnTold q before base s at end (levels_at filter next) text before
  own-none h =
      record {
        total_most = omega arith;
        bytes_most = omega arith;
        told = λ v w p e.
            let o = own_empty q before.total p (levels_at filter next) in
            rw (none-held base s at end h v w) (told_none before o.0 o.1);
      }

  module _ (some : at < end) {t : Bool} (ends : t ≡ takes (levels_at filter next) []) where
    pub own-more : t ≡ false → OwnTold q before base s at end (levels_at filter next) text before
    own-more f =
        record {
          total_most = omega arith;
          bytes_most = omega arith;
          told = λ v w p e. let o = own_unasked q before.total p (levels_at filter next) v (sym ends ∙ f) in told_none before o.0 o.1;
        }

    pub own_live : t ≡ true → {r : Tally} → LiveTold q before base s at text r → OwnTold q before base s at end (levels_at filter next) text r
    own_live f {r} l =
        record {
          total_most = l.total_most;
          bytes_most = l.bytes_most;
          told = λ v w p e.
              let h = one-held base s at end some v w in
              let o = own-asked q before.total p (levels_at filter next) v (sym ends ∙ f) in
              rw (o.0, o.1, h.is) (l.told p e h.one h.stands);
        }

-- a node
pub not_top : (left : ℕ) (gs : Filter) → left ≤ 128 → 0 < left → barred_at (left - 1) gs ≡ false
not_top left gs h k = rw (ne_eqb (left - 1) 128 (λ e. omega (arith, e, h, k)))

module _ (q : Query) (before : Tally) (base : ℕ) (s : List ℕ) (left i : ℕ) (node : Row) (filter : List ℕ) (next size at : ℕ) (few : left ≤ 128)
    (is : at ≡ min (i + (node.len + 23) / 16) node.end) (w r : Tally) (own : OwnTold q before base s at node.end (levels_at filter next) (size + node.len) w)
    (below : RowTold q w base s (left - 1) node.end node.past (levels_at filter next) (size + node.len + 1) r) where
  told-all : (t : Level) (v : List Stored) (k : Forest Stored) → NodeHas base s left i node t v k → (p : Filter) → width p ≡ size
      → Told before (node_asked q before.total (p ++ t ∷ []) (levels_at filter next) v k) (node_number q (levels_at filter next) v k) r
  unfolding node_asked node_number
  told-all t v k has p e =
      let gs : Filter = levels_at filter next in
      let a : at ≡ i + level_units t = omega (arith, is, has.len, has.holds.count) in
      let x = own.told v (rw a has.holds) (p ++ t ∷ []) (length-join_next p t ∙ omega (arith, e, has.len)) in
      let y = below.told k has.kids (p ++ t ∷ []) (width_next p t ∙ omega (arith, e, has.len)) in
      let z : Told w (row_asked q w.total (p ++ t ∷ []) false gs k) (row_count q.clock false gs k) r = rw (not_top left gs few has.deep) at y in
      rw (← x.total_is) (told_both before w r (own_asked q before.total (p ++ t ∷ []) gs v) (row_asked q w.total (p ++ t ∷ []) false gs k) (own_number q gs v) (row_count q.clock false gs k) x z)

  pub node-told : NodeTold q before base s left i node (levels_at filter next) size r
  node-told = record { total_most = below.total_most; bytes_most = below.bytes_most; told = told-all }

-- no node is deeper than 128
pub node_shut : (q : Query) (before : Tally) (base : ℕ) (s : List ℕ) (left i : ℕ) (node : Row) (filter : List ℕ) (next size : ℕ) → left ≡ 0 → NodeIn base s i node → before.total ≤ i → before.bytes ≤ 8388624 * i
    → NodeTold q before base s left i node (levels_at filter next) size before
node_shut q before base s left i node filter next size z h f b =
    record {
      total_most = omega (arith, f, h.on, h.within);
      bytes_most = omega (arith, b, h.on, h.within);
      told = λ t v k has p e. absurd (omega (arith, has.deep, z));
    }

-- the turns along a row
pub row_begin : (q : Query) (before : Tally) (b : Bool) (base : ℕ) (s : List ℕ) (left lo hi : ℕ) (filter : List ℕ) (from size : ℕ) (walk : Along) → before.total ≤ lo → before.bytes ≤ 8388624 * lo
    → AlongOf base s left lo hi filter from walk → RowTo q before b (levels_at filter from) base s left walk.lo walk.hi walk.lo size before
row_begin q before b base s left lo hi filter from size walk h k of =
    record {
      begun = omega arith;
      within = of.on;
      total_most = omega (arith, h, of.begun);
      bytes_most = omega (arith, k, of.begun);
      passed = λ G st ta p e.
          record { done = []; rest = rest-first q b (levels_at filter from) base s left walk.lo walk.hi p G before.total st ta; bytes_are = omega arith };
    }

module _ (q : Query) (before : Tally) (b : Bool) (base : ℕ) (s : List ℕ) (left lo hi i : ℕ) (filter : List ℕ) (from size : ℕ) (sum : Tally) (z : RowTo q before b (levels_at filter from) base s left lo hi i size sum)
    (next : ℕ) (y : Ready base s left hi filter from next size) (more : i < hi) (node : Row) (ra : RowAt base s i hi node) {h : Bool} (hidden : h ≡ (b && dollar (level_in base s i hi))) where
  abbrev fs : Filter
  fs = levels_at filter from

  pub row_hidden : h ≡ true → RowTo q before b (levels_at filter from) base s left lo hi node.past size sum
  row_hidden t =
      record {
        begun = omega (arith, z.begun, ra.on, ra.within);
        within = ra.last;
        total_most = omega (arith, z.total_most, ra.on, ra.within);
        bytes_most = omega (arith, z.bytes_most, ra.on, ra.within);
        passed = λ G st ta p e.
            let x = z.passed G st ta p e in
            record { done = x.done; rest = rest_hidden q b fs base s left i hi p G before.total x.done sum.total x.rest node ra more y.deep hidden t; bytes_are = x.bytes_are };
      }

  pub row_visited : h ≡ false → {r : Tally} → NodeTold q sum base s left i node (levels_at filter next) size r
      → RowTo q before b (levels_at filter from) base s left lo hi node.past size r
  row_visited t {r} n =
      record {
        begun = omega (arith, z.begun, ra.on, ra.within);
        within = ra.last;
        total_most = n.total_most;
        bytes_most = n.bytes_most;
        passed = λ G st ta p e.
            let x = z.passed G st ta p e in
            let m = rest_met q b fs base s left i hi p G before.total x.done sum.total x.rest node ra more y.deep hidden t in
            let u = rw y.goes at (n.told m.level m.own m.kids m.has p e) in
            let here : List ℕ = node_asked q sum.total (p ++ m.level ∷ []) (onward fs) m.own m.kids in
            record {
              done = x.done ++ here;
              rest = rw u.total_is m.after;
              bytes_are = rw length-append (omega (arith, x.bytes_are, u.bytes_are));
            };
      }

pub row_told : (q : Query) (before : Tally) (base : ℕ) (s : List ℕ) (left lo hi i : ℕ) (filter : List ℕ) (from size : ℕ) (sum : Tally) (walk : Along) → AlongOf base s left lo hi filter from walk
    → RowTo q before walk.barred (levels_at filter from) base s left walk.lo walk.hi i size sum → walk.hi ≤ i → RowTold q before base s left lo hi (levels_at filter from) size sum
row_told q before base s left lo hi i filter from size sum walk of z over =
    let fs : Filter = levels_at filter from in
    record {
      total_most = omega (arith, z.total_most, z.within, of.within);
      bytes_most = omega (arith, z.bytes_most, z.within, of.within);
      told = λ F st p e.
          let g = of.is F st in
          let y = z.passed g.nodes g.stands g.taken p e in
          let d = rest_end q walk.barred fs base s left i walk.hi p g.nodes before.total y.done sum.total y.rest over in
          rw (← of.barred_is, g.bytes_are q.clock q.offset q.limit before.total p walk.barred, g.count_is q.clock walk.barred)
          (record { bytes_are = rw d.0 y.bytes_are; total_is = sym d.1 });
    }

-- all of it
module _ (clock offset limit base n : ℕ) (s filter : List ℕ) {all : Tally} {given : ℕ} (told : RowTold (record { clock = clock; offset = offset; limit = limit }) (record { bytes = 0; total = 0 }) base s 128 0 n (split filter) 0 all) (page : given ≡ min limit (all.total - offset)) where
  pub measured : Measured clock offset limit base s n (split filter) (record { bytes = all.bytes; records = given; total = all.total })
  measured =
      record {
        bytes_are = λ l. rw zero-add at (told.told (stored_in base s n) l [] refl).bytes_are;
        total_is = λ l. rw zero-add at (told.told (stored_in base s n) l [] refl).total_is;
        records_are = page;
        few = told.total_most;
      }
