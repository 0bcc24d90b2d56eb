-- The listing's walk: what each turn writes. Assumes nothing.
use Rattle.std.specs.Prelude.{Some}
use Rattle.std.specs.Prelude.{None, Option}
use mathlib.Core.Path.{◌≡◌, refl, sym, ap, ◌∙◌}
use mathlib.Core.List.{List, [], ◌∷◌, ◌++◌}
use Prim.Native.Nat.{ℕ, zero, suc, ◌+◌, ◌-◌, ◌*◌, ◌≤◌, ◌<◌}
use native.Mathlib.Omega.{arith}
use lib.ListN.{length, take, drop, set, replicate, length-set, length-replicate}
use lib.Seq.{take-take, take-set-le}
use Rattle.level.specs.Levels.{split, width}
use Rattle.level.specs.Places.{first, levels_at, end_of}
use Rattle.level.proofs.Split.{levels_cons, levels-none}
use Rattle.held.specs.Order.{Level, Filter}
use Rattle.held.specs.Walks.{hash, plus, kid}
use Rattle.held.specs.Stream.{list_bytes, list_count}
use Rattle.held.proofs.Equations.{walk_miss, walk_end, walk-on}
use Rattle.walk.specs.declared.Node.{Node}
use Rattle.walk.specs.declared.Step.{Step}
use Rattle.walk.specs.declared.Start.{Start}
use Rattle.walk.specs.declared.Measured.{Measured}
use Rattle.walk.specs.Height.{height_f}
use Rattle.walk.specs.Nodes.{node_at, Listed, values_in}
use Rattle.walk.specs.Steps.{NextLevel, StepTo}
use Rattle.walk.specs.Starts.{Started}
use Rattle.walk.specs.Sizes.{nothing}
use Rattle.listing.specs.Trails.{taken, path_of, path_at, Trail}
use Rattle.listing.specs.Written.{Added, HashRoom, BelowWritten, EndWritten, Walked}
use Rattle.walk.proofs.Heights.{kid_leaf}
use Rattle.walk.proofs.NodeLaws.{opened, missed, kid_of}
use Rattle.walk.proofs.Widths.{width_next}
use Rattle.walk.proofs.SizeLaws.{count_miss, count_end, count-on}
use Rattle.listing.proofs.Trails.{path-set, here, levels_next, more_levels}
use Rattle.listing.proofs.RecordLaws.{added_none, added_then}

-- a trail
pub trail_room : (name marks : List ℕ) (depth from size : ℕ) → Trail name marks depth from size → HashRoom size name marks depth
trail_room name marks depth from size t = record { short = omega (arith, t.small, t.high, t.short); deep = t.deep; marked = t.marked; some = t.some; size_is = t.size_is }

-- one level down, with a mark
module _ (name marks : List ℕ) (depth from size stop m : ℕ) (t : Trail name marks depth from size) (next : NextLevel name from stop) (more : depth < 128) where
  pub path_down : path_at (set marks depth m) (depth + 1) name ≡ path_at marks depth name ++ taken m (take (stop - from) (drop from name)) ∷ []
  path_down = path-set marks depth m (split name) _ _ (omega (arith, t.marked, more)) (here name depth from stop t.levels next)

  trail_down : (size2 : ℕ) → size2 ≡ size + length (taken m (take (stop - from) (drop from name))) + 1 → size2 ≤ 2 * (stop + 1) → Trail name (set marks depth m) (depth + 1) (stop + 1) size2
  trail_down size2 e l =
      record {
        deep = omega (arith, more);
        some = more_levels name depth from stop t.levels next;
        levels = levels_next name depth from stop t.levels next;
        size_is = ap width path_down ∙ width_next (path_at marks depth name) (taken m (take (stop - from) (drop from name))) ∙ omega (arith, e, t.size_is);
        marked = length-set marks depth m ∙ t.marked;
        high = omega (arith, next.within);
        small = l;
        short = t.short;
      }

module _ (name marks : List ℕ) (depth from size stop : ℕ) (t : Trail name marks depth from size) (next : NextLevel name from stop) (more : depth < 128) where
  pub trail-plus : Trail name (set marks depth 1) (depth + 1) (stop + 1) (size + 2)
  trail-plus = trail_down name marks depth from size stop 1 t next more (size + 2) (omega arith) (omega (arith, t.small, next.on))

  -- the marks after the first of two walks
  module _ (kept : List ℕ) (same : take (depth + 1) kept ≡ take (depth + 1) (set marks depth 1)) where
    same_marks : take depth kept ≡ take depth marks
    same_marks =
        sym (take-take depth (depth + 1) kept (omega arith)) ∙ ap (take depth) same ∙ take-take depth (depth + 1) (set marks depth 1) (omega arith)
        ∙ take-set-le depth marks depth 1 (omega arith)

    trail_kept : length kept ≡ 128 → Trail name kept depth from size
    trail_kept l =
        record {
          deep = t.deep;
          some = t.some;
          levels = t.levels;
          size_is = rw same_marks t.size_is;
          marked = l;
          high = t.high;
          small = t.small;
          short = t.short;
        }

    pub trail_level : length kept ≡ 128 → Trail name (set kept depth 0) (depth + 1) (stop + 1) (size + (stop - from) + 1)
    trail_level l =
        trail_down name kept depth from size stop 0 (trail_kept l) next more (size + (stop - from) + 1) (omega (arith, next.long)) (omega (arith, t.small, next.on))

    level_down : length kept ≡ 128 → path_at (set kept depth 0) (depth + 1) name ≡ path_at marks depth name ++ take (stop - from) (drop from name) ∷ []
    level_down l = path_down name kept depth from size stop 0 (trail_kept l) next more ∙ ap (λ (ms : List ℕ). path_of ms (split name) ++ take (stop - from) (drop from name) ∷ []) same_marks

-- the turns
module _ (base : ℕ) (s name marks : List ℕ) (depth from : ℕ) (old : List ℕ) (a : Measured) {n : Option Node} where
  pub not_walked : n ≡ None → a.bytes ≤ length old → a.records ≤ a.bytes → Walked base s n name marks marks depth from old old a a
  not_walked is l f = record { within = l; few = f; same = refl; is = λ h i. rw (missed base s depth n h is i, walk_miss, count_miss) (added_none old a) }

  module _ (nd : Node) (is : n ≡ Some nd) where
    pub walked_end : length name < from → (new : List ℕ) (b : Measured) → EndWritten base s nd.values nd.end nd.past depth (path_at marks depth name) old new a b → Walked base s n name marks marks depth from old new a b
    walked_end end new b w =
        record {
          within = w.within;
          few = w.few;
          same = refl;
          is = λ h i.
              let o = opened base s depth nd n h is i in
              rw (levels-none name from end, o.is, walk_end, count_end) (w.is o.own o.kids o.holds);
        }

    -- no children are deeper than 128
    pub walked_deep : from ≤ length name → 128 ≤ depth → a.bytes ≤ length old → a.records ≤ a.bytes → Walked base s n name marks marks depth from old old a a
    walked_deep more deep l f =
        record {
          within = l;
          few = f;
          same = refl;
          is = λ h i.
              let o = opened base s depth nd n h is i in
              let z : height_f o.kids ≤ 0 = omega (arith, o.holds.shallow, deep) in
              let g : Level = first (drop from name) in
              let p : Filter = path_at marks depth name in
              let ns : Filter = levels_at name (suc (end_of name from)) in
              rw (levels_cons name from more, o.is, walk-on, count-on, kid_leaf hash o.kids z, kid_leaf plus o.kids z, kid_leaf g o.kids z, walk_miss (p ++ plus ∷ []) ns, walk_miss (p ++ g ∷ []) ns, count_miss ns) (added_none old a);
        }

    pub walked_on : (size : ℕ) → Trail name marks depth from size → depth < 128
        → (o1 : List ℕ) (b1 : Measured) → length o1 ≡ length old → BelowWritten base s nd.end nd.past depth (path_at marks depth name) old o1 a b1
        → (t : Step) → StepTo base s depth nd.end nd.past name from t
        → (m2 o2 : List ℕ) (b2 : Measured) → length m2 ≡ 128 → length o2 ≡ length o1 → Walked base s t.any name (set marks depth 1) m2 (depth + 1) (t.stop + 1) o1 o2 b1 b2
        → (m3 o3 : List ℕ) (b3 : Measured) → Walked base s t.own name (set m2 depth 0) m3 (depth + 1) (t.stop + 1) o2 o3 b2 b3
        → Walked base s n name marks m3 depth from old o3 a b3
    walked_on size tr more o1 b1 l1 b t st m2 o2 b2 lm l2 w2 m3 o3 b3 w3 =
        let g : Level = take (t.stop - from) (drop from name) in
        let p : Filter = path_at marks depth name in
        let d2 : path_at (set marks depth 1) (depth + 1) name ≡ p ++ plus ∷ [] = path_down name marks depth from size t.stop 1 tr st.next more in
        let d3 : path_at (set m2 depth 0) (depth + 1) name ≡ p ++ g ∷ [] = level_down name marks depth from size t.stop tr st.next more m2 w2.same lm in
        record {
          within = omega (arith, w3.within, l2, l1);
          few = w3.few;
          same =
              sym (take-take depth (depth + 1) m3 (omega arith)) ∙ ap (take depth) w3.same ∙ take-take depth (depth + 1) (set m2 depth 0) (omega arith)
              ∙ take-set-le depth m2 depth 0 (omega arith) ∙ same_marks name marks depth from size t.stop tr st.next more m2 w2.same;
          is = λ h i.
              let o = opened base s depth nd n h is i in
              let y2 = rw d2 at (w2.is (kid plus o.kids) (kid_of base s depth nd.values nd.end nd.past h o plus t.any st.any)) in
              let y3 = rw d3 at (w3.is (kid g o.kids) (kid_of base s depth nd.values nd.end nd.past h o g t.own st.own)) in
              rw (st.next.levels, o.is, walk-on, count-on)
              (added_then old o1 o3 a b1 b3 _ _ _ _ l1 (b.is o.kids o.holds.stands o.holds.shallow) (added_then o1 o2 o3 b1 b2 b3 _ _ _ _ l2 y2 y3));
        }

-- from the start, without marks
path-none : (ls : Filter) (d : ℕ) → d ≤ 1 → path_of (take d (replicate 128 0)) ls ≡ take d ls
unfolding path_of
path-none ls zero h = refl
path-none [] (suc zero) h = refl
path-none (l ∷ ls) (suc zero) h = refl
path-none ls (suc (suc d)) h = absurd (omega arith)

module _ (base n : ℕ) (s name marks : List ℕ) {t : Start} (u : Started base s n name t) (none : marks ≡ replicate 128 0) where
  path_start : path_at marks t.depth name ≡ take t.depth (split name)
  path_start = rw none (path-none (split name) t.depth u.few)

  pub trail_start : length name ≤ 65535 → Trail name marks t.depth t.from t.from
  trail_start h =
      record {
        deep = omega (arith, u.few);
        some = u.some;
        levels = u.levels;
        size_is = ap width path_start ∙ u.size_is;
        marked = ap length none ∙ length-replicate {A = ℕ} 128 0;
        high = u.high;
        small = omega arith;
        short = h;
      }

  pub listed : (kept old new : List ℕ) (end : Measured) → Walked base s t.node name marks kept t.depth t.from old new nothing end
      → Listed base s n → Added old new nothing (list_bytes (split name) (values_in base s n)) (list_count (split name) (values_in base s n)) end
  listed kept old new end w l =
      let b = u.begun l in
      let z = rw path_start at (w.is b.at b.at_is) in
      rw (b.bytes_are, b.count_is) z
