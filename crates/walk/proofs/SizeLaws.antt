-- What a walk's records take: what each turn adds. Assumes nothing.
use Rattle.std.specs.Prelude.{Some}
use Rattle.std.specs.Prelude.{None, Option}
use mathlib.Core.Path.{◌≡◌, refl, sym, ap, ◌∙◌}
use mathlib.Core.List.{List, [], ◌∷◌, ◌++◌}
use Prim.Native.Nat.{ℕ, ◌+◌, ◌-◌, ◌*◌, ◌<◌, min}
use native.Mathlib.Omega.{arith}
use lib.ListN.{length, take, drop, length-append}
use Rattle.level.specs.Levels.{split, join}
use Rattle.level.specs.Places.{levels_at}
use Rattle.level.proofs.Split.{levels-none}
use Rattle.held.specs.Order.{Level, Filter}
use Rattle.held.specs.Forest.{Forest}
use Rattle.held.specs.Walks.{miss, hit, hash, plus, kid}
use Rattle.held.specs.Stream.{one_of, record_at, hash_count, walk_count, list_bytes, list_count}
use Rattle.held.proofs.Equations.{walk_miss, walk_end, walk-on}
use Rattle.walk.specs.declared.Measured.{Measured}
use Rattle.walk.specs.declared.Node.{Node}
use Rattle.walk.specs.declared.Step.{Step}
use Rattle.walk.specs.declared.Start.{Start}
use Rattle.walk.specs.Nodes.{node_at, Kid, Listed, values_in}
use Rattle.walk.specs.Steps.{StepTo}
use Rattle.walk.specs.Starts.{Started}
use Rattle.walk.specs.Sizes.{capped, nothing, Sized, record_size, RecordSized, HashSized, Sizes}
use Rattle.walk.proofs.NodeLaws.{opened, missed, kid_of}
use Rattle.walk.proofs.Widths.{width_next, length-join, length-join_next, length_record}

-- nothing more, and one after the other
sized-none : (m : Measured) → Sized m 0 0 m
sized-none m = record { bytes_are = λ h. omega arith; records_are = λ h. omega arith }

sized_both : (a b c d : ℕ) (x y z : Measured) → Sized x a b y → Sized y c d z → Sized x (a + c) (b + d) z
sized_both a b c d x y z p q =
    record {
      bytes_are = λ h. let e = p.bytes_are (omega (arith, h)) in q.bytes_are (omega (arith, h, e)) ∙ omega (arith, e);
      records_are = λ h. let e = p.records_are (omega (arith, h)) in q.records_are (omega (arith, h, e)) ∙ omega (arith, e);
    }

pub hash_some : (b : Measured) (nd : Node) (size : ℕ) {n : Option Node} {m : Measured} → n ≡ Some nd → RecordSized b nd.values nd.end (size + 1) m → HashSized b n size m
hash_some b nd size {n} {m} is r =
    record {
      is = λ base s d h i f w.
          let o = opened base s d nd n h is i in
          let t : length (join (f ++ hash ∷ [])) ≡ size + 1 = length-join_next f hash ∙ ap (λ (x : ℕ). x + 1) w in
          rw (o.is, length_record (f ++ hash ∷ []) o.own, t) (r.is o.own o.holds.few o.holds.count);
    }

-- the turns of `walk_count`
pub count_miss : (ns : Filter) → walk_count {X = ℕ} ns miss ≡ 0
unfolding walk_count
count_miss [] = refl
count_miss (n ∷ ns) = refl

pub count_end : (v : List ℕ) (k : Forest ℕ) → walk_count [] (hit v k) ≡ one_of v + hash_count (kid hash k)
unfolding walk_count
count_end v k = refl

pub count-on : (n : Level) (ns : Filter) (v : List ℕ) (k : Forest ℕ) → walk_count (n ∷ ns) (hit v k) ≡ hash_count (kid hash k) + (walk_count ns (kid plus k) + walk_count ns (kid n k))
unfolding walk_count
count-on n ns v k = refl

pub no_sizes : (b : Measured) (base : ℕ) (s : List ℕ) (d size : ℕ) (ns : Filter) {n : Option Node} → n ≡ None → Sizes b base s d n size ns b
no_sizes b base s d size ns {n} is = record { is = λ h i p w. rw (missed base s d n h is i, walk_miss, count_miss) (sized-none b) }

module _ (before : Measured) (base : ℕ) (s : List ℕ) (d size : ℕ) (name : List ℕ) (from : ℕ) (nd : Node) {n all : Option Node} (is : n ≡ Some nd) (k : Kid base s d nd.end nd.past hash all) where
  -- the name ends
  pub sizes_end : length name < from → (t : ℕ) → t ≡ size - 1 → {o m : Measured} → RecordSized before nd.values nd.end t o → HashSized o all size m → Sizes before base s d n size (levels_at name from) m
  sizes_end end t et {o} {m} r q =
      record {
        is = λ h i f w.
            let c = opened base s d nd n h is i in
            let z : length (join f) ≡ t = length-join f ∙ rw w (sym et) in
            let y : Sized before (length (record_at f c.own)) (one_of c.own) o = rw (length_record f c.own, z) (r.is c.own c.holds.few c.holds.count) in
            rw (levels-none name from end, c.is, walk_end, count_end, length-append)
            (sized_both _ _ _ _ before o m y (q.is base s (d + 1) (kid hash c.kids) (kid_of base s d nd.values nd.end nd.past h c hash all k) f w));
      }

  -- it goes on
  pub sizes-on : {a b m : Measured} → HashSized before all size a → (t : Step) → StepTo base s d nd.end nd.past name from t
      → Sizes a base s (d + 1) t.any (size + 2) (levels_at name (t.stop + 1)) b → Sizes b base s (d + 1) t.own (size + (t.stop - from) + 1) (levels_at name (t.stop + 1)) m
      → Sizes before base s d n size (levels_at name from) m
  sizes-on {a} {b} {m} q t u r x =
      record {
        is = λ h i f z.
            let o = opened base s d nd n h is i in
            let g : Level = take (t.stop - from) (drop from name) in
            let y1 = q.is base s (d + 1) (kid hash o.kids) (kid_of base s d nd.values nd.end nd.past h o hash all k) f z in
            let y2 = r.is (kid plus o.kids) (kid_of base s d nd.values nd.end nd.past h o plus t.any u.any) (f ++ plus ∷ []) (width_next f plus ∙ omega (arith, z)) in
            let y3 = x.is (kid g o.kids) (kid_of base s d nd.values nd.end nd.past h o g t.own u.own) (f ++ g ∷ []) (width_next f g ∙ omega (arith, z, u.next.long)) in
            rw (u.next.levels, o.is, walk-on, count-on, length-append, length-append)
            (sized_both _ _ _ _ before a m y1 (sized_both _ _ _ _ a b m y2 y3));
      }

-- from the start
pub listed_sizes : (base n : ℕ) (s name : List ℕ) {t : Start} {m : Measured} → Started base s n name t → Sizes nothing base s t.depth t.node t.from (levels_at name t.from) m
    → Listed base s n → Sized nothing (length (list_bytes (split name) (values_in base s n))) (list_count (split name) (values_in base s n)) m
listed_sizes base n s name {t} u h l =
    let b = u.begun l in
    rw (b.bytes_are, b.count_is) (h.is b.at b.at_is (take t.depth (split name)) u.size_is)
