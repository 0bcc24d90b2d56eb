-- Whether a walk would give a record: what each turn answers. Assumes nothing.
use Rattle.std.specs.Prelude.{Some}
use Rattle.std.specs.Prelude.{None, Option}
use mathlib.Core.Path.{◌≡◌, refl, sym, ◌∙◌}
use mathlib.Core.Bool.{Bool, true, false, ◌||◌}
use mathlib.Core.List.{List, [], ◌∷◌}
use Prim.Native.Nat.{ℕ, ◌+◌, ◌-◌, ◌≤◌, ◌<◌}
use native.Mathlib.Omega.{arith}
use lib.Dec.{ltb}
use lib.ListN.{length, take, drop}
use borrow.Author.Tests.{lt-ltb, le-ltb}
use Rattle.level.specs.Levels.{split}
use Rattle.level.specs.Places.{levels_at}
use Rattle.level.proofs.Split.{levels_cons, levels-none}
use Rattle.held.specs.Order.{Level, Filter}
use Rattle.held.specs.Forest.{Forest}
use Rattle.held.specs.Walks.{miss, hit, hash, plus, kid}
use Rattle.held.specs.Stream.{some_of, hash_hit, walk_hit, list_hit}
use Rattle.walk.specs.declared.Start.{Start}
use Rattle.walk.specs.declared.Node.{Node}
use Rattle.walk.specs.Nodes.{node_at, Kid, Listed, values_in}
use Rattle.walk.specs.Steps.{NextLevel}
use Rattle.walk.specs.Starts.{Started}
use Rattle.walk.specs.Hits.{Hits, HashHits}
use Rattle.walk.proofs.NodeLaws.{opened, missed, kid_of}

-- the turns of `walk_hit`
hit_miss : (ns : Filter) → walk_hit {X = ℕ} ns miss ≡ false
unfolding walk_hit
hit_miss [] = refl
hit_miss (n ∷ ns) = refl

hit_end : (v : List ℕ) (k : Forest ℕ) → walk_hit [] (hit v k) ≡ (some_of v || hash_hit (kid hash k))
unfolding walk_hit
hit_end v k = refl

hit-on : (n : Level) (ns : Filter) (v : List ℕ) (k : Forest ℕ) → walk_hit (n ∷ ns) (hit v k) ≡ (hash_hit (kid hash k) || (walk_hit ns (kid plus k) || walk_hit ns (kid n k)))
unfolding walk_hit
hit-on n ns v k = refl

-- values from a unit up to another
some-of : (v e : ℕ) (own : List ℕ) → e ≡ v + length own → ltb v e ≡ some_of own
some-of v e [] h = le-ltb v e (omega (arith, h))
some-of v e (x ∷ own) h = lt-ltb v e (omega (arith, h))

pub values_some : (nd : Node) {n : Option Node} → n ≡ Some nd → HashHits n (ltb nd.values nd.end)
values_some nd {n} is =
    record {
      is = λ base s d h i. let o = opened base s d nd n h is i in rw o.is (some-of nd.values nd.end o.own o.holds.count);
    }

pub values-none : {n : Option Node} → n ≡ None → HashHits n false
values-none {n} is = record { is = λ base s d h i. rw (missed base s d n h is i) }

pub no_node : (base : ℕ) (s : List ℕ) (d : ℕ) (ns : Filter) {n : Option Node} → n ≡ None → Hits base s d n ns false
no_node base s d ns {n} is = record { is = λ h i. rw (missed base s d n h is i) (sym (hit_miss ns)) }

module _ (base : ℕ) (s : List ℕ) (d : ℕ) (name : List ℕ) (from : ℕ) (nd : Node) {n all : Option Node} (is : n ≡ Some nd) (k : Kid base s d nd.end nd.past hash all) where
  -- the name ends
  module _ (end : length name < from) where
    pub own_hits : nd.values < nd.end → Hits base s d n (levels_at name from) true
    own_hits l =
        record {
          is = λ h i.
              let o = opened base s d nd n h is i in
              rw (levels-none name from end, o.is, hit_end, ← some-of nd.values nd.end o.own o.holds.count, lt-ltb nd.values nd.end l);
        }

    pub end_hits : nd.end ≤ nd.values → {r : Bool} → HashHits all r → Hits base s d n (levels_at name from) r
    end_hits l {r} a =
        record {
          is = λ h i.
              let o = opened base s d nd n h is i in
              rw (levels-none name from end, o.is, hit_end, ← some-of nd.values nd.end o.own o.holds.count, le-ltb nd.values nd.end l)
              (a.is base s (d + 1) (kid hash o.kids) (kid_of base s d nd.values nd.end nd.past h o hash all k));
        }

  -- it goes on
  module _ (some : from ≤ length name) {a : Bool} (q : HashHits all a) where
    pub hash_hits : a ≡ true → Hits base s d n (levels_at name from) true
    hash_hits t =
        record {
          is = λ h i.
              let o = opened base s d nd n h is i in
              rw (levels_cons name from some, o.is, hit-on, ← q.is base s (d + 1) (kid hash o.kids) (kid_of base s d nd.values nd.end nd.past h o hash all k), t);
        }

    -- past the '#'
    module _ (none : a ≡ false) (stop : ℕ) (next : NextLevel name from stop) {any : Option Node} (w : Kid base s d nd.end nd.past plus any) {b : Bool} (r : Hits base s (d + 1) any (levels_at name (stop + 1)) b) where
      pub plus_hits : b ≡ true → Hits base s d n (levels_at name from) true
      plus_hits t =
          record {
            is = λ h i.
                let o = opened base s d nd n h is i in
                rw (
                  next.levels,
                  o.is,
                  hit-on,
                  ← q.is base s (d + 1) (kid hash o.kids) (kid_of base s d nd.values nd.end nd.past h o hash all k),
                  none,
                  ← r.is (kid plus o.kids) (kid_of base s d nd.values nd.end nd.past h o plus any w),
                  t,
                );
          }

      pub level_hits : b ≡ false → {one : Option Node} → Kid base s d nd.end nd.past (take (stop - from) (drop from name)) one → {z : Bool} → Hits base s (d + 1) one (levels_at name (stop + 1)) z
          → Hits base s d n (levels_at name from) z
      level_hits t {one} x {z} u =
          record {
            is = λ h i.
                let o = opened base s d nd n h is i in
                let g : Level = take (stop - from) (drop from name) in
                rw (
                  next.levels,
                  o.is,
                  hit-on,
                  ← q.is base s (d + 1) (kid hash o.kids) (kid_of base s d nd.values nd.end nd.past h o hash all k),
                  none,
                  ← r.is (kid plus o.kids) (kid_of base s d nd.values nd.end nd.past h o plus any w),
                  t,
                )
                (u.is (kid g o.kids) (kid_of base s d nd.values nd.end nd.past h o g one x));
          }

-- from the start
pub listed_hits : (base n : ℕ) (s name : List ℕ) {t : Start} {r : Bool} → Started base s n name t → Hits base s t.depth t.node (levels_at name t.from) r
    → Listed base s n → r ≡ list_hit (split name) (values_in base s n)
listed_hits base n s name u h l = let b = u.begun l in h.is b.at b.at_is ∙ sym b.hit_is
