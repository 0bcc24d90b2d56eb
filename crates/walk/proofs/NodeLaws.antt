-- The child that a search found, as a node of a walk. Assumes nothing.
use Rattle.std.specs.Prelude.{Some}
use Rattle.std.specs.Prelude.{Result, Ok, Err}
use Rattle.std.specs.Prelude.{None, Option}
use mathlib.Core.Path.{◌≡◌, refl, sym, ◌∙◌}
use mathlib.Core.List.{List}
use Prim.Native.Nat.{ℕ, ◌+◌, ◌/◌, ◌≤◌, min}
use native.Mathlib.Omega.{arith}
use lib.ListN.{length}
use Rattle.held.specs.Order.{Level}
use Rattle.held.specs.Forest.{Forest, leaf}
use Rattle.held.specs.Walks.{Hit, miss, hit, kid}
use Rattle.region.proofs.Instances.{values}
use Rattle.forest.specs.Stands.{raw_in, RawStands}
use Rattle.forest.proofs.StandsLaws.{fits_fork}
use Rattle.seek.specs.declared.Child.{Child}
use Rattle.seek.specs.Child.{child_at, child_of, Inside}
use Rattle.seek.proofs.Found.{found_in, missed_in}
use Rattle.seek.proofs.Holds.{stands_holds}
use Rattle.seek.proofs.Raw.{child_stands}
use Rattle.walk.specs.declared.Node.{Node}
use Rattle.walk.specs.Height.{height_f}
use Rattle.walk.specs.Nodes.{node_at, ValuesStand, NodeIn, Below, NodeHolds, NodeIs, Kid}
use Rattle.walk.proofs.Heights.{kid_height, kid_leaf}

is_miss : (base : ℕ) (s : List ℕ) (d : ℕ) (h : Hit ℕ) → h ≡ miss → NodeIs base s d None h
is_miss base s d h e = rw e tt

module _ (base : ℕ) (s : List ℕ) (d lo hi : ℕ) (g : Level) where
  -- below depth 128 there is none
  pub kid_deep : 128 ≤ d → Kid base s d lo hi g None
  kid_deep h = record { inside = tt; is = λ F w q. is_miss base s (d + 1) (kid g F) (kid_leaf g F (omega arith)) }

  module _ {c : Result Child ℕ} (ask : RawStands base s (d + 1) lo hi → c ≡ child_of g lo (raw_in base s lo hi)) where
    pub kid-none : (i : ℕ) → c ≡ Err i → Kid base s d lo hi g None
    kid-none i e =
        record {
          inside = tt;
          is = λ F w q. is_miss base s (d + 1) (kid g F) (missed_in g lo F i (sym e ∙ child_stands values base s (d + 1) lo hi F w g c ask)).missed;
        }

    module _ (ch : Child) (v : ℕ) (is : c ≡ Ok ch) (within : Inside lo hi c) (at : v ≡ min (ch.node + (length g + 23) / 16) ch.end) where
      holds : (F : Forest ℕ) → ValuesStand base s (d + 1) lo hi F → d + height_f F ≤ 128 → NodeIs base s (d + 1) (node_at v ch.end ch.past) (kid g F)
      holds F w q =
          let f = found_in values base s g (d + 1) lo hi F w ch.node ch.end ch.past (sym is ∙ child_stands values base s (d + 1) lo hi F w g c ask) in
          let z : v ≡ ch.node + (length g + 23) / 16 = omega (arith, at, f.end) in
          rw f.found
          (record {
            count = omega (arith, z, f.end);
            few = (fits_fork g f.own f.kids leaf f.node.fits).own;
            values = rw z (stands_holds values base s (d + 1) ch.node ch.past g f.own f.kids leaf f.node);
            small = (fits_fork g f.own f.kids leaf f.node.fits).small;
            stands = f.below;
            shallow = omega (arith, q, kid_height g F f.own f.kids f.found);
          })

      pub kid_some : Below base s lo hi → Kid base s d lo hi g (node_at v ch.end ch.past)
      kid_some b =
          let j : Inside lo hi (Ok ch) = rw is at within in
          record { inside = (omega (arith, at), j.2, omega (arith, j.3, b.within), omega (arith, j.3, b.marks)); is = holds }

-- a node that was matched
pub node_below : (base : ℕ) (nd : Node) (s : List ℕ) {n : Option Node} → n ≡ Some nd → NodeIn base s n → Below base s nd.end nd.past
node_below base nd s is i = let j : NodeIn base s (Some nd) = rw is at i in record { low = j.1; within = j.2; marks = j.3 }

pub record Opened (base : ℕ) (s : List ℕ) (d v e p : ℕ) (h : Hit ℕ) : Type 0 where
  pub own : List ℕ
  pub kids : Forest ℕ
  pub is : h ≡ hit own kids
  pub holds : NodeHolds base s d v e p own kids

module _ (base : ℕ) (s : List ℕ) (d : ℕ) where
  opened_at : (nd : Node) (h : Hit ℕ) → NodeIs base s d (Some nd) h → Opened base s d nd.values nd.end nd.past h
  opened_at nd miss i = absurd i
  opened_at nd (hit own kids) i = record { own = own; kids = kids; is = refl; holds = i }

  pub opened : (nd : Node) (n : Option Node) (h : Hit ℕ) → n ≡ Some nd → NodeIs base s d n h → Opened base s d nd.values nd.end nd.past h
  opened nd n h is i = opened_at nd h (rw is at i)

  not_there : (h : Hit ℕ) → NodeIs base s d None h → h ≡ miss
  not_there miss i = refl
  not_there (hit own kids) i = absurd i

  pub missed : (n : Option Node) (h : Hit ℕ) → n ≡ None → NodeIs base s d n h → h ≡ miss
  missed n h is i = not_there h (rw is at i)

  -- the children that a walk takes from it
  pub kid_of : (v e p : ℕ) (h : Hit ℕ) (o : Opened base s d v e p h) (g : Level) (w : Option Node) → Kid base s d e p g w → NodeIs base s (d + 1) w (kid g o.kids)
  kid_of v e p h o g w k = k.is o.kids o.holds.stands o.holds.shallow
