-- A child that was found: its row and its children stand where the answer says, and the children are those of the forest. Assumes nothing.
use Rattle.std.specs.Prelude.{Result, Ok, Err}
use mathlib.Core.Path.{◌≡◌, refl, sym, ap, ◌∙◌}
use mathlib.Core.Bool.{Bool, true, false, cond}
use mathlib.Core.List.{List}
use Prim.Native.Nat.{ℕ, ◌+◌, ◌≤◌}
use native.Mathlib.Omega.{arith}
use Rattle.level.specs.Kinds.{same}
use Rattle.held.specs.Order.{Level}
use Rattle.held.specs.Forest.{Forest, leaf, fork, Rows}
use Rattle.held.specs.Walks.{Hit, miss, hit, kid}
use Rattle.held.proofs.Orders.{level_order}
use Rattle.region.specs.Layout.{row_units, units_f}
use Rattle.region.specs.Forms.{Form, whole, Whole}
use Rattle.region.proofs.Instances.{wholes}
use Rattle.forest.specs.Stands.{Stands, raw_in, RawStands}
use Rattle.forest.specs.Paths.{seek_at, on_hit}
use Rattle.forest.proofs.StandsLaws.{fork_units, stands_read, stands_kids}
use Rattle.seek.specs.declared.Child.{Child}
use Rattle.seek.specs.Child.{child_at, child_of}
use Rattle.seek.proofs.Beside.{beside, beside_node, beside_none, Precede, over_back, seek_behind}
use Rattle.seek.proofs.Parted.{stands_front, stands_back}

-- a row parted before its node with the level g
pub record KidAt {X : Type 0} (g : Level) (v : List X) (k F : Forest X) : Type 0 where
  pub before : Forest X
  pub next : Forest X
  pub is : F ≡ beside before (fork g v k next)
  pub precedes : Precede g before

module _ {X : Type 0} (g : Level) (v : List X) (k : Forest X) where
  miss_hit : miss ≡ hit v k → ⊥
  miss_hit e = let z : ◌≡◌ {A = ℕ} 0 1 = cc in absurd (omega arith)

  kid-first : (n : Forest X) → KidAt g v k (fork g v k n)
  kid-first n = record { before = leaf; next = n; is = sym (beside_none (fork g v k n)); precedes = tt }

  kid_next : (t : Level) (w : List X) (j n : Forest X) → Rows (fork t w j n) → KidAt g v k n → KidAt g v k (fork t w j n)
  kid_next t w j n r c =
      record {
        before = fork t w j c.before;
        next = c.next;
        is = rw (beside_node t w j c.before (fork g v k c.next)) (ap (fork t w j) c.is);
        precedes = ((over_back t c.before (fork g v k c.next) (rw c.is at r.0)).0, c.precedes);
      }

  pub kid_at : (F : Forest X) → Rows F → kid g F ≡ hit v k → KidAt g v k F
  unfolding kid
  kid_at leaf r e = absurd (miss_hit e)
  kid_at (fork t w j n) r e = go (same g t) refl e (kid_at n r.2)
    where
      go : (b : Bool) → same g t ≡ b → cond b (hit w j) (kid g n) ≡ hit v k → (kid g n ≡ hit v k → KidAt g v k n) → KidAt g v k (fork t w j n)
      go true p q f =
          let a : g ≡ t = level_order.eq_true g t p in
          let b : w ≡ v = cc in
          let c : j ≡ k = cc in
          rw (← a, b, c) (kid-first n)
      go false p q f = kid_next t w j n r (f q)

seek-first : {X : Type 0} (g : Level) (at : ℕ) (v : List X) (k n : Forest X) → seek_at g at (fork g v k n) ≡ at
unfolding seek_at
seek-first g at v k n = rw (level_order.irrefl g)

-- a child that was found in a forest that stands: what it holds and its children are the forest's, and it stands from the unit i
-- up to the unit p, its children from the unit e on
pub record FoundIn {X : Type 0} (u : Form X) (base : ℕ) (s : List ℕ) (g : Level) (d lo hi : ℕ) (F : Forest X) (i e p : ℕ) : Type 0 where
  pub own : List X
  pub kids : Forest X
  pub found : kid g F ≡ hit own kids
  pub place : seek_at g lo F ≡ i
  pub end : e ≡ i + row_units g own
  pub past : p ≡ e + units_f kids
  pub within : p ≤ hi
  pub node : Stands u.write u.Small base s d i p (fork g own kids leaf)
  pub below : Stands u.write u.Small base s (d + 1) e p kids

-- a child that is not there, and where it would go
pub record MissedIn {X : Type 0} (g : Level) (lo : ℕ) (F : Forest X) (i : ℕ) : Type 0 where
  pub missed : kid g F ≡ miss
  pub place : seek_at g lo F ≡ i

same_child : {c d : Child} → ◌≡◌ {A = Result Child ℕ} (Ok c) (Ok d) → c ≡ d
same_child e = cc

abbrev ByHit : {X : Type 0} → Level → ℕ → Forest X → Hit X → Result Child ℕ
ByHit g lo F h = on_hit h (Err (seek_at g lo F)) (λ v k. child_at (seek_at g lo F) (seek_at g lo F + row_units g v) (seek_at g lo F + row_units g v + units_f k))

module _ {X : Type 0} (u : Form X) (base : ℕ) (s : List ℕ) (g : Level) (d lo hi : ℕ) (F : Forest X) (w : Stands u.write u.Small base s d lo hi F) where
  module _ (own : List X) (k : Forest X) (e : kid g F ≡ hit own k) where
    c : KidAt g own k F
    c = kid_at g own k F w.rows e

    place_is : seek_at g lo F ≡ lo + units_f c.before
    place_is = ap (seek_at g lo) c.is ∙ seek_behind g lo c.before (fork g own k c.next) c.precedes ∙ seek-first g (lo + units_f c.before) own k c.next

    back : Stands u.write u.Small base s d (seek_at g lo F) hi (fork g own k c.next)
    back = stands_back u base s d lo hi c.before (fork g own k c.next) (rw c.is at w) (seek_at g lo F) place_is

    alone : Stands u.write u.Small base s d (seek_at g lo F) (seek_at g lo F + row_units g own + units_f k) (fork g own k leaf)
    unfolding beside units_f
    alone = stands_front u base s d (seek_at g lo F) hi (fork g own k leaf) c.next back (seek_at g lo F + row_units g own + units_f k) (omega arith)

    pub found-kid : FoundIn u base s g d lo hi F (seek_at g lo F) (seek_at g lo F + row_units g own) (seek_at g lo F + row_units g own + units_f k)
    found-kid =
        record {
          own = own;
          kids = k;
          found = e;
          place = refl;
          end = refl;
          past = refl;
          within = omega (arith, back.size, fork_units g own k c.next);
          node = alone;
          below = stands_kids u base s d (seek_at g lo F) hi g own k c.next back;
        }

  pub found_in : (i e p : ℕ) → child_at i e p ≡ child_of g lo F → FoundIn u base s g d lo hi F i e p
  unfolding child_of
  found_in i e p q = go (kid g F) refl q
    where
      go : (h : Hit X) → kid g F ≡ h → child_at i e p ≡ ByHit g lo F h → FoundIn u base s g d lo hi F i e p
      go miss h z = let y : ◌≡◌ {A = ℕ} 0 1 = cc in absurd (omega arith)
      go (hit v k) h z =
          let y = same_child z in
          let a : i ≡ seek_at g lo F = ap (λ (c : Child). c.node) y in
          let b : e ≡ seek_at g lo F + row_units g v = ap (λ (c : Child). c.end) y in
          let c : p ≡ seek_at g lo F + row_units g v + units_f k = ap (λ (c : Child). c.past) y in
          rw (a, b, c) (found-kid v k h)

pub missed_in : {X : Type 0} (g : Level) (lo : ℕ) (F : Forest X) (i : ℕ) → Err i ≡ child_of g lo F → MissedIn g lo F i
unfolding child_of
missed_in {X} g lo F i q = go (kid g F) refl q
  where
    go : (h : Hit X) → kid g F ≡ h → Err i ≡ ByHit g lo F h → MissedIn g lo F i
    go miss h z = record { missed = h; place = let y : i ≡ seek_at g lo F = cc in sym y }
    go (hit v k) h z = let y : ◌≡◌ {A = ℕ} 0 1 = cc in absurd (omega arith)

-- in the raw forest: its children are the raw forest there
pub record FoundAt (base : ℕ) (s : List ℕ) (g : Level) (d lo hi i e p : ℕ) : Type 0 where
  pub own : List (List ℕ)
  pub found : kid g (raw_in base s lo hi) ≡ hit own (raw_in base s e p)
  pub place : seek_at g lo (raw_in base s lo hi) ≡ i
  pub end : e ≡ i + row_units g own
  pub within : p ≤ hi
  pub node : Stands whole Whole base s d i p (fork g own (raw_in base s e p) leaf)
  pub kids : RawStands base s (d + 1) e p

pub found_at : (base : ℕ) (s : List ℕ) (g : Level) (d lo hi : ℕ) → RawStands base s d lo hi → (i e p : ℕ) → child_at i e p ≡ child_of g lo (raw_in base s lo hi) → FoundAt base s g d lo hi i e p
found_at base s g d lo hi w i e p q =
    let f = found_in wholes base s g d lo hi (raw_in base s lo hi) w i e p q in
    let z : raw_in base s e p ≡ f.kids = stands_read wholes base s (d + 1) e p f.kids f.below in
    record { own = f.own; found = rw z f.found; place = f.place; end = f.end; within = f.within; node = rw z f.node; kids = rw z f.below }
