-- A sibling of a row that stands, at the unit m: what stands before it and behind it, and where a child is found by its level. Assumes nothing.
use Rattle.std.specs.Prelude.{Result, Ok, Err}
use mathlib.Core.Path.{◌≡◌, sym, ◌∙◌}
use mathlib.Core.Bool.{true}
use mathlib.Core.List.{List}
use Prim.Native.Nat.{ℕ, ◌+◌, ◌≤◌, ◌<◌}
use native.Mathlib.Omega.{arith}
use Rattle.held.specs.Order.{Level, level_lt}
use Rattle.held.specs.Forest.{Forest, leaf, fork}
use Rattle.held.specs.Walks.{kid}
use Rattle.held.proofs.Orders.{level_order}
use Rattle.held.proofs.Edits.{over_mono}
use Rattle.region.specs.Layout.{row_units, units_f}
use Rattle.region.specs.Forms.{whole, Whole}
use Rattle.region.proofs.Instances.{wholes}
use Rattle.forest.specs.Places.{row_end, kids_end, level_in}
use Rattle.forest.specs.Stands.{Stands}
use Rattle.forest.specs.Paths.{seek_at}
use Rattle.forest.proofs.StandsLaws.{fork_units, stands_level, stands_end, stands_past, stands_next}
use Rattle.seek.specs.Child.{child_at, child_of}
use Rattle.seek.specs.Probe.{mark_at}
use Rattle.seek.proofs.Beside.{beside, beside_assoc, units_beside, Precede, precede-first, precede-less, precede_node, rows_back, child_behind, child_over}
use Rattle.seek.proofs.Parted.{stands_front, stands_back, cut_stands}

child_here : {X : Type 0} (g : Level) (at : ℕ) (t : Level) (v : List X) (k n : Forest X) → t ≡ g
    → child_of g at (fork t v k n) ≡ child_at at (at + row_units t v) (at + row_units t v + units_f k)
unfolding child_of seek_at kid
child_here g at t v k n e = rw (e, level_order.irrefl g, level_order.eq_refl g)

pub record Turn (base : ℕ) (s : List ℕ) (g : Level) (d a b m : ℕ) (F : Forest (List ℕ)) : Type 0 where
  pub before : Forest (List ℕ)
  pub behind : Forest (List ℕ)
  pub stands_before : Stands whole Whole base s d a m before
  pub stands_behind : Stands whole Whole base s d (kids_end base s m b) b behind
  pub less : level_lt (level_in base s m b) g ≡ true → child_of g (kids_end base s m b) behind ≡ child_of g a F
  pub greater : level_lt g (level_in base s m b) ≡ true → child_of g a before ≡ child_of g a F
  pub equal : level_in base s m b ≡ g → child_at m (row_end base s m b) (kids_end base s m b) ≡ child_of g a F

-- the row parted before it
module _ (base : ℕ) (s : List ℕ) (g : Level) (d a b m : ℕ) (F : Forest (List ℕ)) (w : Stands whole Whole base s d a b F)
    (P : Forest (List ℕ)) (t : Level) (v : List (List ℕ)) (k n : Forest (List ℕ)) (is : F ≡ beside P (fork t v k n)) (at : m ≡ a + units_f P) where
  parts : Stands whole Whole base s d a b (beside P (fork t v k n))
  parts = rw is at w

  back : Stands whole Whole base s d m b (fork t v k n)
  back = stands_back wholes base s d a b P (fork t v k n) parts m at

  fits : m + row_units t v + units_f k ≤ b
  fits = omega (arith, back.size, fork_units t v k n)

  level : level_in base s m b ≡ t
  level = stands_level wholes base s d m b t v k n back b (omega (arith, fits))

  end : row_end base s m b ≡ m + row_units t v
  end = stands_end wholes base s d m b t v k n back b (omega (arith, fits))

  past : kids_end base s m b ≡ m + row_units t v + units_f k
  past = stands_past wholes base s d m b t v k n back b fits

  precedes : Precede t P
  precedes = precede-first P t v k n parts.rows

  child-less : level_lt t g ≡ true → child_of g (m + row_units t v + units_f k) n ≡ child_of g a F
  unfolding units_f beside
  child-less p =
      let one = fork t v k leaf in
      let u : Precede g (beside P one) = precede_node g P t v k (precede-less t g P p precedes) p in
      let e : F ≡ beside (beside P one) n = is ∙ beside_assoc P one n in
      let q : a + units_f (beside P one) ≡ m + row_units t v + units_f k = omega (arith, at, units_beside P one) in
      rw (e, child_behind g a (beside P one) n u, q)

  child_greater : level_lt g t ≡ true → child_of g a P ≡ child_of g a F
  child_greater p =
      let r = rows_back P (fork t v k n) parts.rows in
      rw is (sym (child_over g a P (fork t v k n) (p, over_mono (λ v. v) g t n p r.0)))

  child-equal : t ≡ g → child_at m (m + row_units t v) (m + row_units t v + units_f k) ≡ child_of g a F
  child-equal e =
      let u : Precede g P = rw e at precedes in
      let q : a + units_f P ≡ m = sym at in
      rw (is, child_behind g a P (fork t v k n) u, q) (sym (child_here g m t v k n e))

  turn : Turn base s g d a b m F
  turn =
      record {
        before = P;
        behind = n;
        stands_before = stands_front wholes base s d a b P (fork t v k n) parts m at;
        stands_behind = rw past (stands_next wholes base s d m b t v k n back);
        less = rw (level, past) child-less;
        greater = rw level child_greater;
        equal = rw (level, end, past) child-equal;
      }

pub turn_at : (base : ℕ) (s : List ℕ) (g : Level) (d a b m : ℕ) (F : Forest (List ℕ)) → Stands whole Whole base s d a b F → d < 255 → a ≤ m → m < b → (a < m → mark_at s m ≤ d)
    → Turn base s g d a b m F
turn_at base s g d a b m F w h p q r =
    let c = cut_stands wholes base s d a b F w h m p q r in
    turn base s g d a b m F w c.before c.text c.own c.kids c.next c.is (omega (arith, c.at))
