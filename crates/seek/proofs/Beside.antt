-- A row of siblings in two parts, one behind the other: its units, its bytes, its marks, its order, and a search in it. Assumes nothing.
use mathlib.Core.Path.{◌≡◌, refl, sym, ap, ◌∙◌}
use mathlib.Core.Bool.{true}
use mathlib.Core.List.{List, ◌++◌, append_assoc}
use Prim.Native.Nat.{ℕ, ◌+◌}
use native.Mathlib.Nat.{zero-add, add-zero}
use native.Mathlib.Omega.{arith}
use Rattle.held.specs.Order.{Level, level_lt}
use Rattle.held.specs.Forest.{Forest, leaf, fork, Over, Rows}
use Rattle.held.specs.Walks.{kid}
use Rattle.held.proofs.Orders.{asym, eq_higher, level_order}
use Rattle.held.proofs.Walks.{kid_over}
use Rattle.region.specs.Layout.{row_units, units_f, unit_bytes, marks_of}
use Rattle.region.specs.Forms.{Fits, leaf_fits, fork_fits}
use Rattle.forest.specs.Paths.{seek_at}
use Rattle.seek.specs.Child.{child_of}

module _ {X : Type 0} where
  unfoldable pub beside : Forest X → Forest X → Forest X
  beside leaf G = G
  beside (fork t v k n) G = fork t v k (beside n G)

  pub beside_node : (t : Level) (v : List X) (k n G : Forest X) → beside (fork t v k n) G ≡ fork t v k (beside n G)
  unfolding beside
  beside_node t v k n G = refl

  pub beside_none : (G : Forest X) → beside leaf G ≡ G
  unfolding beside
  beside_none G = refl

  pub beside_assoc : (P Q G : Forest X) → beside P (beside Q G) ≡ beside (beside P Q) G
  unfolding beside
  beside_assoc leaf Q G = refl
  beside_assoc (fork t v k n) Q G = ap (fork t v k) (beside_assoc n Q G)

  pub units_beside : (P G : Forest X) → units_f (beside P G) ≡ units_f P + units_f G
  unfolding beside units_f
  units_beside leaf G = sym (zero-add (units_f G))
  units_beside (fork t v k n) G = rw (units_beside n G) (omega arith)

  pub bytes_beside : (write : X → List ℕ) (P G : Forest X) → unit_bytes write (beside P G) ≡ unit_bytes write P ++ unit_bytes write G
  unfolding beside unit_bytes
  bytes_beside write leaf G = refl
  bytes_beside write (fork t v k n) G = rw (bytes_beside write n G) (simp append_assoc)

  pub marks_beside : (d : ℕ) (P G : Forest X) → marks_of d (beside P G) ≡ marks_of d P ++ marks_of d G
  unfolding beside marks_of
  marks_beside d leaf G = refl
  marks_beside d (fork t v k n) G = rw (marks_beside d n G) (simp append_assoc)

  pub fits_front : (Small : X → Type 0) (P G : Forest X) → Fits Small (beside P G) → Fits Small P
  unfolding beside
  fits_front Small leaf G f = leaf_fits
  fits_front Small (fork t v k n) G (fork_fits a b c e f g) = fork_fits a b c e f (fits_front Small n G g)

  pub fits_back : (Small : X → Type 0) (P G : Forest X) → Fits Small (beside P G) → Fits Small G
  unfolding beside
  fits_back Small leaf G f = f
  fits_back Small (fork t v k n) G (fork_fits a b c e f g) = fits_back Small n G g

  over_front : (t : Level) (P G : Forest X) → Over t (beside P G) → Over t P
  unfolding beside
  over_front t leaf G o = tt
  over_front t (fork u v k n) G o = (o.0, over_front t n G o.1)

  pub over_back : (t : Level) (P G : Forest X) → Over t (beside P G) → Over t G
  unfolding beside
  over_back t leaf G o = o
  over_back t (fork u v k n) G o = over_back t n G o.1

  pub rows_front : (P G : Forest X) → Rows (beside P G) → Rows P
  unfolding beside
  rows_front leaf G r = tt
  rows_front (fork t v k n) G r = (over_front t n G r.0, r.1, rows_front n G r.2)

  pub rows_back : (P G : Forest X) → Rows (beside P G) → Rows G
  unfolding beside
  rows_back leaf G r = r
  rows_back (fork t v k n) G r = rows_back n G r.2

  -- the levels of a row come before g
  abbrev pub Precede : Level → Forest X → Type 0
  Precede g leaf = Unit {0}
  Precede g (fork t v k n) = (level_lt t g ≡ true) × Precede g n

  pub precede-first : (P : Forest X) (t : Level) (v : List X) (k n : Forest X) → Rows (beside P (fork t v k n)) → Precede t P
  unfolding beside
  precede-first leaf t v k n r = tt
  precede-first (fork u w j m) t v k n r = ((over_back u m (fork t v k n) r.0).0, precede-first m t v k n r.2)

  pub precede-less : (a b : Level) (P : Forest X) → level_lt a b ≡ true → Precede a P → Precede b P
  precede-less a b leaf p u = tt
  precede-less a b (fork t v k n) p u = (level_order.trans t a b u.0 p, precede-less a b n p u.1)

  pub precede_node : (g : Level) (P : Forest X) (t : Level) (v : List X) (k : Forest X) → Precede g P → level_lt t g ≡ true → Precede g (beside P (fork t v k leaf))
  unfolding beside
  precede_node g leaf t v k u p = (p, tt)
  precede_node g (fork w x y z) t v k u p = (u.0, precede_node g z t v k u.1 p)

  -- the search passes what comes before
  pub seek_behind : (g : Level) (at : ℕ) (P G : Forest X) → Precede g P → seek_at g at (beside P G) ≡ seek_at g (at + units_f P) G
  unfolding beside seek_at units_f
  seek_behind g at leaf G u = rw add-zero
  seek_behind g at (fork t v k n) G u =
      let e : at + (row_units t v + units_f k) + units_f n ≡ at + (row_units t v + (units_f k + units_f n)) = omega arith in
      rw u.0 (seek_behind g (at + (row_units t v + units_f k)) n G u.1 ∙ rw e)

  kid_behind : (g : Level) (P G : Forest X) → Precede g P → kid g (beside P G) ≡ kid g G
  unfolding beside kid
  kid_behind g leaf G u = refl
  kid_behind g (fork t v k n) G u = rw (eq_higher level_order g t u.0) (kid_behind g n G u.1)

  -- and ends before what comes after
  seek_here : (g : Level) (at : ℕ) (G : Forest X) → Over g G → seek_at g at G ≡ at
  unfolding seek_at
  seek_here g at leaf o = refl
  seek_here g at (fork t v k n) o = rw (asym level_order g t o.0)

  seek_over : (g : Level) (at : ℕ) (P G : Forest X) → Over g G → seek_at g at (beside P G) ≡ seek_at g at P
  unfolding beside seek_at
  seek_over g at leaf G o = seek_here g at G o
  seek_over g at (fork t v k n) G o = rw (seek_over g (at + (row_units t v + units_f k)) n G o)

  kid_before : (g : Level) (P G : Forest X) → Over g G → kid g (beside P G) ≡ kid g P
  unfolding beside kid
  kid_before g leaf G o = kid_over g G o
  kid_before g (fork t v k n) G o = rw (kid_before g n G o)

  pub child_behind : (g : Level) (at : ℕ) (P G : Forest X) → Precede g P → child_of g at (beside P G) ≡ child_of g (at + units_f P) G
  unfolding child_of
  child_behind g at P G u = rw (seek_behind g at P G u, kid_behind g P G u)

  pub child_over : (g : Level) (at : ℕ) (P G : Forest X) → Over g G → child_of g at (beside P G) ≡ child_of g at P
  unfolding child_of
  child_over g at P G o = rw (seek_over g at P G o, kid_before g P G o)
