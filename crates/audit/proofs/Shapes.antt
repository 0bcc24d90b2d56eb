-- The tests of a node's place in the forest: what it has, and what follows it in its row. Assumes nothing.
use mathlib.Core.Path.{◌≡◌, refl, sym, ap, subst, ◌∙◌}
use Prim.Native.Nat.{ℕ, suc, ◌≤◌, ◌<◌}
use mathlib.Core.Bool.{Bool, true, false, not, cond, ◌&&◌, ◌||◌, true≢false}
use mathlib.Core.Logic.{⊎_elim}
use mathlib.Core.List.{List, [], ◌∷◌}
use native.Mathlib.Omega.{arith}
use lib.Dec.{eqb}
use lib.ListN.{length}
use borrow.Author.Tests.{eqb-true, eq-eqb, ne_eqb, lt-ltb, le-ltb}
use Rattle.level.specs.Kinds.{blank, is_only}
use Rattle.lent.proofs.Anywhere.{lt-or_ge}
use Rattle.held.specs.Order.{Level}
use Rattle.held.specs.Forest.{Forest, leaf, fork}
use Rattle.held.proofs.Orders.{and_left, and_right}
use Rattle.region.specs.Layout.{units_f}
use Rattle.forest.specs.Places.{unit_at, forest_in, level_in}
use Rattle.forest.proofs.FirstRow.{forest-none, forest_some}
use Rattle.audit.specs.Tests.{past_at, shape_fine, follows, order_fine}
use Rattle.audit.specs.Fine.{Follows}

module _ {X : Type 0} where
  pub units_some : (l : Level) (v : List X) (k n : Forest X) → 0 < units_f (fork l v k n)
  unfolding units_f
  units_some l v k n = omega arith

  pub units-none : (F : Forest X) → units_f F ≡ 0 → F ≡ leaf
  units-none leaf e = refl
  units-none (fork l v k n) e = absurd (omega (arith, units_some l v k n))

  pub none_units : (F : Forest X) → F ≡ leaf → units_f F ≡ 0
  unfolding units_f
  none_units F e = rw e

  -- what a node has
  module _ (d : ℕ) (l : Level) (v : List X) (k : Forest X) where
    own-part : Bool
    own-part = cond (eqb (length v) 0) (not (eqb (units_f k) 0)) (not (eqb d 1 && blank l))

    kids-part : Bool
    kids-part = not (is_only 35 l) || eqb (units_f k) 0

    full_yes : own-part ≡ true → v ≡ [] → k ≡ leaf → ⊥
    unfolding own-part
    full_yes e p q =
        let a : eqb (length v) 0 ≡ true = eq-eqb (length v) 0 (ap length p) in
        let b : eqb (units_f k) 0 ≡ true = eq-eqb (units_f k) 0 (none_units k q) in
        true≢false (sym (rw (a, b) at e))

    ends_yes : kids-part ≡ true → is_only 35 l ≡ true → k ≡ leaf
    unfolding kids-part
    ends_yes e p = units-none k (eqb-true (units_f k) 0 (rw p at e))

    begins_yes : own-part ≡ true → d ≡ 1 → l ≡ [] → v ≡ []
    unfolding own-part
    begins_yes e p q = go v e
      where
        go : (v : List X) → cond (eqb (length v) 0) (not (eqb (units_f k) 0)) (not (eqb d 1 && blank l)) ≡ true → v ≡ []
        go [] e = refl
        go (x ∷ v) e =
            let a : eqb (suc (length v)) 0 ≡ false = ne_eqb (suc (length v)) 0 (λ z. omega (arith, z)) in
            let b : eqb d 1 ≡ true = eq-eqb d 1 p in
            absurd (true≢false (sym (rw (a, b, q) at e)))

    own_no : (v ≡ [] → k ≡ leaf → ⊥) → (d ≡ 1 → l ≡ [] → v ≡ []) → own-part ≡ true
    unfolding own-part
    own_no f g = go v k f g
      where
        first : (x : X) (v : List X) (t b : Bool) → eqb d 1 ≡ t → blank l ≡ b → (d ≡ 1 → l ≡ [] → x ∷ v ≡ []) → not (t && b) ≡ true
        first x v true true p q g = absurd (never (g (eqb-true d 1 p) (is-blank l q)))
          where
            never : x ∷ v ≡ [] → ⊥
            never z = let y : ◌≡◌ {A = ℕ} 0 1 = cc in omega arith

            is-blank : (l : Level) → blank l ≡ true → l ≡ []
            is-blank [] q = refl
            is-blank (y ∷ l) q = absurd (true≢false (sym q))
        first x v true false p q g = refl
        first x v false b p q g = refl

        go : (v : List X) (k : Forest X) → (v ≡ [] → k ≡ leaf → ⊥) → (d ≡ 1 → l ≡ [] → v ≡ []) → cond (eqb (length v) 0) (not (eqb (units_f k) 0)) (not (eqb d 1 && blank l)) ≡ true
        go [] leaf f g = absurd (f refl refl)
        go [] (fork t w j m) f g =
            let a : eqb (units_f (fork t w j m)) 0 ≡ false = ne_eqb (units_f (fork t w j m)) 0 (λ z. omega (arith, z, units_some t w j m)) in
            rw a
        go (x ∷ v) k f g =
            let a : eqb (suc (length v)) 0 ≡ false = ne_eqb (suc (length v)) 0 (λ z. omega (arith, z)) in
            rw a (first x v (eqb d 1) (blank l) refl refl g)

    kids_no : (is_only 35 l ≡ true → k ≡ leaf) → kids-part ≡ true
    unfolding kids-part
    kids_no f = go (is_only 35 l) f
      where
        go : (t : Bool) → (t ≡ true → k ≡ leaf) → (not t || eqb (units_f k) 0) ≡ true
        go true f = eq-eqb (units_f k) 0 (none_units k (f refl))
        go false f = refl

    module _ {own below : ℕ} (eo : own ≡ length v) (eb : below ≡ units_f k) where
      shape-eq : shape_fine d l own below ≡ (own-part && kids-part)
      unfolding shape_fine own-part kids-part
      shape-eq = rw (eo, eb)

      pub shape_yes : shape_fine d l own below ≡ true → (v ≡ [] → k ≡ leaf → ⊥) × (is_only 35 l ≡ true → k ≡ leaf) × (d ≡ 1 → l ≡ [] → v ≡ [])
      shape_yes e =
          let p = and_left own-part kids-part (sym shape-eq ∙ e) in
          (full_yes p, ends_yes (and_right own-part kids-part (sym shape-eq ∙ e)), begins_yes p)

      pub shape_no : (v ≡ [] → k ≡ leaf → ⊥) → (is_only 35 l ≡ true → k ≡ leaf) → (d ≡ 1 → l ≡ [] → v ≡ []) → shape_fine d l own below ≡ true
      shape_no f h g = shape-eq ∙ rw (own_no f g, kids_no h)

-- what follows a node in its row
module _ {X : Type 0} (read : List ℕ → X) (base : ℕ) (s : List ℕ) (i n : ℕ) (within : unit_at base n ≤ length s) where
  pub order_yes : order_fine base s i n ≡ true → Follows (level_in base s i n) (forest_in read base s (past_at base s i) n)
  unfolding follows
  order_yes e =
      ⊎_elim
      (λ (h : past_at base s i < n).
      subst (λ (F : Forest X). Follows (level_in base s i n) F) (sym (forest_some read base s (past_at base s i) n h within)) (rw (lt-ltb (past_at base s i) n h) at e))
      (λ (h : n ≤ past_at base s i).
      subst (λ (F : Forest X). Follows (level_in base s i n) F) (sym (forest-none read base s (past_at base s i) n h)) tt)
      (lt-or_ge (past_at base s i) n)

  pub order_no : Follows (level_in base s i n) (forest_in read base s (past_at base s i) n) → order_fine base s i n ≡ true
  unfolding follows
  order_no f =
      ⊎_elim
      (λ (h : past_at base s i < n).
      rw (lt-ltb (past_at base s i) n h) (subst (λ (F : Forest X). Follows (level_in base s i n) F) (forest_some read base s (past_at base s i) n h within) f))
      (λ (h : n ≤ past_at base s i). rw (le-ltb (past_at base s i) n h))
      (lt-or_ge (past_at base s i) n)
