-- The orders are orders. Assumes nothing.
use mathlib.Core.Path.{◌≡◌, refl, sym, ap, ◌∙◌}
use Prim.Native.Nat.{ℕ}
use mathlib.Core.Bool.{Bool, true, false, not, ◌&&◌, ◌||◌, true≢false}
use mathlib.Core.List.{List, [], ◌∷◌}
use mathlib.Core.Logic.{◌⊎◌, inl, inr, ⊎_elim}
use borrow.Author.Tests.{eq-eqb, eqb-true, ltb-true, ltb-false, lt-ltb, le-ltb}
use lib.Dec.{eqb, ltb}
use native.Mathlib.Omega.{arith}
use Rattle.level.specs.Kinds.{same}
use Rattle.held.specs.Order.{Level, Filter, equal, same_filter, lex, level_lt, filter_lt, first_by, same_pair, pair_lt, rank, rank_lt, listing_lt}

-- the laws of a strict order that can be tested, and of its equality
pub record Order {K : Type 0} (eq lt : K → K → Bool) : Type 0 where
  pub eq_refl : (a : K) → eq a a ≡ true
  pub eq_true : (a b : K) → eq a b ≡ true → a ≡ b
  pub irrefl : (a : K) → lt a a ≡ false
  pub trans : (a b c : K) → lt a b ≡ true → lt b c ≡ true → lt a c ≡ true
  pub total : (a b : K) → lt a b ≡ false → lt b a ≡ false → a ≡ b

pub and_left : (a b : Bool) → (a && b) ≡ true → a ≡ true
and_left true b e = refl
and_left false b e = e

pub and_right : (a b : Bool) → (a && b) ≡ true → b ≡ true
and_right true b e = e
and_right false b e = absurd (true≢false (sym e))

pub and_both : (a b : Bool) → a ≡ true → b ≡ true → (a && b) ≡ true
and_both a b p q = rw (p, q)

pub data Tri {K : Type 0} (lt : K → K → Bool) (a b : K) : Type 0 where
  lower : lt a b ≡ true → lt b a ≡ false → Tri lt a b
  alike : a ≡ b → Tri lt a b
  higher : lt a b ≡ false → lt b a ≡ true → Tri lt a b

module _ {K : Type 0} {eq lt : K → K → Bool} (o : Order eq lt) where
  pub asym : (a b : K) → lt a b ≡ true → lt b a ≡ false
  asym a b p = go (lt b a) refl
    where
      go : (t : Bool) → lt b a ≡ t → t ≡ false
      go true q = absurd (true≢false (sym (o.trans a b a p q) ∙ o.irrefl a))
      go false q = refl

  pub tri : (a b : K) → Tri lt a b
  tri a b = go (lt a b) (lt b a) refl refl
    where
      go : (s t : Bool) → lt a b ≡ s → lt b a ≡ t → Tri lt a b
      go true t p q = lower p (asym a b p)
      go false true p q = higher p q
      go false false p q = alike (o.total a b p q)

  pub eq-same : (a b : K) → a ≡ b → eq a b ≡ true
  eq-same a b p = rw p (o.eq_refl b)

  pub eq_lower : (a b : K) → lt a b ≡ true → eq a b ≡ false
  eq_lower a b p = go (eq a b) refl
    where
      go : (t : Bool) → eq a b ≡ t → t ≡ false
      go true q = let z : a ≡ b = o.eq_true a b q in absurd (true≢false (sym p ∙ rw z (o.irrefl b)))
      go false q = refl

  pub eq_higher : (a b : K) → lt b a ≡ true → eq a b ≡ false
  eq_higher a b p = go (eq a b) refl
    where
      go : (t : Bool) → eq a b ≡ t → t ≡ false
      go true q = let z : a ≡ b = o.eq_true a b q in absurd (true≢false (sym p ∙ rw z (o.irrefl b)))
      go false q = refl

pub same_sym : {K : Type 0} {eq lt : K → K → Bool} (o : Order eq lt) (a b : K) (t : Bool) → eq a b ≡ t → eq b a ≡ t
same_sym o a b true e = let z : a ≡ b = o.eq_true a b e in rw z (o.eq_refl b)
same_sym {K} {eq} o a b false e = go (eq b a) refl
  where
    go : (t : Bool) → eq b a ≡ t → t ≡ false
    go true q = let z : b ≡ a = o.eq_true b a q in absurd (true≢false (sym (o.eq_refl a) ∙ rw z at e))
    go false q = refl

split-or : (p q r : Bool) → (p || (not q && r)) ≡ true → (p ≡ true) ⊎ ((p ≡ false) × (q ≡ false) × (r ≡ true))
split-or true q r e = inl refl
split-or false true r e = absurd (true≢false (sym e))
split-or false false r e = inr (refl, refl, e)

not-or : (p q r s : Bool) → (p || (not q && r)) ≡ false → (q || (not p && s)) ≡ false → (p ≡ false) × (q ≡ false) × (r ≡ false) × (s ≡ false)
not-or true q r s e d = absurd (true≢false e)
not-or false true r s e d = absurd (true≢false d)
not-or false false r s e d = (refl, refl, e, d)

-- by f, then by lt, which need decide only where f does not
module _ {A B : Type 0} {eq : A → A → Bool} {eqB ltB : B → B → Bool} (f : A → B) (lt : A → A → Bool) (o : Order eqB ltB)
    (eq_refl : (a : A) → eq a a ≡ true)
    (eq_true : (a b : A) → eq a b ≡ true → a ≡ b)
    (irrefl : (a : A) → lt a a ≡ false)
    (trans : (a b c : A) → lt a b ≡ true → lt b c ≡ true → lt a c ≡ true)
    (total : (a b : A) → f a ≡ f b → lt a b ≡ false → lt b a ≡ false → a ≡ b) where
  by_first : (a b : A) → ltB (f a) (f b) ≡ true → first_by ltB f lt a b ≡ true
  by_first a b p = rw p

  by_then : (a b : A) → f a ≡ f b → lt a b ≡ true → first_by ltB f lt a b ≡ true
  by_then a b p q = rw (p, o.irrefl (f b), q)

  parts : (a b : A) → first_by ltB f lt a b ≡ true → (ltB (f a) (f b) ≡ true) ⊎ ((f a ≡ f b) × (lt a b ≡ true))
  parts a b e =
      ⊎_elim inl (λ h. inr (o.total (f a) (f b) h.0 h.1, h.2))
      (split-or (ltB (f a) (f b)) (ltB (f b) (f a)) (lt a b) e)

  pub first_order : Order eq (first_by ltB f lt)
  first_order =
      record {
        eq_refl = eq_refl;
        eq_true = eq_true;
        irrefl = λ a. rw (o.irrefl (f a)) (irrefl a);
        trans = λ a b c p q.
            ⊎_elim
            (λ h. ⊎_elim (λ g. by_first a c (o.trans (f a) (f b) (f c) h g)) (λ g. by_first a c (rw g.0 at h)) (parts b c q))
            (λ h. ⊎_elim (λ g. by_first a c (rw h.0 g)) (λ g. by_then a c (h.0 ∙ g.0) (trans a b c h.1 g.1)) (parts b c q))
            (parts a b p);
        total = λ a b p q.
            let n = not-or (ltB (f a) (f b)) (ltB (f b) (f a)) (lt a b) (lt b a) p q in
            total a b (o.total (f a) (f b) n.0 n.1) n.2 n.3;
      }

module _ {A : Type 0} {eq lt : A → A → Bool} (o : Order eq lt) where
  equal_refl : (a : List A) → equal eq a a ≡ true
  equal_refl [] = refl
  equal_refl (x ∷ a) = rw (o.eq_refl x) (equal_refl a)

  equal_true : (a b : List A) → equal eq a b ≡ true → a ≡ b
  equal_true [] [] e = refl
  equal_true [] (y ∷ b) e = absurd (true≢false (sym e))
  equal_true (x ∷ a) [] e = absurd (true≢false (sym e))
  equal_true (x ∷ a) (y ∷ b) e =
      let p : x ≡ y = o.eq_true x y (and_left (eq x y) (equal eq a b) e) in
      let q : a ≡ b = equal_true a b (and_right (eq x y) (equal eq a b) e) in
      cc

  lex_irrefl : (a : List A) → lex lt a a ≡ false
  lex_irrefl [] = refl
  lex_irrefl (x ∷ a) = rw (o.irrefl x) (lex_irrefl a)

  pub lex_head : (x y : A) (a b : List A) → lt x y ≡ true → lex lt (x ∷ a) (y ∷ b) ≡ true
  lex_head x y a b p = rw p

  pub lex-tail : (x y : A) (a b : List A) → x ≡ y → lex lt a b ≡ true → lex lt (x ∷ a) (y ∷ b) ≡ true
  lex-tail x y a b p q = rw (p, o.irrefl y) q

  pub lex_parts : (x y : A) (a b : List A) → lex lt (x ∷ a) (y ∷ b) ≡ true → (lt x y ≡ true) ⊎ ((x ≡ y) × (lex lt a b ≡ true))
  lex_parts x y a b e = ⊎_elim inl (λ h. inr (o.total x y h.0 h.1, h.2)) (split-or (lt x y) (lt y x) (lex lt a b) e)

  lex_trans : (a b c : List A) → lex lt a b ≡ true → lex lt b c ≡ true → lex lt a c ≡ true
  lex_trans [] [] c p q = q
  lex_trans [] (y ∷ b) [] p q = q
  lex_trans [] (y ∷ b) (z ∷ c) p q = refl
  lex_trans (x ∷ a) [] c p q = absurd (true≢false (sym p))
  lex_trans (x ∷ a) (y ∷ b) [] p q = absurd (true≢false (sym q))
  lex_trans (x ∷ a) (y ∷ b) (z ∷ c) p q =
      ⊎_elim
      (λ h. ⊎_elim (λ g. lex_head x z a c (o.trans x y z h g)) (λ g. lex_head x z a c (rw g.0 at h)) (lex_parts y z b c q))
      (λ h. ⊎_elim (λ g. lex_head x z a c (rw h.0 g)) (λ g. lex-tail x z a c (h.0 ∙ g.0) (lex_trans a b c h.1 g.1)) (lex_parts y z b c q))
      (lex_parts x y a b p)

  lex_total : (a b : List A) → lex lt a b ≡ false → lex lt b a ≡ false → a ≡ b
  lex_total [] [] p q = refl
  lex_total [] (y ∷ b) p q = absurd (true≢false p)
  lex_total (x ∷ a) [] p q = absurd (true≢false q)
  lex_total (x ∷ a) (y ∷ b) p q =
      let n = not-or (lt x y) (lt y x) (lex lt a b) (lex lt b a) p q in
      let h : x ≡ y = o.total x y n.0 n.1 in
      let t : a ≡ b = lex_total a b n.2 n.3 in
      cc

  pub lex_order : Order (equal eq) (lex lt)
  lex_order = record { eq_refl = equal_refl; eq_true = equal_true; irrefl = lex_irrefl; trans = lex_trans; total = lex_total }

pub byte_order : Order eqb ltb
byte_order =
    record {
      eq_refl = λ a. eq-eqb a a refl;
      eq_true = eqb-true;
      irrefl = λ a. le-ltb a a (omega arith);
      trans = λ a b c p q. lt-ltb a c (omega (arith, ltb-true a b p, ltb-true b c q));
      total = λ a b p q. omega (arith, ltb-false a b p, ltb-false b a q);
    }

-- `same` is the equality of bytes
same-equal : (a b : Level) → same a b ≡ equal eqb a b
same-equal [] [] = refl
same-equal [] (y ∷ b) = refl
same-equal (x ∷ a) [] = refl
same-equal (x ∷ a) (y ∷ b) = ap (λ (t : Bool). eqb x y && t) (same-equal a b)

pub level_order : Order same level_lt
level_order =
    record {
      eq_refl = λ a. same-equal a a ∙ equal_refl byte_order a;
      eq_true = λ a b e. equal_true byte_order a b (sym (same-equal a b) ∙ e);
      irrefl = lex_irrefl byte_order;
      trans = lex_trans byte_order;
      total = lex_total byte_order;
    }

pub filter_order : Order same_filter filter_lt
filter_order = lex_order level_order

pub rank_order : Order same rank_lt
rank_order =
    first_order rank level_lt byte_order level_order.eq_refl level_order.eq_true level_order.irrefl level_order.trans
    (λ a b h. level_order.total a b)

pub listing_order : Order same_filter listing_lt
listing_order = lex_order rank_order

pair_refl : (p : Filter × ℕ) → same_pair p p ≡ true
pair_refl p = rw (filter_order.eq_refl p.0) (byte_order.eq_refl p.1)

pair_eq : {A B : Type 0} (p q : A × B) → p.0 ≡ q.0 → p.1 ≡ q.1 → p ≡ q
pair_eq p q a b = λ i. (a i, b i)

pub pair_order : Order same_pair pair_lt
pair_order =
    first_order (λ p. p.0) (λ p q. ltb p.1 q.1) filter_order pair_refl
    (λ p q e. pair_eq p q (filter_order.eq_true p.0 q.0 (and_left (same_filter p.0 q.0) (eqb p.1 q.1) e)) (eqb-true p.1 q.1 (and_right (same_filter p.0 q.0) (eqb p.1 q.1) e)))
    (λ p. byte_order.irrefl p.1)
    (λ p q r. byte_order.trans p.1 q.1 r.1)
    (λ p q e a b. pair_eq p q e (byte_order.total p.1 q.1 a b))
