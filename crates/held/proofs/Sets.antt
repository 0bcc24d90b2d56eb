-- Laws of ascending lists of keys alone, which are sets. Assumes nothing.
use mathlib.Core.Path.{◌≡◌, refl, sym, ap, ◌∙◌}
use mathlib.Core.Bool.{Bool, true, false, cond, ◌&&◌, ◌||◌}
use mathlib.Core.List.{List, [], ◌∷◌}
use mathlib.Core.Option.{Option, none, some}
use Rattle.held.specs.Ascending.{member, find, keep, Asc, put, sort}
use Rattle.held.proofs.Orders.{Order}
use Rattle.held.proofs.Stores.{is_some, find-put, find-sort, find-keep, asc-keep, asc-put, asc-sort, ext}

module _ {K : Type 0} {eq lt : K → K → Bool} (o : Order eq lt) where
  -- a set is a store whose values say nothing
  abbrev nothing : K → Unit {0}
  nothing p = tt

  abbrev found : K → List K → Option (Unit {0})
  found p h = find eq (λ q. q) nothing p h

  member_found : (p : K) (h : List K) → found p h ≡ cond (member eq p h) (some tt) none
  member_found p [] = refl
  member_found p (q ∷ h) = go (eq p q) (member_found p h)
    where
      go : (t : Bool) → found p h ≡ cond (member eq p h) (some tt) none → cond t (some tt) (found p h) ≡ cond (t || member eq p h) (some tt) none
      go true e = refl
      go false e = e

  found-member : (p : K) (h : List K) → member eq p h ≡ is_some (found p h)
  found-member p h = sym (ap is_some (member_found p h) ∙ go (member eq p h))
    where
      go : (t : Bool) → is_some {W = Unit {0}} (cond t (some tt) none) ≡ t
      go true = refl
      go false = refl

  pub member-put : (p q : K) (h : List K) → member eq p (put lt (λ k. k) q h) ≡ (eq p q || member eq p h)
  member-put p q h =
      found-member p (put lt (λ k. k) q h) ∙ ap is_some (find-put (λ q. q) nothing o p q h ∙ ap (λ (w : Option (Unit {0})). cond (eq p q) (some tt) w) (member_found p h))
      ∙ go (eq p q) (member eq p h)
    where
      go : (s t : Bool) → is_some {W = Unit {0}} (cond s (some tt) (cond t (some tt) none)) ≡ (s || t)
      go true t = refl
      go false true = refl
      go false false = refl

  pub member-keep : (q : K → Bool) (p : K) (h : List K) → member eq p (keep q h) ≡ (q p && member eq p h)
  member-keep q p h =
      found-member p (keep q h) ∙ ap is_some (find-keep (λ q. q) nothing o q p h ∙ ap (λ (w : Option (Unit {0})). cond (q p) w none) (member_found p h))
      ∙ go (q p) (member eq p h)
    where
      go : (s t : Bool) → is_some {W = Unit {0}} (cond s (cond t (some tt) none) none) ≡ (s && t)
      go true true = refl
      go true false = refl
      go false t = refl

  pub member-sort : (p : K) (l : List K) → member eq p (sort lt (λ k. k) l) ≡ member eq p l
  member-sort p l = found-member p (sort lt (λ k. k) l) ∙ ap is_some (find-sort (λ q. q) nothing o p l) ∙ sym (found-member p l)

  pub set-put : (p : K) (h : List K) → Asc lt (λ k. k) h → Asc lt (λ k. k) (put lt (λ k. k) p h)
  set-put p h c = asc-put (λ q. q) nothing o p h c

  pub set-keep : (q : K → Bool) (h : List K) → Asc lt (λ k. k) h → Asc lt (λ k. k) (keep q h)
  set-keep q h c = asc-keep (λ q. q) nothing o q h c

  pub set-sort : (l : List K) → Asc lt (λ k. k) (sort lt (λ k. k) l)
  set-sort l = asc-sort (λ q. q) nothing o l

  -- equal membership, equal lists
  pub set_ext : (h g : List K) → Asc lt (λ k. k) h → Asc lt (λ k. k) g → ((p : K) → member eq p h ≡ member eq p g) → h ≡ g
  set_ext h g a b e =
      ext (λ q. q) nothing o (λ p q i j. i) h g a b
      (λ p. member_found p h ∙ ap (λ (t : Bool). cond t (some tt) none) (e p) ∙ sym (member_found p g))
