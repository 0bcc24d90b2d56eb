-- How many entries are held after a change. Assumes nothing.
use mathlib.Core.Path.{◌≡◌, refl, sym, ap, ◌∙◌}
use Prim.Native.Nat.{ℕ, suc, ◌+◌}
use mathlib.Core.Bool.{Bool, true, false, not, cond, ◌||◌}
use mathlib.Core.List.{List, [], ◌∷◌, map}
use lib.ListN.{length, length-append, length-map}
use native.Mathlib.Omega.{arith}
use Rattle.held.specs.Order.{Level, Filter, same_pair}
use Rattle.held.specs.Ascending.{member, keep, Below, Asc, put}
use Rattle.held.specs.Room.{Room}
use Rattle.held.specs.Forest.{Forest, fork, held}
use Rattle.held.specs.Subscriptions.{Pair, AscPairs, is_held, insert_held, remove_held}
use Rattle.held.specs.Retained.{Stored, Named, AscNames, has_filter, set_held, erase_held, unexpired, sweep_held, sweep, retained}
use Rattle.held.proofs.Orders.{Order, Tri, lower, alike, higher, tri, eq_lower, eq_higher, filter_order, pair_order}
use Rattle.held.proofs.Stores.{below_mono}

-- an entry adds one to the length, unless its key is there
module _ {E K : Type 0} {eq lt : K → K → Bool} (key : E → K) (o : Order eq lt) where
  abbrev there : K → List E → Bool
  there k l = member eq k (map key l)

  not_there : (k : K) (l : List E) → Below lt key k l → there k l ≡ false
  not_there k [] h = refl
  not_there k (e ∷ l) h = rw (eq_lower o k (key e) h.0) (not_there k l h.1)

  length_step : (e x : E) (l : List E) → Asc lt key (x ∷ l) → length (put lt key e l) ≡ cond (there (key e) l) (length l) (suc (length l))
      → Tri lt (key e) (key x) → length (put lt key e (x ∷ l)) ≡ cond (there (key e) (x ∷ l)) (length (x ∷ l)) (suc (length (x ∷ l)))
  length_step e x l a ih (lower p q) =
      let n : there (key e) (x ∷ l) ≡ false = not_there (key e) (x ∷ l) (p, below_mono key key o (key e) (key x) l p a.0) in
      rw (p, n)
  length_step e x l a ih (alike z) =
      let p : lt (key e) (key x) ≡ false = rw z (o.irrefl (key x)) in
      let q : lt (key x) (key e) ≡ false = rw z (o.irrefl (key x)) in
      let f : eq (key e) (key x) ≡ true = rw z (o.eq_refl (key x)) in
      rw (p, q, f)
  length_step e x l a ih (higher p q) =
      let f : eq (key e) (key x) ≡ false = eq_higher o (key e) (key x) q in
      rw (p, q, f) (ap suc ih ∙ go (there (key e) l))
    where
      go : (t : Bool) → suc (cond t (length l) (suc (length l))) ≡ cond t (suc (length l)) (suc (suc (length l)))
      go true = refl
      go false = refl

  pub length-put : (e : E) (l : List E) → Asc lt key l → length (put lt key e l) ≡ cond (there (key e) l) (length l) (suc (length l))
  length-put e [] a = refl
  length-put e (x ∷ l) a = length_step e x l a (length-put e l a.1) (tri o (key e) (key x))

  -- and a removed one takes one from it, if it is there
  all_kept : (k : K) (l : List E) → Below lt key k l → keep (λ e. not (eq k (key e))) l ≡ l
  all_kept k [] h = refl
  all_kept k (e ∷ l) h = rw (eq_lower o k (key e) h.0) (ap (λ (r : List E). e ∷ r) (all_kept k l h.1))

  pub length_without : (k : K) (l : List E) → Asc lt key l
      → length l ≡ cond (there k l) (suc (length (keep (λ e. not (eq k (key e))) l))) (length (keep (λ e. not (eq k (key e))) l))
  length_without k [] a = refl
  length_without k (x ∷ l) a = go (eq k (key x)) refl (length_without k l a.1)
    where
      R : List E
      R = keep (λ e. not (eq k (key e))) l

      go : (t : Bool) → eq k (key x) ≡ t → length l ≡ cond (there k l) (suc (length R)) (length R)
          → suc (length l) ≡ cond (t || there k l) (suc (length (cond (not t) (x ∷ R) R))) (length (cond (not t) (x ∷ R) R))
      go true e i =
          let z : k ≡ key x = o.eq_true k (key x) e in
          ap (λ (r : List E). suc (length r)) (sym (all_kept k l (rw z a.0)))
      go false e i = ap suc i ∙ by (there k l)
        where
          by : (t : Bool) → suc (cond t (suc (length R)) (length R)) ≡ cond t (suc (suc (length R))) (suc (length R))
          by true = refl
          by false = refl

map_self : {A : Type 0} (l : List A) → map (λ x. x) l ≡ l
map_self [] = refl
map_self {A} (x ∷ l) = ap (λ (r : List A). x ∷ r) (map_self l)

pub length_insert : (p : Pair) (h : List Pair) → AscPairs h → length (insert_held p h) ≡ cond (is_held p h) (length h) (suc (length h))
unfolding is_held insert_held
length_insert p h c = length-put (λ q. q) pair_order p h c ∙ ap (λ (l : List Pair). cond (member same_pair p l) (length h) (suc (length h))) (map_self h)

pub length_remove : (p : Pair) (h : List Pair) → AscPairs h → length h ≡ cond (is_held p h) (suc (length (remove_held p h))) (length (remove_held p h))
unfolding is_held remove_held
length_remove p h c = length_without (λ q. q) pair_order p h c ∙ ap (λ (l : List Pair). cond (member same_pair p l) (suc (length (remove_held p h))) (length (remove_held p h))) (map_self h)

pub length-set : (n : Filter) (s : Stored) (h : List Named) → AscNames h → length (set_held n s h) ≡ cond (has_filter n h) (length h) (suc (length h))
unfolding has_filter set_held
length-set n s h a = length-put (λ e. e.0) filter_order (n, s) h a

pub length_erase : (n : Filter) (h : List Named) → AscNames h → length h ≡ cond (has_filter n h) (suc (length (erase_held n h))) (length (erase_held n h))
unfolding has_filter erase_held
length_erase n h a = length_without (λ e. e.0) filter_order n h a

length_parts : {E : Type 0} (q : E → Bool) (l : List E) → length l ≡ length (keep (λ e. not (q e)) l) + length (keep q l)
length_parts q [] = refl
length_parts q (e ∷ l) = go (q e) (length_parts q l)
  where
    go : (t : Bool) → length l ≡ length (keep (λ e. not (q e)) l) + length (keep q l)
        → suc (length l) ≡ length (cond (not t) (e ∷ keep (λ e. not (q e)) l) (keep (λ e. not (q e)) l)) + length (cond t (e ∷ keep q l) (keep q l))
    go true i = omega arith
    go false i = omega arith

-- a sweep answers how many it removes
pub length_sweep : (r : Room) (now : ℕ) (h : List Named) → length h ≡ (retained r (sweep now) h).answer + length (sweep_held now h)
unfolding sweep_held
length_sweep r now h = length_parts (λ e. unexpired now e.1) h

-- what a forest holds, node by node
pub length-held : {X : Type 0} (t : Level) (v : List X) (k n : Forest X) → length (held (fork t v k n)) ≡ length v + (length (held k) + length (held n))
unfolding held
length-held t v k n = rw (length-append, length-append, length-map, length-map)
