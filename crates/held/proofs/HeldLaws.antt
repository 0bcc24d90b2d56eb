-- Laws of what is held: what each change does to it, that the members settle the list, what a lookup has, and the theorem between the stores. Assumes nothing.
use mathlib.Core.Path.{◌≡◌, refl, sym, ap, ◌∙◌}
use Prim.Native.Nat.{ℕ}
use mathlib.Core.Bool.{Bool, true, false, not, cond, ◌&&◌, ◌||◌}
use mathlib.Core.List.{List, [], ◌∷◌, map}
use mathlib.Core.Option.{Option, none, some}
use lib.Dec.{eqb}
use Rattle.topic.specs.Match.{match47}
use Rattle.held.specs.Order.{Filter, same_filter, same_pair}
use Rattle.held.specs.Ascending.{find, passed, keep}
use Rattle.held.specs.Subscriptions.{Pair, AscPairs, is_held, insert_held, remove_held, values_of, listing}
use Rattle.held.specs.Retained.{Stored, Named, AscNames, has_filter, stored, set_held, erase_held, unexpired, sweep_held, lookup}
use Rattle.held.proofs.Orders.{same_sym, filter_order, pair_order}
use Rattle.held.proofs.Stores.{is_some, find-put, find-keep, asc-keep, find_where, asc-put, ext}
use Rattle.held.proofs.Sets.{member-put, member-keep, set-put, set-keep, set_ext}
use Rattle.held.proofs.Listing.{some-of, listing_finds}

pub held_insert : (p q : Pair) (h : List Pair) → is_held p (insert_held q h) ≡ (same_pair p q || is_held p h)
unfolding is_held insert_held
held_insert p q h = member-put pair_order p q h

pub held_remove : (p q : Pair) (h : List Pair) → is_held p (remove_held q h) ≡ (not (same_pair q p) && is_held p h)
unfolding is_held remove_held
held_remove p q h = member-keep pair_order (λ r. not (same_pair q r)) p h

pub pairs_insert : (p : Pair) (h : List Pair) → AscPairs h → AscPairs (insert_held p h)
unfolding insert_held
pairs_insert p h c = set-put pair_order p h c

pub pairs_remove : (p : Pair) (h : List Pair) → AscPairs h → AscPairs (remove_held p h)
unfolding remove_held
pairs_remove p h c = set-keep pair_order (λ q. not (same_pair p q)) h c

-- equal membership, equal lists
pub pairs_settled : (h g : List Pair) → AscPairs h → AscPairs g → ((p : Pair) → is_held p h ≡ is_held p g) → h ≡ g
unfolding is_held
pairs_settled h g a b e = set_ext pair_order h g a b e

-- Retained
pub names_settled : (h g : List Named) → AscNames h → AscNames g → ((n : Filter) → stored n h ≡ stored n g) → h ≡ g
unfolding stored
names_settled h g a b e = ext (λ e. e.0) (λ e. e.1) filter_order (λ p q i j. λ t. (i t, j t)) h g a b e

-- what a set, an erasure and a sweep change
pub names-set : (n : Filter) (s : Stored) (h : List Named) → AscNames h → AscNames (set_held n s h)
unfolding set_held
names-set n s h a = asc-put (λ e. e.0) (λ e. e.1) filter_order (n, s) h a

pub names_erase : (n : Filter) (h : List Named) → AscNames h → AscNames (erase_held n h)
unfolding erase_held
names_erase n h a = asc-keep (λ e. e.0) (λ e. e.1) filter_order (λ e. not (same_filter n e.0)) h a

pub names_sweep : (now : ℕ) (h : List Named) → AscNames h → AscNames (sweep_held now h)
unfolding sweep_held
names_sweep now h a = asc-keep (λ e. e.0) (λ e. e.1) filter_order (λ e. unexpired now e.1) h a

pub stored-set : (n m : Filter) (s : Stored) (h : List Named) → stored n (set_held m s h) ≡ cond (same_filter n m) (some s) (stored n h)
unfolding stored set_held
stored-set n m s h = find-put (λ e. e.0) (λ e. e.1) filter_order n (m, s) h

not-cond : {W : Type 0} (t : Bool) (o : Option W) → cond (not t) o none ≡ cond t none o
not-cond true o = refl
not-cond false o = refl

pub stored_erase : (n m : Filter) (h : List Named) → stored n (erase_held m h) ≡ cond (same_filter n m) none (stored n h)
unfolding stored erase_held
stored_erase n m h =
    find-keep (λ e. e.0) (λ e. e.1) filter_order (λ k. not (same_filter m k)) n h
    ∙ not-cond (same_filter m n) (find same_filter (λ e. e.0) (λ e. e.1) n h)
    ∙ ap (λ (t : Bool). cond t none (find same_filter (λ e. e.0) (λ e. e.1) n h)) (same_sym filter_order n m (same_filter n m) refl)

pub stored_sweep : (n : Filter) (now : ℕ) (h : List Named) → AscNames h → stored n (sweep_held now h) ≡ passed (unexpired now) (stored n h)
unfolding stored sweep_held
stored_sweep n now h a = find_where (λ e. e.0) (λ e. e.1) filter_order (unexpired now) n h a

keep_both : {E : Type 0} (p q : E → Bool) (l : List E) → keep (λ e. p e && q e) l ≡ keep p (keep q l)
keep_both p q [] = refl
keep_both {E} p q (e ∷ l) = go (p e) (q e) refl (keep_both p q l)
  where
    go : (s t : Bool) → p e ≡ s → keep (λ e. p e && q e) l ≡ keep p (keep q l)
        → cond (s && t) (e ∷ keep (λ e. p e && q e) l) (keep (λ e. p e && q e) l) ≡ keep p (cond t (e ∷ keep q l) (keep q l))
    go true true a h = rw a (ap (λ (r : List E). e ∷ r) h)
    go true false a h = h
    go false true a h = rw a h
    go false false a h = h

pub stored-lookup : (f : Filter) (now : ℕ) (h : List Named) → AscNames h → (n : Filter) → stored n (lookup f now h) ≡ cond (match47 f n) (passed (unexpired now) (stored n h)) none
unfolding stored lookup
stored-lookup f now h a n =
    ap (stored n) (keep_both (λ e. match47 f e.0) (λ e. unexpired now e.1) h)
    ∙ find-keep (λ e. e.0) (λ e. e.1) filter_order (λ n. match47 f n) n (keep (λ e. unexpired now e.1) h)
    ∙ ap (λ (w : Option Stored). cond (match47 f n) w none) (find_where (λ e. e.0) (λ e. e.1) filter_order (unexpired now) n h a)

pub has_found : {X : Type 0} (f : Filter) (h : List (Filter × X)) → has_filter f h ≡ is_some (find same_filter (λ e. e.0) (λ e. e.1) f h)
unfolding has_filter
has_found f [] = refl
has_found {X} f (p ∷ h) = go (same_filter f p.0) (has_found f h)
  where
    go : (t : Bool) → has_filter f h ≡ is_some (find same_filter (λ e. e.0) (λ e. e.1) f h) → (t || has_filter f h) ≡ is_some (cond t (some p.1) (find same_filter (λ e. e.0) (λ e. e.1) f h))
    go true e = refl
    go false e = e

pub has-stored : (n : Filter) (h : List Named) → has_filter n h ≡ is_some (stored n h)
unfolding stored
has-stored n h = has_found n h

has-values : {X : Type 0} (f : Filter) (h : List (Filter × X)) → is_some (some-of (values_of f h)) ≡ has_filter f h
unfolding values_of has_filter
has-values f [] = refl
has-values {X} f (p ∷ h) = go (same_filter f p.0) (has-values f h)
  where
    go : (t : Bool) → is_some (some-of (values_of f h)) ≡ has_filter f h
        → is_some (some-of (map (λ p. p.1) (cond t (p ∷ keep (λ p. same_filter f p.0) h) (keep (λ p. same_filter f p.0) h)))) ≡ (t || has_filter f h)
    go true e = refl
    go false e = e

-- the filter of a held pair is held
pub pair-filter : (f : Filter) (v : ℕ) (h : List Pair) → is_held (f, v) h ≡ true → has_filter f h ≡ true
unfolding is_held has_filter
pair-filter f v [] e = e
pair-filter f v (p ∷ h) e = go (same_filter f p.0) (pair-filter f v h) e
  where
    go : (t : Bool) → (is_held (f, v) h ≡ true → has_filter f h ≡ true) → ((t && eqb v p.1) || is_held (f, v) h) ≡ true → (t || has_filter f h) ≡ true
    go true i e = refl
    go false i e = i e

-- a held filter is listed for a name exactly when it matches
pub listed_is : (f n : Filter) (h : List Pair) → has_filter f h ≡ true → has_filter f (listing n h) ≡ match47 f n
listed_is f n h e = has_found f (listing n h) ∙ ap is_some (listing_finds n h f) ∙ go (match47 f n)
  where
    go : (t : Bool) → is_some (cond t (some-of (values_of f h)) none) ≡ t
    go true = has-values f h ∙ e
    go false = refl

-- a held, unexpired name is in the lookup of a filter exactly when the filter matches
passed_some : {W : Type 0} (q : W → Bool) (o : Option W) (t : Bool) → is_some (passed q o) ≡ true → is_some (cond t (passed q o) none) ≡ t
passed_some q o true e = e
passed_some q o false e = refl

pub looked_is : (n f : Filter) (now : ℕ) (h : List Named) → AscNames h → has_filter n (sweep_held now h) ≡ true → has_filter n (lookup f now h) ≡ match47 f n
looked_is n f now h a e =
    has-stored n (lookup f now h) ∙ ap is_some (stored-lookup f now h a n)
    ∙ passed_some (unexpired now) (stored n h) (match47 f n) (sym (has-stored n (sweep_held now h) ∙ ap is_some (stored_sweep n now h a)) ∙ e)

-- the theorem between the stores: a held, unexpired name is in the lookup of a filter exactly when that filter, held, is in the listing for that name
pub stores_agree : (n f : Filter) (now : ℕ) (h : List Named) (g : List Pair) → AscNames h → has_filter n (sweep_held now h) ≡ true → has_filter f g ≡ true
    → has_filter n (lookup f now h) ≡ has_filter f (listing n g)
stores_agree n f now h g a e q = looked_is n f now h a e ∙ sym (listed_is f n g q)

-- a lookup is settled: in the names' order, exactly the matching unexpired names
pub lookup_asc : (f : Filter) (now : ℕ) (h : List Named) → AscNames h → AscNames (lookup f now h)
unfolding lookup
lookup_asc f now h a = asc-keep (λ e. e.0) (λ e. e.1) filter_order (λ e. match47 f e.0 && unexpired now e.1) h a

pub lookup_only : (f : Filter) (now : ℕ) (h rs : List Named) → AscNames h → AscNames rs
    → ((n : Filter) → stored n rs ≡ cond (match47 f n) (passed (unexpired now) (stored n h)) none) → rs ≡ lookup f now h
lookup_only f now h rs a b e = names_settled rs (lookup f now h) b (lookup_asc f now h a) (λ n. e n ∙ sym (stored-lookup f now h a n))
