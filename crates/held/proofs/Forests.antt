-- Well-formed forests: what they hold ascends, and the changes keep them and do to what they hold what they should. Assumes nothing.
use mathlib.Core.Path.{◌≡◌, refl, sym, ap, ◌∙◌}
use Prim.Native.Nat.{ℕ}
use mathlib.Core.Bool.{Bool, true, false, not, cond, ◌&&◌, ◌||◌, true≢false}
use mathlib.Core.List.{List, [], ◌∷◌, ◌++◌, map}
use lib.Dec.{eqb, ltb}
use Rattle.level.specs.Kinds.{is_only, same}
use Rattle.held.specs.Order.{Level, Filter, same_filter, level_lt, filter_lt, same_pair, pair_lt}
use Rattle.held.specs.Ascending.{member, keep, Below, Asc}
use Rattle.held.specs.Subscriptions.{Pair, AscPairs, is_held, insert_held, remove_held, values_of}
use Rattle.held.specs.Forest.{Forest, leaf, fork, under, held, Over, Rows, HashEnds, Owns, Full, AscValues, WellFormed}
use Rattle.held.specs.Walks.{hit, kid, values_at}
use Rattle.held.specs.Edit.{edit_own, chain, grow_f, pruned, cut_f, with_value, without_value, insert_f, remove_f, HashLast}
use Rattle.held.proofs.Orders.{Order, Tri, lower, alike, higher, tri, same_sym, lex_head, lex-tail, byte_order, level_order, filter_order, pair_order}
use Rattle.held.proofs.Stores.{Before, below-append, asc-append}
use Rattle.held.proofs.Sets.{member-put, member-keep, set-put, set-keep}
use Rattle.held.proofs.HeldLaws.{held_insert, held_remove, pairs_insert, pairs_remove, pairs_settled}
use Rattle.held.proofs.Walks.{values-held}
use Rattle.held.proofs.Edits.{at_grow, at_cut, rows_grow, rows_cut}

-- what is held ascends, in any order that goes by the filter first
module _ {X : Type 0} where
  nonempty_own : (t : Level) (v : List X) → Below filter_lt (λ (p : Filter × X). p.0) [] (map (λ x. (t ∷ [], x)) v)
  nonempty_own t [] = tt
  nonempty_own t (x ∷ v) = (refl, nonempty_own t v)

  nonempty-under : (t : Level) (l : List (Filter × X)) → Below filter_lt (λ p. p.0) [] (map (under t) l)
  nonempty-under t [] = tt
  nonempty-under t (p ∷ l) = (refl, nonempty-under t l)

  over_own : (s t : Level) (f : Filter) (v : List X) → level_lt s t ≡ true → Below filter_lt (λ (p : Filter × X). p.0) (s ∷ f) (map (λ x. (t ∷ [], x)) v)
  over_own s t f [] h = tt
  over_own s t f (x ∷ v) h = (lex_head level_order s t f [] h, over_own s t f v h)

  over-under : (s t : Level) (f : Filter) (l : List (Filter × X)) → level_lt s t ≡ true → Below filter_lt (λ p. p.0) (s ∷ f) (map (under t) l)
  over-under s t f [] h = tt
  over-under s t f (p ∷ l) h = (lex_head level_order s t f p.0 h, over-under s t f l h)

  tail-under : (t : Level) (f : Filter) (l : List (Filter × X)) → Below filter_lt (λ p. p.0) f l → Below filter_lt (λ p. p.0) (t ∷ f) (map (under t) l)
  tail-under t f [] h = tt
  tail-under t f (p ∷ l) h = (lex-tail level_order t t f p.0 refl h.0, tail-under t f l h.1)

  below_both : (f : Filter) (a b c : List (Filter × X)) → Below filter_lt (λ p. p.0) f a → Below filter_lt (λ p. p.0) f b → Below filter_lt (λ p. p.0) f c → Below filter_lt (λ p. p.0) f (a ++ (b ++ c))
  below_both f a b c x y z = below-append (λ p. p.0) (λ p. p.1) filter_order f a (b ++ c) x (below-append (λ p. p.0) (λ p. p.1) filter_order f b c y z)

  pub nonempty-held : (F : Forest X) → Below filter_lt (λ p. p.0) [] (held F)
  unfolding held
  nonempty-held leaf = tt
  nonempty-held (fork t v k n) = below_both [] (map (λ x. (t ∷ [], x)) v) (map (under t) (held k)) (held n) (nonempty_own t v) (nonempty-under t (held k)) (nonempty-held n)

  over-held : (s : Level) (f : Filter) (F : Forest X) → Over s F → Below filter_lt (λ p. p.0) (s ∷ f) (held F)
  unfolding held
  over-held s f leaf o = tt
  over-held s f (fork t v k n) o =
      below_both (s ∷ f) (map (λ x. (t ∷ [], x)) v) (map (under t) (held k)) (held n) (over_own s t f v o.0) (over-under s t f (held k) o.0) (over-held s f n o.1)

  module _ {K : Type 0} {eq lt : K → K → Bool} (key : Filter × X → K) (o : Order eq lt)
      (first : (p q : Filter × X) → filter_lt p.0 q.0 ≡ true → lt (key p) (key q) ≡ true)
      (shift : (t : Level) (p q : Filter × X) → lt (key p) (key q) ≡ true → lt (key (under t p)) (key (under t q)) ≡ true)
      (P : List X → Type 0) (own_asc : (t : Level) (v : List X) → P v → Asc lt key (map (λ x. (t ∷ [], x)) v)) where
    by-filter : (p : Filter × X) (l : List (Filter × X)) → Below filter_lt (λ q. q.0) p.0 l → Below lt key (key p) l
    by-filter p [] h = tt
    by-filter p (q ∷ l) h = (first p q h.0, by-filter p l h.1)

    shifted : (t : Level) (p : Filter × X) (l : List (Filter × X)) → Below lt key (key p) l → Below lt key (key (under t p)) (map (under t) l)
    shifted t p [] h = tt
    shifted t p (q ∷ l) h = (shift t p q h.0, shifted t p l h.1)

    asc_shifted : (t : Level) (l : List (Filter × X)) → Asc lt key l → Asc lt key (map (under t) l)
    asc_shifted t [] h = tt
    asc_shifted t (p ∷ l) h = (shifted t p l h.0, asc_shifted t l h.1)

    before_own : (t : Level) (v : List X) (l : List (Filter × X)) → Below filter_lt (λ q. q.0) (t ∷ []) l → Before lt key (map (λ x. (t ∷ [], x)) v) l
    before_own t [] l h = tt
    before_own t (x ∷ v) l h = (by-filter (t ∷ [], x) l h, before_own t v l h)

    before_next : (t : Level) (m l : List (Filter × X)) → ((f : Filter) → Below filter_lt (λ q. q.0) (t ∷ f) l) → Before lt key (map (under t) m) l
    before_next t [] l h = tt
    before_next t (p ∷ m) l h = (by-filter (under t p) l (h p.0), before_next t m l h)

    pub asc-held : (F : Forest X) → Rows F → Owns P F → Asc lt key (held F)
    unfolding held
    asc-held leaf r w = tt
    asc-held (fork t v k n) r w =
        let O : List (Filter × X) = map (λ x. (t ∷ [], x)) v in
        let U : List (Filter × X) = map (under t) (held k) in
        asc-append key (λ p. p.1) o O (U ++ held n) (own_asc t v w.0)
        (asc-append key (λ p. p.1) o U (held n) (asc_shifted t (held k) (asc-held k r.1 w.1)) (asc-held n r.2 w.2) (before_next t (held k) (held n) (λ f. over-held t f n r.0)))
        (before_own t v (U ++ held n)
        (below-append (λ p. p.0) (λ p. p.1) filter_order (t ∷ []) U (held n) (tail-under t [] (held k) (nonempty-held k)) (over-held t [] n r.0)))

-- Subscriptions
pair-first : (p q : Pair) → filter_lt p.0 q.0 ≡ true → pair_lt p q ≡ true
pair-first p q h = rw h

pair_shift : (t : Level) (p q : Pair) → pair_lt p q ≡ true → pair_lt (under t p) (under t q) ≡ true
pair_shift t p q h = rw (level_order.irrefl t) h

pair_then : (f : Filter) (x y : ℕ) → ltb x y ≡ true → pair_lt (f, x) (f, y) ≡ true
pair_then f x y h = rw (filter_order.irrefl f, h)

own_below : (t : Level) (x : ℕ) (v : List ℕ) → Below ltb (λ y. y) x v → Below pair_lt (λ p. p) (t ∷ [], x) (map (λ y. (t ∷ [], y)) v)
own_below t x [] h = tt
own_below t x (y ∷ v) h = (pair_then (t ∷ []) x y h.0, own_below t x v h.1)

own_asc : (t : Level) (v : List ℕ) → AscValues v → Asc pair_lt (λ p. p) (map (λ x. (t ∷ [], x)) v)
own_asc t [] h = tt
own_asc t (x ∷ v) h = (own_below t x v h.0, own_asc t v h.1)

pub pairs-held : (F : Forest ℕ) → Rows F → Owns AscValues F → AscPairs (held F)
pairs-held F r w = asc-held (λ p. p) pair_order pair-first pair_shift AscValues own_asc F r w

-- membership by the values at a path
held_values : (f : Filter) (y : ℕ) (h : List Pair) → is_held (f, y) h ≡ member eqb y (values_of f h)
unfolding is_held values_of
held_values f y [] = refl
held_values f y (p ∷ h) = go (same_filter f p.0) (held_values f y h)
  where
    go : (t : Bool) → is_held (f, y) h ≡ member eqb y (values_of f h)
        → ((t && eqb y p.1) || is_held (f, y) h) ≡ member eqb y (map (λ p. p.1) (cond t (p ∷ keep (λ p. same_filter f p.0) h) (keep (λ p. same_filter f p.0) h)))
    go true e = ap (λ (b : Bool). eqb y p.1 || b) e
    go false e = e

pub held_at : (F : Forest ℕ) → Rows F → (f : Filter) (y : ℕ) → is_held (f, y) (held F) ≡ member eqb y (values_at f (hit [] F))
held_at F r f y = held_values f y (held F) ∙ ap (member eqb y) (values-held F r f)

test-put : (s e m : Bool) (v w : List ℕ) (y : ℕ) → member eqb y v ≡ (e || m) → member eqb y w ≡ m → member eqb y (cond s v w) ≡ ((s && e) || m)
test-put true e m v w y a b = a
test-put false e m v w y a b = b

test-keep : (s e m : Bool) (v w : List ℕ) (y : ℕ) → member eqb y v ≡ (not e && m) → member eqb y w ≡ m → member eqb y (cond s v w) ≡ (not (s && e) && m)
test-keep true e m v w y a b = a
test-keep false e m v w y a b = b

module _ (F : Forest ℕ) (r : Rows F) (w : Owns AscValues F) (g : Level) (gs : Filter) (x : ℕ) where
  held_grown : (f : Filter) (y : ℕ) → is_held (f, y) (held (insert_f (g ∷ gs) x F)) ≡ is_held (f, y) (insert_held (g ∷ gs, x) (held F))
  unfolding grow_f insert_f is_held values_at
  held_grown [] y =
      held_at (insert_f (g ∷ gs) x F) (rows_grow (with_value x) (g ∷ gs) F r) [] y ∙ sym (held_insert ([], y) (g ∷ gs, x) (held F) ∙ held_at F r [] y)
  held_grown (h ∷ hs) y =
      held_at (insert_f (g ∷ gs) x F) (rows_grow (with_value x) (g ∷ gs) F r) (h ∷ hs) y
      ∙ ap (member eqb y) (at_grow (with_value x) F r (g ∷ gs) h hs)
      ∙ test-put (same_filter (h ∷ hs) (g ∷ gs)) (eqb y x) (member eqb y (values_at hs (kid h F))) (with_value x (values_at hs (kid h F))) (values_at hs (kid h F)) y
      (member-put byte_order y x (values_at hs (kid h F))) refl
      ∙ sym (held_insert (h ∷ hs, y) (g ∷ gs, x) (held F) ∙ ap (λ (b : Bool). same_pair (h ∷ hs, y) (g ∷ gs, x) || b) (held_at F r (h ∷ hs) y))

  held_shrunk : (f : Filter) (y : ℕ) → is_held (f, y) (held (remove_f (g ∷ gs) x F)) ≡ is_held (f, y) (remove_held (g ∷ gs, x) (held F))
  unfolding cut_f is_held remove_f values_at
  held_shrunk [] y =
      held_at (remove_f (g ∷ gs) x F) (rows_cut (without_value x) (g ∷ gs) F r) [] y ∙ sym (held_remove ([], y) (g ∷ gs, x) (held F) ∙ held_at F r [] y)
  held_shrunk (h ∷ hs) y =
      held_at (remove_f (g ∷ gs) x F) (rows_cut (without_value x) (g ∷ gs) F r) (h ∷ hs) y
      ∙ ap (member eqb y) (at_cut (without_value x) refl F r (g ∷ gs) h hs)
      ∙ test-keep (same_filter (h ∷ hs) (g ∷ gs)) (eqb x y) (member eqb y (values_at hs (kid h F))) (without_value x (values_at hs (kid h F))) (values_at hs (kid h F)) y
      (member-keep byte_order (λ z. not (eqb x z)) y (values_at hs (kid h F))) refl
      ∙ ap (λ (b : Bool). not (b && eqb x y) && member eqb y (values_at hs (kid h F))) (sym (same_sym filter_order (h ∷ hs) (g ∷ gs) (same_filter (h ∷ hs) (g ∷ gs)) refl))
      ∙ sym (held_remove (h ∷ hs, y) (g ∷ gs, x) (held F) ∙ ap (λ (b : Bool). not (same_pair (g ∷ gs, x) (h ∷ hs, y)) && b) (held_at F r (h ∷ hs) y))

-- what the changes keep
module _ {X : Type 0} (P : List X → Type 0) (u : List X → List X) (none-ok : P []) (ok : (v : List X) → P v → P (u v)) where
  own_ok : (gs : Filter) (v : List X) → P v → P (edit_own u gs v)
  own_ok [] v h = ok v h
  own_ok (g ∷ gs) v h = h

  owns-chain : (p : Filter) → Owns P (chain u p)
  unfolding chain
  owns-chain [] = tt
  owns-chain (g ∷ gs) = (own_ok gs [] none-ok, owns-chain gs, tt)

  pub owns_grow : (p : Filter) (F : Forest X) → Owns P F → Owns P (grow_f u p F)
  unfolding chain grow_f
  owns_grow p leaf w = owns-chain p
  owns_grow [] (fork t v k n) w = w
  owns_grow (g ∷ gs) (fork t v k n) w = go (level_lt g t) (level_lt t g) (owns_grow gs k w.1) (owns_grow (g ∷ gs) n w.2)
    where
      go : (a b : Bool) → Owns P (grow_f u gs k) → Owns P (grow_f u (g ∷ gs) n)
          → Owns P (cond a (fork g (edit_own u gs []) (chain u gs) (fork t v k n)) (cond b (fork t v k (grow_f u (g ∷ gs) n)) (fork t (edit_own u gs v) (grow_f u gs k) n)))
      go true b i j = (own_ok gs [] none-ok, owns-chain gs, w)
      go false true i j = (w.0, w.1, j)
      go false false i j = (own_ok gs v w.0, i, w.2)

  pub owns-pruned : (t : Level) (v : List X) (k n : Forest X) → P v → Owns P k → Owns P n → Owns P (pruned t v k n)
  unfolding pruned
  owns-pruned t [] leaf n a b c = c
  owns-pruned t [] (fork d e f g) n a b c = (a, b, c)
  owns-pruned t (x ∷ v) k n a b c = (a, b, c)

  pub owns_cut : (p : Filter) (F : Forest X) → Owns P F → Owns P (cut_f u p F)
  unfolding cut_f
  owns_cut p leaf w = tt
  owns_cut [] (fork t v k n) w = w
  owns_cut (g ∷ gs) (fork t v k n) w = go (same g t) (owns_cut gs k w.1) (owns_cut (g ∷ gs) n w.2)
    where
      go : (c : Bool) → Owns P (cut_f u gs k) → Owns P (cut_f u (g ∷ gs) n) → Owns P (cond c (pruned t (edit_own u gs v) (cut_f u gs k) n) (fork t v k (cut_f u (g ∷ gs) n)))
      go true i j = owns-pruned t (edit_own u gs v) (cut_f u gs k) n (own_ok gs v w.0) i w.2
      go false i j = (w.0, w.1, j)

module _ {X : Type 0} (u : List X → List X) where
  ends-chain : (p : Filter) → HashLast p → HashEnds (chain u p)
  unfolding chain
  ends-chain [] h = tt
  ends-chain (g ∷ gs) h = ((λ e. ap (chain u) (h.0 e)), ends-chain gs h.1, tt)

  grow-none : (F : Forest X) → grow_f u [] F ≡ F
  unfolding chain grow_f
  grow-none leaf = refl
  grow-none (fork t v k n) = refl

  pub ends_grow : (p : Filter) (F : Forest X) → HashLast p → HashEnds F → HashEnds (grow_f u p F)
  unfolding chain grow_f
  ends_grow p leaf h e = ends-chain p h
  ends_grow [] (fork t v k n) h e = e
  ends_grow (g ∷ gs) (fork t v k n) h e = go (tri level_order g t) (ends_grow gs k h.1 e.1) (ends_grow (g ∷ gs) n h e.2)
    where
      go : Tri level_lt g t → HashEnds (grow_f u gs k) → HashEnds (grow_f u (g ∷ gs) n) → HashEnds (grow_f u (g ∷ gs) (fork t v k n))
      go (lower a b) i j = rw a ((λ q. ap (chain u) (h.0 q)), ends-chain gs h.1, e)
      go (alike z) i j =
          rw (z, level_order.irrefl t)
          ((λ q. let y : gs ≡ [] = h.0 (rw z q) in ap (λ (p : Filter). grow_f u p k) y ∙ grow-none k ∙ e.0 q), i, e.2)
      go (higher a b) i j = rw (a, b) (e.0, e.1, j)

  ends-pruned : (t : Level) (v : List X) (k n : Forest X) → (is_only 35 t ≡ true → k ≡ leaf) → HashEnds k → HashEnds n → HashEnds (pruned t v k n)
  unfolding pruned
  ends-pruned t [] leaf n a b c = c
  ends-pruned t [] (fork d e f g) n a b c = (a, b, c)
  ends-pruned t (x ∷ v) k n a b c = (a, b, c)

  pub ends_cut : (p : Filter) (F : Forest X) → HashEnds F → HashEnds (cut_f u p F)
  unfolding cut_f
  ends_cut p leaf e = tt
  ends_cut [] (fork t v k n) e = e
  ends_cut (g ∷ gs) (fork t v k n) e = go (same g t) (ends_cut gs k e.1) (ends_cut (g ∷ gs) n e.2)
    where
      go : (c : Bool) → HashEnds (cut_f u gs k) → HashEnds (cut_f u (g ∷ gs) n) → HashEnds (cond c (pruned t (edit_own u gs v) (cut_f u gs k) n) (fork t v k (cut_f u (g ∷ gs) n)))
      go true i j = ends-pruned t (edit_own u gs v) (cut_f u gs k) n (λ q. ap (cut_f u gs) (e.0 q)) i e.2
      go false i j = (e.0, e.1, j)

  pub full-pruned : (t : Level) (v : List X) (k n : Forest X) → Full k → Full n → Full (pruned t v k n)
  unfolding pruned
  full-pruned t [] leaf n b c = c
  full-pruned t [] (fork d e f g) n b c = ((λ p q. not_leaf d e f g q), b, c)
    where
      is_leaf : Forest X → Bool
      is_leaf leaf = true
      is_leaf (fork a w j m) = false

      not_leaf : (d : Level) (e : List X) (f g : Forest X) → fork d e f g ≡ leaf → ⊥
      not_leaf d e f g q = true≢false (sym (ap is_leaf q))
  full-pruned t (x ∷ v) k n b c = ((λ p q. let z : true ≡ false = cc in true≢false z), b, c)

  pub full_cut : (p : Filter) (F : Forest X) → Full F → Full (cut_f u p F)
  unfolding cut_f
  full_cut p leaf e = tt
  full_cut [] (fork t v k n) e = e
  full_cut (g ∷ gs) (fork t v k n) e = go (same g t) (full_cut gs k e.1) (full_cut (g ∷ gs) n e.2)
    where
      go : (c : Bool) → Full (cut_f u gs k) → Full (cut_f u (g ∷ gs) n) → Full (cond c (pruned t (edit_own u gs v) (cut_f u gs k) n) (fork t v k (cut_f u (g ∷ gs) n)))
      go true i j = full-pruned t (edit_own u gs v) (cut_f u gs k) n i e.2
      go false i j = (e.0, e.1, j)

  module _ (some-ok : (v : List X) → u v ≡ [] → ⊥) where
    full-chain : (p : Filter) → Full (chain u p)
    unfolding chain
    full-chain [] = tt
    full-chain (g ∷ []) = ((λ p q. some-ok [] p), tt, tt)
    full-chain (g ∷ h ∷ hs) = ((λ p q. let z : true ≡ false = cc in true≢false z), full-chain (h ∷ hs), tt)

    -- growth leaves no row empty
    grow_some : (h : Level) (hs : Filter) (F : Forest X) → grow_f u (h ∷ hs) F ≡ leaf → ⊥
    unfolding grow_f chain
    grow_some h hs leaf q = let z : true ≡ false = cc in true≢false z
    grow_some h hs (fork t v k n) q = go (level_lt h t) (level_lt t h) q
      where
        go : (a b : Bool) → cond a (fork h (edit_own u hs []) (chain u hs) (fork t v k n)) (cond b (fork t v k (grow_f u (h ∷ hs) n)) (fork t (edit_own u hs v) (grow_f u hs k) n)) ≡ leaf → ⊥
        go true b q = let z : true ≡ false = cc in true≢false z
        go false true q = let z : true ≡ false = cc in true≢false z
        go false false q = let z : true ≡ false = cc in true≢false z

    own_full : (gs : Filter) (v : List X) (k : Forest X) → edit_own u gs v ≡ [] → grow_f u gs k ≡ leaf → ⊥
    own_full [] v k p q = some-ok v p
    own_full (h ∷ hs) v k p q = grow_some h hs k q

    pub full_grow : (p : Filter) (F : Forest X) → Full F → Full (grow_f u p F)
    unfolding chain grow_f
    full_grow p leaf e = full-chain p
    full_grow [] (fork t v k n) e = e
    full_grow (g ∷ gs) (fork t v k n) e = go (level_lt g t) (level_lt t g) (full_grow gs k e.1) (full_grow (g ∷ gs) n e.2)
      where
        go : (a b : Bool) → Full (grow_f u gs k) → Full (grow_f u (g ∷ gs) n)
            → Full (cond a (fork g (edit_own u gs []) (chain u gs) (fork t v k n)) (cond b (fork t v k (grow_f u (g ∷ gs) n)) (fork t (edit_own u gs v) (grow_f u gs k) n)))
        go true b i j = (own_full gs [] leaf, full-chain gs, e)
        go false true i j = (e.0, e.1, j)
        go false false i j = (own_full gs v k, i, e.2)

put_some : (x : ℕ) (v : List ℕ) → with_value x v ≡ [] → ⊥
put_some x [] q = let z : true ≡ false = cc in true≢false z
put_some x (y ∷ v) q = go (ltb x y) (ltb y x) q
  where
    go : (a b : Bool) → cond a (x ∷ y ∷ v) (cond b (y ∷ with_value x v) (x ∷ v)) ≡ [] → ⊥
    go true b q = let z : true ≡ false = cc in true≢false z
    go false true q = let z : true ≡ false = cc in true≢false z
    go false false q = let z : true ≡ false = cc in true≢false z

-- An insertion and a removal: the forest stays well-formed, and holds what it should
pub insert_well : (p : Filter) (x : ℕ) (F : Forest ℕ) → HashLast p → WellFormed F → WellFormed (insert_f p x F)
unfolding insert_f
insert_well p x F h w =
    record {
      rows = rows_grow (with_value x) p F w.rows;
      ends = ends_grow (with_value x) p F h w.ends;
      owns = owns_grow AscValues (with_value x) tt (λ v a. set-put byte_order x v a) p F w.owns;
      full = full_grow (with_value x) (put_some x) p F w.full;
    }

pub remove_well : (p : Filter) (x : ℕ) (F : Forest ℕ) → WellFormed F → WellFormed (remove_f p x F)
unfolding remove_f
remove_well p x F w =
    record {
      rows = rows_cut (without_value x) p F w.rows;
      ends = ends_cut (without_value x) p F w.ends;
      owns = owns_cut AscValues (without_value x) tt (λ v a. set-keep byte_order (λ y. not (eqb x y)) v a) p F w.owns;
      full = full_cut (without_value x) p F w.full;
    }

pub well_pairs : (F : Forest ℕ) → WellFormed F → AscPairs (held F)
well_pairs F w = pairs-held F w.rows w.owns

pub insert-held : (g : Level) (gs : Filter) (x : ℕ) (F : Forest ℕ) → WellFormed F → HashLast (g ∷ gs) → held (insert_f (g ∷ gs) x F) ≡ insert_held (g ∷ gs, x) (held F)
insert-held g gs x F w h =
    pairs_settled (held (insert_f (g ∷ gs) x F)) (insert_held (g ∷ gs, x) (held F))
    (well_pairs (insert_f (g ∷ gs) x F) (insert_well (g ∷ gs) x F h w))
    (pairs_insert (g ∷ gs, x) (held F) (well_pairs F w))
    (λ p. held_grown F w.rows w.owns g gs x p.0 p.1)

pub remove-held : (g : Level) (gs : Filter) (x : ℕ) (F : Forest ℕ) → WellFormed F → held (remove_f (g ∷ gs) x F) ≡ remove_held (g ∷ gs, x) (held F)
remove-held g gs x F w =
    pairs_settled (held (remove_f (g ∷ gs) x F)) (remove_held (g ∷ gs, x) (held F))
    (well_pairs (remove_f (g ∷ gs) x F) (remove_well (g ∷ gs) x F w))
    (pairs_remove (g ∷ gs, x) (held F) (well_pairs F w))
    (λ p. held_shrunk F w.rows w.owns g gs x p.0 p.1)
