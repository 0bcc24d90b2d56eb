-- The listing's walk over a forest gives the listing of what the forest holds. Assumes nothing.
use mathlib.Core.Path.{◌≡◌, refl, sym, ap, ◌∙◌}
use Prim.Native.Nat.{ℕ}
use mathlib.Core.Bool.{Bool, true, false, not, cond, ◌&&◌, ◌||◌, true≢false, and-or_distrib_right}
use mathlib.Core.List.{List, [], ◌∷◌, ◌++◌, map, append-nil}
use mathlib.Core.Option.{Option, none, some}
use lib.Dec.{eqb}
use Rattle.level.specs.Kinds.{is_only, same, dollar}
use Rattle.topic.specs.Match.{takes, lead_wild, lead_dollar, match47}
use Rattle.held.specs.Order.{Level, Filter, equal, same_filter, rank_lt, listing_lt}
use Rattle.held.specs.Ascending.{keep, Below, Asc}
use Rattle.held.specs.Subscriptions.{values_of, listing}
use Rattle.held.specs.Forest.{Forest, leaf, fork, under, held, Over, Rows, HashEnds}
use Rattle.held.specs.Walks.{Hit, miss, hit, hash, plus, kid, values_at, emit, hash_at, walk_at, literal, list_f}
use Rattle.held.specs.Edit.{Plain}
use Rattle.held.proofs.Orders.{eq_lower, lex_head, lex-tail, level_order, filter_order, rank_order, listing_order}
use Rattle.held.proofs.Stores.{or_else, Before, find-append, below-append, asc-append}
use Rattle.held.proofs.Listing.{some-of, find_r, cond-none, or_else-none, or_else-cond, cond-and, listing_only}

-- the one-byte levels
pub only_same : (b : ℕ) (g : Level) → same g (b ∷ []) ≡ is_only b g
only_same b [] = refl
only_same b (x ∷ []) = go (eqb x b)
  where
    go : (t : Bool) → (t && true) ≡ t
    go true = refl
    go false = refl
only_same b (x ∷ y ∷ g) = go (eqb x b)
  where
    go : (t : Bool) → (t && false) ≡ false
    go true = refl
    go false = refl

pub only_is : (b : ℕ) (g : Level) → is_only b g ≡ true → g ≡ b ∷ []
only_is b g e = level_order.eq_true g (b ∷ []) (only_same b g ∙ e)

and_nil : (a : Bool) (h : Level) (hs : Filter) → (a && equal same (h ∷ hs) []) ≡ false
and_nil true h hs = refl
and_nil false h hs = refl

-- the test that a walk makes, from its three parts
pub parts_test : {W : Type 0} (h p s w : Bool) (a : Option W) → or_else (cond h a none) (or_else (cond p (cond w a none) none) (cond s (cond w a none) none)) ≡ cond (h || ((p || s) && w)) a none
parts_test h p s w a =
    rw (cond-and p w a, cond-and s w a, or_else-cond (p && w) (s && w) a, ← and-or_distrib_right p s w) (or_else-cond h ((p || s) && w) a)

abbrev EndsAt : {X : Type 0} → Hit X → Type 0
EndsAt miss = Unit {0}
EndsAt (hit v k) = HashEnds k

module _ {X : Type 0} where
  -- the values at a path
  values-append : (f : Filter) (l m : List (Filter × X)) → values_of f (l ++ m) ≡ values_of f l ++ values_of f m
  unfolding values_of
  values-append f [] m = refl
  values-append f (p ∷ l) m = go (same_filter f p.0) (values-append f l m)
    where
      go : (t : Bool) → values_of f (l ++ m) ≡ values_of f l ++ values_of f m
          → map (λ p. p.1) (cond t (p ∷ keep (λ p. same_filter f p.0) (l ++ m)) (keep (λ p. same_filter f p.0) (l ++ m)))
          ≡ map (λ p. p.1) (cond t (p ∷ keep (λ p. same_filter f p.0) l) (keep (λ p. same_filter f p.0) l)) ++ values_of f m
      go true h = ap (λ (v : List X). p.1 ∷ v) h
      go false h = h

  values-under : (g t : Level) (gs : Filter) (l : List (Filter × X)) → values_of (g ∷ gs) (map (under t) l) ≡ cond (same g t) (values_of gs l) []
  unfolding values_of
  values-under g t gs l = go (same g t) refl l
    where
      go : (s : Bool) → same g t ≡ s → (l : List (Filter × X)) → values_of (g ∷ gs) (map (under t) l) ≡ cond s (values_of gs l) []
      go true e [] = refl
      go true e (p ∷ l) = rw e (step (same_filter gs p.0) (go true e l))
        where
          step : (b : Bool) → values_of (g ∷ gs) (map (under t) l) ≡ values_of gs l
              → map (λ p. p.1) (cond b (under t p ∷ keep (λ p. same_filter (g ∷ gs) p.0) (map (under t) l)) (keep (λ p. same_filter (g ∷ gs) p.0) (map (under t) l)))
              ≡ map (λ p. p.1) (cond b (p ∷ keep (λ p. same_filter gs p.0) l) (keep (λ p. same_filter gs p.0) l))
          step true h = ap (λ (v : List X). p.1 ∷ v) h
          step false h = h
      go false e [] = refl
      go false e (p ∷ l) = rw e (go false e l)

  pub at_miss : (f : Filter) → values_at {X = X} f miss ≡ []
  unfolding values_at
  at_miss [] = refl
  at_miss (g ∷ gs) = refl

  values_own : (g t : Level) (gs : Filter) (v : List X) → values_of (g ∷ gs) (map (λ x. (t ∷ [], x)) v) ≡ cond (same g t) (values_at gs (hit v leaf)) []
  unfolding values_of values_at kid
  values_own g t gs v = go (same g t) refl gs v
    where
      go : (s : Bool) → same g t ≡ s → (gs : Filter) (v : List X) → values_of (g ∷ gs) (map (λ x. (t ∷ [], x)) v) ≡ cond s (values_at gs (hit v leaf)) []
      go true e [] [] = refl
      go true e [] (x ∷ v) = rw e (ap (λ (w : List X). x ∷ w) (go true e [] v))
      go true e (h ∷ hs) [] = sym (at_miss hs)
      go true e (h ∷ hs) (x ∷ v) = rw e (go true e (h ∷ hs) v)
      go false e gs [] = refl
      go false e gs (x ∷ v) = rw e (go false e gs v)

  none_under : (t : Level) (l : List (Filter × X)) → values_of [] (map (under t) l) ≡ []
  unfolding values_of
  none_under t [] = refl
  none_under t (p ∷ l) = none_under t l

  none_own : (t : Level) (v : List X) → values_of [] (map (λ x. (t ∷ [], x)) v) ≡ []
  unfolding values_of
  none_own t [] = refl
  none_own t (x ∷ v) = none_own t v

  pub kid_over : (t : Level) (F : Forest X) → Over t F → kid t F ≡ miss
  unfolding kid
  kid_over t leaf h = refl
  kid_over t (fork u v k n) h = rw (eq_lower level_order t u h.0) (kid_over t n h.1)

  at_kids : (v : List X) (k : Forest X) (gs : Filter) → values_at gs (hit v leaf) ++ (values_at gs (hit [] k) ++ []) ≡ values_at gs (hit v k)
  unfolding values_at kid
  at_kids v k [] = append-nil v
  at_kids v k (h ∷ hs) = rw (at_miss hs) (append-nil (values_at hs (kid h k)))

  values_step : (t g : Level) (v : List X) (k n : Forest X) (gs : Filter) → Over t n → values_of gs (held k) ≡ values_at gs (hit [] k) → values_of (g ∷ gs) (held n) ≡ values_at gs (kid g n)
      → (s : Bool) → same g t ≡ s
      → cond s (values_at gs (hit v leaf)) [] ++ (cond s (values_of gs (held k)) [] ++ values_of (g ∷ gs) (held n)) ≡ values_at gs (cond s (hit v k) (kid g n))
  values_step t g v k n gs o a b true e =
      let z : g ≡ t = level_order.eq_true g t e in
      let m : kid g n ≡ miss = rw z (kid_over t n o) in
      let c : values_of (g ∷ gs) (held n) ≡ [] = b ∙ ap (values_at gs) m ∙ at_miss gs in
      rw (a, c) (at_kids v k gs)
  values_step t g v k n gs o a b false e = b

  pub values-held : (F : Forest X) → Rows F → (f : Filter) → values_of f (held F) ≡ values_at f (hit [] F)
  unfolding held kid values_at values_of
  values-held leaf r [] = refl
  values-held leaf r (g ∷ gs) = sym (at_miss gs)
  values-held (fork t v k n) r [] =
      values-append [] (map (λ x. (t ∷ [], x)) v) (map (under t) (held k) ++ held n)
      ∙ ap (λ (w : List X). w ++ values_of [] (map (under t) (held k) ++ held n)) (none_own t v)
      ∙ values-append [] (map (under t) (held k)) (held n)
      ∙ ap (λ (w : List X). w ++ values_of [] (held n)) (none_under t (held k))
      ∙ values-held n r.2 []
  values-held (fork t v k n) r (g ∷ gs) =
      values-append (g ∷ gs) (map (λ x. (t ∷ [], x)) v) (map (under t) (held k) ++ held n)
      ∙ ap (λ (w : List X). w ++ values_of (g ∷ gs) (map (under t) (held k) ++ held n)) (values_own g t gs v)
      ∙ ap (λ (w : List X). cond (same g t) (values_at gs (hit v leaf)) [] ++ w)
      (values-append (g ∷ gs) (map (under t) (held k)) (held n)
      ∙ ap (λ (w : List X). w ++ values_of (g ∷ gs) (held n)) (values-under g t gs (held k)))
      ∙ values_step t g v k n gs r.0 (values-held k r.1 gs) (values-held n r.2 (g ∷ gs)) (same g t) refl

  -- the walk's records ascend
  below-tail : (t : Level) (f : Filter) (l : List (Filter × List X)) → Below listing_lt (λ r. r.0) f l → Below listing_lt (λ r. r.0) (t ∷ f) (map (under t) l)
  below-tail t f [] h = tt
  below-tail t f (p ∷ l) h = (lex-tail rank_order t t f p.0 refl h.0, below-tail t f l h.1)

  below_head : (u t : Level) (f : Filter) (l : List (Filter × List X)) → rank_lt u t ≡ true → Below listing_lt (λ r. r.0) (u ∷ f) (map (under t) l)
  below_head u t f [] h = tt
  below_head u t f (p ∷ l) h = (lex_head rank_order u t f p.0 h, below_head u t f l h)

  asc-under : (t : Level) (l : List (Filter × List X)) → Asc listing_lt (λ r. r.0) l → Asc listing_lt (λ r. r.0) (map (under t) l)
  asc-under t [] h = tt
  asc-under t (p ∷ l) h = (below-tail t p.0 l h.0, asc-under t l h.1)

  before-under : (u t : Level) (l m : List (Filter × List X)) → rank_lt u t ≡ true → Before listing_lt (λ r. r.0) (map (under u) l) (map (under t) m)
  before-under u t [] m h = tt
  before-under u t (p ∷ l) m h = (below_head u t p.0 m h, before-under u t l m h)

  asc-emit : (f : Filter) (v : List X) → Asc listing_lt (λ r. r.0) (emit f v)
  asc-emit f [] = tt
  asc-emit f (x ∷ v) = (tt, tt)

  before-emit : (f : Filter) (v : List X) (m : List (Filter × List X)) → Below listing_lt (λ r. r.0) f m → Before listing_lt (λ r. r.0) (emit f v) m
  before-emit f [] m h = tt
  before-emit f (x ∷ v) m h = (h, tt)

  asc-hash : (h : Hit X) → Asc listing_lt (λ r. r.0) (hash_at h)
  asc-hash miss = tt
  asc-hash (hit v k) = asc-emit (hash ∷ []) v

  before-hash : (h : Hit X) (m : List (Filter × List X)) → Below listing_lt (λ r. r.0) (hash ∷ []) m → Before listing_lt (λ r. r.0) (hash_at h) m
  before-hash miss m b = tt
  before-hash (hit v k) m b = before-emit (hash ∷ []) v m b

  below-hash : (h : Hit X) → Below listing_lt (λ r. r.0) [] (hash_at h)
  below-hash miss = tt
  below-hash (hit [] k) = tt
  below-hash (hit (x ∷ v) k) = (refl, tt)

  pub asc_walk : (ns : Filter) → Plain ns → (h : Hit X) → Asc listing_lt (λ r. r.0) (walk_at ns h)
  unfolding walk_at
  asc_walk [] p miss = tt
  asc_walk [] p (hit v k) =
      asc-append (λ r. r.0) (λ r. r.1) listing_order (emit [] v) (hash_at (kid hash k)) (asc-emit [] v) (asc-hash (kid hash k)) (before-emit [] v (hash_at (kid hash k)) (below-hash (kid hash k)))
  asc_walk (n ∷ ns) p miss = tt
  asc_walk (n ∷ ns) p (hit v k) =
      let P : List (Filter × List X) = map (under plus) (walk_at ns (kid plus k)) in
      let N : List (Filter × List X) = map (under n) (walk_at ns (kid n k)) in
      let a : rank_lt hash n ≡ true = rw (p.0, p.1) in
      let b : rank_lt plus n ≡ true = rw (p.0, p.1) in
      asc-append (λ r. r.0) (λ r. r.1) listing_order (hash_at (kid hash k)) (P ++ N) (asc-hash (kid hash k))
      (asc-append (λ r. r.0) (λ r. r.1) listing_order P N
      (asc-under plus (walk_at ns (kid plus k)) (asc_walk ns p.2 (kid plus k)))
      (asc-under n (walk_at ns (kid n k)) (asc_walk ns p.2 (kid n k)))
      (before-under plus n (walk_at ns (kid plus k)) (walk_at ns (kid n k)) b))
      (before-hash (kid hash k) (P ++ N)
      (below-append (λ r. r.0) (λ r. r.1) listing_order (hash ∷ []) P N
      (below_head hash plus [] (walk_at ns (kid plus k)) refl)
      (below_head hash n [] (walk_at ns (kid n k)) a)))

  -- what the walk finds
  find-under : (g t : Level) (gs : Filter) (l : List (Filter × List X)) → find_r (g ∷ gs) (map (under t) l) ≡ cond (same g t) (find_r gs l) none
  find-under g t gs l = go (same g t) refl l
    where
      go : (s : Bool) → same g t ≡ s → (l : List (Filter × List X)) → find_r (g ∷ gs) (map (under t) l) ≡ cond s (find_r gs l) none
      go true e [] = refl
      go true e (p ∷ l) = rw e (ap (λ (w : Option (List X)). cond (same_filter gs p.0) (some p.1) w) (go true e l))
      go false e [] = refl
      go false e (p ∷ l) = rw e (go false e l)

  none_found : (t : Level) (l : List (Filter × List X)) → find_r [] (map (under t) l) ≡ none
  none_found t [] = refl
  none_found t (p ∷ l) = none_found t l

  no_kids : (g : Level) (F : Forest X) → HashEnds F → is_only 35 g ≡ true → (h : Level) (hs : Filter) → values_at (h ∷ hs) (kid g F) ≡ []
  unfolding kid values_at
  no_kids g leaf e p h hs = refl
  no_kids g (fork t v k n) e p h hs = go (same g t) refl (no_kids g n e.2 p h hs)
    where
      go : (s : Bool) → same g t ≡ s → values_at (h ∷ hs) (kid g n) ≡ [] → values_at (h ∷ hs) (cond s (hit v k) (kid g n)) ≡ []
      go true q ih =
          let z : g ≡ t = level_order.eq_true g t q in
          let y : k ≡ leaf = e.0 (rw z at p) in
          rw y (at_miss hs)
      go false q ih = ih

  find-emit : (f : Filter) (v : List X) → find_r f (emit f v) ≡ some-of v
  find-emit f [] = refl
  find-emit f (x ∷ v) = rw (filter_order.eq_refl f)

  find_other : (f g : Filter) (v : List X) → same_filter f g ≡ false → find_r f (emit g v) ≡ none
  find_other f g [] e = refl
  find_other f g (x ∷ v) e = rw e

  find-hash_own : (h : Hit X) → find_r (hash ∷ []) (hash_at h) ≡ some-of (values_at [] h)
  unfolding values_at
  find-hash_own miss = refl
  find-hash_own (hit v k) = find-emit (hash ∷ []) v

  find-hash_other : (f : Filter) (h : Hit X) → same_filter f (hash ∷ []) ≡ false → find_r f (hash_at h) ≡ none
  find-hash_other f miss e = refl
  find-hash_other f (hit v k) e = find_other f (hash ∷ []) v e

  find-hash : (F : Forest X) → HashEnds F → (g : Level) (gs : Filter) → find_r (g ∷ gs) (hash_at (kid hash F)) ≡ cond (is_only 35 g) (some-of (values_at gs (kid g F))) none
  find-hash F e g gs = go (is_only 35 g) refl gs
    where
      go : (t : Bool) → is_only 35 g ≡ t → (gs : Filter) → find_r (g ∷ gs) (hash_at (kid hash F)) ≡ cond t (some-of (values_at gs (kid g F))) none
      go true p [] = let z : g ≡ hash = only_is 35 g p in rw z (find-hash_own (kid hash F))
      go true p (h ∷ hs) =
          find-hash_other (g ∷ h ∷ hs) (kid hash F) (and_nil (same g hash) h hs) ∙ sym (ap some-of (no_kids g F e p h hs))
      go false p gs = find-hash_other (g ∷ gs) (kid hash F) (rw (only_same 35 g ∙ p))

  kid_ends : (g : Level) (F : Forest X) → HashEnds F → EndsAt (kid g F)
  unfolding kid
  kid_ends g leaf e = tt
  kid_ends g (fork t v k n) e = go (same g t) (kid_ends g n e.2)
    where
      go : (s : Bool) → EndsAt (kid g n) → EndsAt (cond s (hit v k) (kid g n))
      go true h = e.1
      go false h = h

  -- a test against a level, and the child with that level
  swap-kid : (g t : Level) (F : Forest X) (w : Bool) (gs : Filter)
      → cond (same g t) (cond w (some-of (values_at gs (kid t F))) none) none ≡ cond (same g t) (cond w (some-of (values_at gs (kid g F))) none) none
  swap-kid g t F w gs = go (same g t) refl
    where
      go : (s : Bool) → same g t ≡ s → cond s (cond w (some-of (values_at gs (kid t F))) none) none ≡ cond s (cond w (some-of (values_at gs (kid g F))) none) none
      go true e = let z : g ≡ t = level_order.eq_true g t e in rw z
      go false e = refl

  none-cond : (t : Bool) (f : Filter) → ◌≡◌ {A = Option (List X)} none (cond t (some-of (values_at f miss)) none)
  none-cond t f = rw (at_miss f) (sym (cond-none t))

  -- what is found in three lists one after another
  find_three : (f : Filter) (l m n : List (Filter × List X)) {a b c : Option (List X)} → find_r f l ≡ a → find_r f m ≡ b → find_r f n ≡ c → find_r f (l ++ (m ++ n)) ≡ or_else a (or_else b c)
  find_three f l m n p q r =
      find-append (λ r. r.0) (λ r. r.1) filter_order f l (m ++ n)
      ∙ ap (λ (u : Option (List X)). or_else (find_r f l) u) (find-append (λ r. r.0) (λ r. r.1) filter_order f m n) ∙ rw (p, q, r)

  -- what is found below a child, where the walk from it is known
  find-kid : (g t : Level) (gs ns : Filter) (F : Forest X) → find_r gs (walk_at ns (kid t F)) ≡ cond (takes gs ns) (some-of (values_at gs (kid t F))) none
      → find_r (g ∷ gs) (map (under t) (walk_at ns (kid t F))) ≡ cond (same g t) (cond (takes gs ns) (some-of (values_at gs (kid g F))) none) none
  find-kid g t gs ns F i = find-under g t gs (walk_at ns (kid t F)) ∙ ap (λ (u : Option (List X)). cond (same g t) u none) i ∙ swap-kid g t F (takes gs ns) gs

  pub find_walk : (ns : Filter) (h : Hit X) → EndsAt h → (f : Filter) → find_r f (walk_at ns h) ≡ cond (takes f ns) (some-of (values_at f h)) none
  unfolding values_at kid walk_at
  find_walk [] miss e f = none-cond (takes f []) f
  find_walk [] (hit v k) e [] =
      find-append (λ r. r.0) (λ r. r.1) filter_order [] (emit [] v) (hash_at (kid hash k))
      ∙ ap (λ (w : Option (List X)). or_else (find_r [] (emit [] v)) w) (find-hash_other [] (kid hash k) refl)
      ∙ or_else-none (find_r [] (emit [] v)) ∙ find-emit [] v
  find_walk [] (hit v k) e (g ∷ gs) =
      find-append (λ r. r.0) (λ r. r.1) filter_order (g ∷ gs) (emit [] v) (hash_at (kid hash k))
      ∙ ap (λ (w : Option (List X)). or_else w (find_r (g ∷ gs) (hash_at (kid hash k)))) (find_other (g ∷ gs) [] v refl)
      ∙ find-hash k e g gs
  find_walk (n ∷ ns) miss e f = none-cond (takes f (n ∷ ns)) f
  find_walk (n ∷ ns) (hit v k) e [] =
      find_three [] (hash_at (kid hash k)) (map (under plus) (walk_at ns (kid plus k))) (map (under n) (walk_at ns (kid n k)))
      (find-hash_other [] (kid hash k) refl) (none_found plus (walk_at ns (kid plus k))) (none_found n (walk_at ns (kid n k)))
  find_walk (n ∷ ns) (hit v k) e (g ∷ gs) =
      find_three (g ∷ gs) (hash_at (kid hash k)) (map (under plus) (walk_at ns (kid plus k))) (map (under n) (walk_at ns (kid n k)))
      (find-hash k e g gs)
      (find-kid g plus gs ns k (find_walk ns (kid plus k) (kid_ends plus k e) gs)
      ∙ ap (λ (t : Bool). cond t (cond (takes gs ns) (some-of (values_at gs (kid g k))) none) none) (only_same 43 g))
      (find-kid g n gs ns k (find_walk ns (kid n k) (kid_ends n k e) gs))
      ∙ parts_test (is_only 35 g) (is_only 43 g) (same g n) (takes gs ns) (some-of (values_at gs (kid g k)))

lead-none : (a b c : Bool) → b ≡ false → (not (a && b) && c) ≡ c
lead-none true b c e = rw e
lead-none false b c e = refl

lead_some : (h p s w : Bool) → (s ≡ true → h ≡ false) → (s ≡ true → p ≡ false) → (not ((p || h) && true) && (h || ((p || s) && w))) ≡ (s && w)
lead_some true p true w a b = absurd (true≢false (a refl))
lead_some true true false w a b = refl
lead_some true false false w a b = refl
lead_some false true true w a b = absurd (true≢false (b refl))
lead_some false true false w a b = refl
lead_some false false s w a b = refl

-- a leading '$' leaves the literal branch only
pub match-dollar : (g n : Level) (gs ns : Filter) → Plain (n ∷ ns) → dollar n ≡ true → match47 (g ∷ gs) (n ∷ ns) ≡ (same g n && takes gs ns)
match-dollar g n gs ns p d =
    rw d
    (lead_some (is_only 35 g) (is_only 43 g) (same g n) (takes gs ns)
    (λ e. let z : g ≡ n = level_order.eq_true g n e in rw z p.0)
    (λ e. let z : g ≡ n = level_order.eq_true g n e in rw z p.1))

module _ {X : Type 0} (F : Forest X) (e : HashEnds F) where
  find-literal : (n : Level) (ns : Filter) → Plain (n ∷ ns) → dollar n ≡ true → (f : Filter) → find_r f (literal (n ∷ ns) F) ≡ cond (match47 f (n ∷ ns)) (some-of (values_at f (hit [] F))) none
  unfolding literal values_at kid
  find-literal n ns p d [] = none_found n (walk_at ns (kid n F))
  find-literal n ns p d (g ∷ gs) =
      find-kid g n gs ns F (find_walk ns (kid n F) (kid_ends n F e) gs)
      ∙ cond-and (same g n) (takes gs ns) (some-of (values_at gs (kid g F)))
      ∙ ap (λ (t : Bool). cond t (some-of (values_at gs (kid g F))) none) (sym (match-dollar g n gs ns p d))

  find_list : (n : Filter) → Plain n → (t : Bool) → lead_dollar n ≡ t → (f : Filter) → find_r f (cond t (literal n F) (walk_at n (hit [] F))) ≡ cond (match47 f n) (some-of (values_at f (hit [] F))) none
  find_list [] p true d f = absurd (true≢false (sym d))
  find_list (n ∷ ns) p true d f = find-literal n ns p d f
  find_list n p false d f =
      find_walk n (hit [] F) e f ∙ ap (λ (t : Bool). cond t (some-of (values_at f (hit [] F))) none) (sym (lead-none (lead_wild f) (lead_dollar n) (takes f n) d))

  asc_list : (n : Filter) → Plain n → (t : Bool) → Asc listing_lt (λ r. r.0) (cond t (literal n F) (walk_at n (hit [] F)))
  unfolding literal
  asc_list [] p true = tt
  asc_list (n ∷ ns) p true = asc-under n (walk_at ns (kid n F)) (asc_walk ns p.2 (kid n F))
  asc_list n p false = asc_walk n p (hit [] F)

  -- the walk gives the listing
  pub list_is : Rows F → (n : Filter) → Plain n → list_f n F ≡ listing n (held F)
  unfolding list_f
  list_is r n p =
      listing_only n (held F) (list_f n F) (asc_list n p (lead_dollar n))
      (λ f. find_list n p (lead_dollar n) refl f ∙ ap (λ (v : List X). cond (match47 f n) (some-of v) none) (sym (values-held F r f)))
