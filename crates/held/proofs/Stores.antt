-- Laws of ascending lists: a lookup after each change, and that the lookups settle the list. Assumes nothing.
use mathlib.Core.Path.{◌≡◌, refl, sym, ap, ◌∙◌}
use mathlib.Core.Bool.{Bool, true, false, cond, true≢false}
use mathlib.Core.List.{List, [], ◌∷◌, ◌++◌}
use mathlib.Core.Option.{Option, none, some}
use Rattle.held.specs.Ascending.{find, passed, keep, Below, Asc, put, sort}
use Rattle.held.proofs.Orders.{Order, Tri, lower, alike, higher, tri, eq-same, eq_lower}

-- the first that there is
abbrev pub or_else : {W : Type 0} → Option W → Option W → Option W
or_else none b = b
or_else (some w) b = some w

abbrev pub is_some : {W : Type 0} → Option W → Bool
is_some none = false
is_some (some w) = true

abbrev pub null : {A : Type 0} → List A → Bool
null [] = true
null (x ∷ l) = false

-- every key of l comes before every key of m
abbrev pub Before : {E K : Type 0} → (K → K → Bool) → (E → K) → List E → List E → Type 0
Before lt key [] m = Unit {0}
Before lt key (e ∷ l) m = Below lt key (key e) m × Before lt key l m

cond_twice : {A : Type 0} (c : Bool) (a d b : A) → cond c a b ≡ cond c a (cond c d b)
cond_twice true a d b = refl
cond_twice false a d b = refl

cond_swap : {A : Type 0} (s t : Bool) (a b c : A) → (s ≡ true → t ≡ true → ⊥) → cond s a (cond t b c) ≡ cond t b (cond s a c)
cond_swap true true a b c n = absurd (n refl refl)
cond_swap true false a b c n = refl
cond_swap false true a b c n = refl
cond_swap false false a b c n = refl

module _ {E K W : Type 0} {eq lt : K → K → Bool} (key : E → K) (val : E → W) (o : Order eq lt) where
  put_step : (k : K) (e x : E) (l : List E) → find eq key val k (put lt key e l) ≡ cond (eq k (key e)) (some (val e)) (find eq key val k l)
      → Tri lt (key e) (key x) → find eq key val k (put lt key e (x ∷ l)) ≡ cond (eq k (key e)) (some (val e)) (find eq key val k (x ∷ l))
  put_step k e x l ih (lower p q) = rw p
  put_step k e x l ih (alike p) =
      let a : lt (key e) (key x) ≡ false = rw p (o.irrefl (key x)) in
      let b : lt (key x) (key e) ≡ false = rw p (o.irrefl (key x)) in
      let f : eq k (key e) ≡ eq k (key x) = ap (eq k) p in
      rw (a, b, f) (cond_twice (eq k (key x)) (some (val e)) (some (val x)) (find eq key val k l))
  put_step k e x l ih (higher p q) =
      rw (p, q) (ap (λ (w : Option W). cond (eq k (key x)) (some (val x)) w) ih
      ∙ cond_swap (eq k (key x)) (eq k (key e)) _ _ _
      (λ a b.
      let c : k ≡ key x = o.eq_true k (key x) a in
      let d : k ≡ key e = o.eq_true k (key e) b in
      let f : key x ≡ key e = cc in
      true≢false (sym q ∙ rw f (o.irrefl (key e)))))

  pub find-put : (k : K) (e : E) (l : List E) → find eq key val k (put lt key e l) ≡ cond (eq k (key e)) (some (val e)) (find eq key val k l)
  find-put k e [] = refl
  find-put k e (x ∷ l) = put_step k e x l (find-put k e l) (tri o (key e) (key x))

  pub find-sort : (k : K) (l : List E) → find eq key val k (sort lt key l) ≡ find eq key val k l
  find-sort k [] = refl
  find-sort k (e ∷ l) = find-put k e (sort lt key l) ∙ ap (λ (w : Option W). cond (eq k (key e)) (some (val e)) w) (find-sort k l)

  pub find_below : (k : K) (l : List E) → Below lt key k l → find eq key val k l ≡ none
  find_below k [] h = refl
  find_below k (e ∷ l) h = rw (eq_lower o k (key e) h.0) (find_below k l h.1)

  pub find-append : (k : K) (l m : List E) → find eq key val k (l ++ m) ≡ or_else (find eq key val k l) (find eq key val k m)
  find-append k [] m = refl
  find-append k (e ∷ l) m = go (eq k (key e)) (find-append k l m)
    where
      go : (t : Bool) → find eq key val k (l ++ m) ≡ or_else (find eq key val k l) (find eq key val k m)
          → cond t (some (val e)) (find eq key val k (l ++ m)) ≡ or_else (cond t (some (val e)) (find eq key val k l)) (find eq key val k m)
      go true h = refl
      go false h = h

  -- a test of the key
  keep_step : (q : K → Bool) (k : K) (e : E) (l : List E) → find eq key val k (keep (λ e. q (key e)) l) ≡ cond (q k) (find eq key val k l) none
      → (s t : Bool) → eq k (key e) ≡ s → q (key e) ≡ t → find eq key val k (keep (λ e. q (key e)) (e ∷ l)) ≡ cond (q k) (find eq key val k (e ∷ l)) none
  keep_step q k e l ih true true a b = let z : k ≡ key e = o.eq_true k (key e) a in let c : q k ≡ true = ap q z ∙ b in rw (b, a, c)
  keep_step q k e l ih true false a b = let z : k ≡ key e = o.eq_true k (key e) a in let c : q k ≡ false = ap q z ∙ b in rw (b, c) (rw c at ih)
  keep_step q k e l ih false true a b = rw (b, a) ih
  keep_step q k e l ih false false a b = rw (b, a) ih

  pub find-keep : (q : K → Bool) (k : K) (l : List E) → find eq key val k (keep (λ e. q (key e)) l) ≡ cond (q k) (find eq key val k l) none
  find-keep q k [] = go (q k)
    where
      go : (t : Bool) → ◌≡◌ {A = Option W} none (cond t none none)
      go true = refl
      go false = refl
  find-keep q k (e ∷ l) = keep_step q k e l (find-keep q k l) (eq k (key e)) (q (key e)) refl refl

  pub below_mono : (a b : K) (l : List E) → lt a b ≡ true → Below lt key b l → Below lt key a l
  below_mono a b [] p h = tt
  below_mono a b (e ∷ l) p h = (o.trans a b (key e) p h.0, below_mono a b l p h.1)

  pub below-keep : (p : E → Bool) (k : K) (l : List E) → Below lt key k l → Below lt key k (keep p l)
  below-keep p k [] h = tt
  below-keep p k (e ∷ l) h = go (p e) (below-keep p k l h.1)
    where
      go : (t : Bool) → Below lt key k (keep p l) → Below lt key k (cond t (e ∷ keep p l) (keep p l))
      go true g = (h.0, g)
      go false g = g

  pub asc-keep : (p : E → Bool) (l : List E) → Asc lt key l → Asc lt key (keep p l)
  asc-keep p [] h = tt
  asc-keep p (e ∷ l) h = go (p e) (asc-keep p l h.1)
    where
      go : (t : Bool) → Asc lt key (keep p l) → Asc lt key (cond t (e ∷ keep p l) (keep p l))
      go true g = (below-keep p (key e) l h.0, g)
      go false g = g

  -- a test of the whole entry, where each key stands once
  keep_where : (q : W → Bool) (k : K) (e : E) (l : List E) → Below lt key (key e) l → find eq key val k (keep (λ e. q (val e)) l) ≡ passed q (find eq key val k l)
      → (s t : Bool) → eq k (key e) ≡ s → q (val e) ≡ t → find eq key val k (keep (λ e. q (val e)) (e ∷ l)) ≡ passed q (find eq key val k (e ∷ l))
  keep_where q k e l h ih true true a b = rw (b, a, b)
  keep_where q k e l h ih true false a b =
      let z : k ≡ key e = o.eq_true k (key e) a in
      rw (b, a, b) (rw z (find_below (key e) (keep (λ e. q (val e)) l) (below-keep (λ e. q (val e)) (key e) l h)))
  keep_where q k e l h ih false true a b = rw (b, a) ih
  keep_where q k e l h ih false false a b = rw (b, a) ih

  pub find_where : (q : W → Bool) (k : K) (l : List E) → Asc lt key l → find eq key val k (keep (λ e. q (val e)) l) ≡ passed q (find eq key val k l)
  find_where q k [] h = refl
  find_where q k (e ∷ l) h = keep_where q k e l h.0 (find_where q k l h.1) (eq k (key e)) (q (val e)) refl refl

  below_step : (k : K) (e x : E) (l : List E) → lt k (key e) ≡ true → Below lt key k (x ∷ l) → Below lt key k (put lt key e l) → Tri lt (key e) (key x) → Below lt key k (put lt key e (x ∷ l))
  below_step k e x l p h ih (lower a b) = rw a (p, h)
  below_step k e x l p h ih (alike a) = rw (a, o.irrefl (key x)) (p, h.1)
  below_step k e x l p h ih (higher a b) = rw (a, b) (h.0, ih)

  pub below_put : (k : K) (e : E) (l : List E) → lt k (key e) ≡ true → Below lt key k l → Below lt key k (put lt key e l)
  below_put k e [] p h = (p, tt)
  below_put k e (x ∷ l) p h = below_step k e x l p h (below_put k e l p h.1) (tri o (key e) (key x))

  asc_step : (e x : E) (l : List E) → Asc lt key (x ∷ l) → Asc lt key (put lt key e l) → Tri lt (key e) (key x) → Asc lt key (put lt key e (x ∷ l))
  asc_step e x l h ih (lower a b) = rw a ((a, below_mono (key e) (key x) l a h.0), h)
  asc_step e x l h ih (alike a) = rw (a, o.irrefl (key x)) (rw a h.0, h.1)
  asc_step e x l h ih (higher a b) = rw (a, b) (below_put (key x) e l b h.0, ih)

  pub asc-put : (e : E) (l : List E) → Asc lt key l → Asc lt key (put lt key e l)
  asc-put e [] h = (tt, tt)
  asc-put e (x ∷ l) h = asc_step e x l h (asc-put e l h.1) (tri o (key e) (key x))

  pub asc-sort : (l : List E) → Asc lt key (sort lt key l)
  asc-sort [] = tt
  asc-sort (e ∷ l) = asc-put e (sort lt key l) (asc-sort l)

  pub below-append : (k : K) (l m : List E) → Below lt key k l → Below lt key k m → Below lt key k (l ++ m)
  below-append k [] m h g = g
  below-append k (e ∷ l) m h g = (h.0, below-append k l m h.1 g)

  pub asc-append : (l m : List E) → Asc lt key l → Asc lt key m → Before lt key l m → Asc lt key (l ++ m)
  asc-append [] m h g b = g
  asc-append (e ∷ l) m h g b = (below-append (key e) l m h.0 b.0, asc-append l m h.1 g b.1)

  -- the lookups settle the list
  module _ (whole : (a b : E) → key a ≡ key b → val a ≡ val b → a ≡ b) where
    tails : (x y : E) (l m : List E) → key x ≡ key y → Below lt key (key x) l → Below lt key (key y) m
        → ((k : K) → find eq key val k (x ∷ l) ≡ find eq key val k (y ∷ m)) → (k : K) → find eq key val k l ≡ find eq key val k m
    tails x y l m p a b h k = go (eq k (key x)) refl
      where
        go : (t : Bool) → eq k (key x) ≡ t → find eq key val k l ≡ find eq key val k m
        go true e =
            let z : k ≡ key x = o.eq_true k (key x) e in
            let c : find eq key val (key x) l ≡ none = find_below (key x) l a in
            let d : find eq key val (key y) m ≡ none = find_below (key y) m b in
            rw (z, c) (rw p (sym d))
        go false e = let f : eq k (key y) ≡ false = rw p at e in rw f at (rw e at (h k))

    ext_step : (x y : E) (l m : List E) → Asc lt key (x ∷ l) → Asc lt key (y ∷ m) → (((k : K) → find eq key val k l ≡ find eq key val k m) → l ≡ m)
        → ((k : K) → find eq key val k (x ∷ l) ≡ find eq key val k (y ∷ m)) → Tri lt (key x) (key y) → ◌≡◌ {A = List E} (x ∷ l) (y ∷ m)
    ext_step x y l m a b ih h (lower p q) =
        let c : find eq key val (key x) (y ∷ m) ≡ none = find_below (key x) (y ∷ m) (p, below_mono (key x) (key y) m p b.0) in
        let d : some (val x) ≡ find eq key val (key x) (y ∷ m) = rw (o.eq_refl (key x)) at (h (key x)) in
        let z : some (val x) ≡ none = d ∙ c in
        cc
    ext_step x y l m a b ih h (alike p) =
        let d : some (val x) ≡ find eq key val (key x) (y ∷ m) = rw (o.eq_refl (key x)) at (h (key x)) in
        let e : some (val x) ≡ some (val y) = rw (eq-same o (key x) (key y) p) at d in
        let v : val x ≡ val y = cc in
        let z : x ≡ y = whole x y p v in
        let t : l ≡ m = ih (tails x y l m p a.0 b.0 h) in
        cc
    ext_step x y l m a b ih h (higher p q) =
        let c : find eq key val (key y) (x ∷ l) ≡ none = find_below (key y) (x ∷ l) (q, below_mono (key y) (key x) l q a.0) in
        let d : find eq key val (key y) (x ∷ l) ≡ some (val y) = rw (o.eq_refl (key y)) at (h (key y)) in
        let z : none ≡ some (val y) = sym c ∙ d in
        cc

    pub ext : (l m : List E) → Asc lt key l → Asc lt key m → ((k : K) → find eq key val k l ≡ find eq key val k m) → l ≡ m
    ext [] [] a b h = refl
    ext [] (y ∷ m) a b h = let d : none ≡ some (val y) = rw (o.eq_refl (key y)) at (h (key y)) in cc
    ext (x ∷ l) [] a b h = let d : some (val x) ≡ none = rw (o.eq_refl (key x)) at (h (key x)) in cc
    ext (x ∷ l) (y ∷ m) a b h = ext_step x y l m a b (ext l m a.1 b.1) h (tri o (key x) (key y))
