-- The walks in bytes, with their counts, give the bytes and the number of records of the listing, the lookup and the page. Assumes nothing.
use mathlib.Core.Path.{◌≡◌, refl, sym, ap, ◌∙◌}
use Prim.Native.Nat.{ℕ, suc, ◌+◌, ◌-◌, ◌≤◌, ◌<◌}
use mathlib.Core.Bool.{Bool, true, false, not, cond, ◌&&◌}
use mathlib.Core.List.{List, [], ◌∷◌, ◌++◌, map, append-nil, append_assoc}
use borrow.Author.Tests.{ltb-true, ltb-false, leb-true, leb-false}
use lib.Dec.{ltb, leb}
use lib.ListN.{length, take, drop, length-append, length-map}
use lib.Seq.{take_all, take-nil, drop-nil}
use native.Mathlib.Nat.{add-zero, zero-sub, sub-zero}
use native.Mathlib.Omega.{arith}
use Rattle.level.specs.Kinds.{dollar}
use Rattle.topic.specs.Match.{takes, lead_wild, lead_dollar}
use Rattle.held.specs.Order.{Level, Filter}
use Rattle.held.specs.Ascending.{keep}
use Rattle.held.specs.Bytes.{each}
use Rattle.held.specs.Subscriptions.{listing, listing_record, listing_bytes}
use Rattle.held.specs.Retained.{Stored, Named, unexpired, lookup, name_record, lookup_bytes, page, page_bytes, more}
use Rattle.held.specs.Forest.{Forest, leaf, fork, under, held, WellFormed}
use Rattle.held.specs.Walks.{Hit, miss, hit, hash, plus, kid, emit, hash_at, walk_at, literal, list_f, fits, onward, look, look_f}
use Rattle.held.specs.Edit.{Plain}
use Rattle.held.specs.Stream.{record_at, hash_bytes, walk_bytes, literal_bytes, list_bytes, one_of, hash_count, walk_count, literal_count, list_count, in_page, paged, own_count, own_bytes, row_count, row_bytes}
use Rattle.held.proofs.Walks.{list_is}
use Rattle.held.proofs.Lookup.{lookup_is}

abbrev prefixed : {Y : Type 0} → Filter → Filter × Y → Filter × Y
prefixed p r = (p ++ r.0, r.1)

-- the bytes of records below a path
abbrev below : {Y : Type 0} → (Filter × Y → List ℕ) → Filter → List (Filter × Y) → List ℕ
below f p l = each f (map (prefixed p) l)

module _ {Y : Type 0} (f : Filter × Y → List ℕ) where
  below-append : (p : Filter) (l m : List (Filter × Y)) → below f p (l ++ m) ≡ below f p l ++ below f p m
  below-append p [] m = refl
  below-append p (r ∷ l) m = ap (λ (b : List ℕ). f (prefixed p r) ++ b) (below-append p l m) ∙ sym (append_assoc (f (prefixed p r)) (below f p l) (below f p m))

  below-under : (p : Filter) (t : Level) (l : List (Filter × Y)) → below f p (map (under t) l) ≡ below f (p ++ t ∷ []) l
  below-under p t [] = refl
  below-under p t (r ∷ l) =
      let e : p ++ t ∷ r.0 ≡ (p ++ t ∷ []) ++ r.0 = sym (append_assoc p (t ∷ []) r.0) in
      rw (e, below-under p t l)

  below_none : (l : List (Filter × Y)) → below f [] l ≡ each f l
  below_none [] = refl
  below_none (r ∷ l) = ap (λ (b : List ℕ). f r ++ b) (below_none l)

below-emit : (p q : Filter) (v : List ℕ) → below listing_record p (emit q v) ≡ record_at (p ++ q) v
below-emit p q [] = refl
below-emit p q (x ∷ v) = append-nil (listing_record (p ++ q, x ∷ v))

below-hash : (p : Filter) (h : Hit ℕ) → below listing_record p (hash_at h) ≡ hash_bytes p h
below-hash p miss = refl
below-hash p (hit v k) = below-emit p (hash ∷ []) v

pub walk-bytes : (ns p : Filter) (h : Hit ℕ) → below listing_record p (walk_at ns h) ≡ walk_bytes p ns h
unfolding walk_at walk_bytes
walk-bytes [] p miss = refl
walk-bytes [] p (hit v k) =
    below-append listing_record p (emit [] v) (hash_at (kid hash k))
    ∙ rw (below-emit p [] v, append-nil p, below-hash p (kid hash k))
walk-bytes (n ∷ ns) p miss = refl
walk-bytes (n ∷ ns) p (hit v k) =
    let P : List (Filter × List ℕ) = map (under plus) (walk_at ns (kid plus k)) in
    let N : List (Filter × List ℕ) = map (under n) (walk_at ns (kid n k)) in
    below-append listing_record p (hash_at (kid hash k)) (P ++ N)
    ∙ ap (λ (b : List ℕ). below listing_record p (hash_at (kid hash k)) ++ b) (below-append listing_record p P N)
    ∙ rw (below-hash p (kid hash k), below-under listing_record p plus (walk_at ns (kid plus k)), below-under listing_record p n (walk_at ns (kid n k)), walk-bytes ns (p ++ plus ∷ []) (kid plus k), walk-bytes ns (p ++ n ∷ []) (kid n k))

list_step : (n : Filter) (F : Forest ℕ) (t : Bool) → lead_dollar n ≡ t → each listing_record (cond t (literal n F) (walk_at n (hit [] F))) ≡ cond t (literal_bytes n F) (walk_bytes [] n (hit [] F))
unfolding literal literal_bytes
list_step [] F true d = refl
list_step (n ∷ ns) F true d = sym (below_none listing_record (map (under n) (walk_at ns (kid n F)))) ∙ below-under listing_record [] n (walk_at ns (kid n F)) ∙ walk-bytes ns (n ∷ []) (kid n F)
list_step n F false d = sym (below_none listing_record (walk_at n (hit [] F))) ∙ walk-bytes n [] (hit [] F)

-- the bytes that the listing's walk writes
pub list-bytes : (F : Forest ℕ) → WellFormed F → (n : Filter) → Plain n → list_bytes n F ≡ listing_bytes n (held F)
unfolding list_bytes list_f listing listing_bytes
list-bytes F w n p = sym (list_step n F (lead_dollar n) refl) ∙ ap (each listing_record) (list_is F w.ends w.rows n p)

-- the number of records of the listing's walk
module _ {X : Type 0} where
  count-emit : (f : Filter) (v : List X) → one_of v ≡ length (emit f v)
  count-emit f [] = refl
  count-emit f (x ∷ v) = refl

  count-hash : (h : Hit X) → hash_count h ≡ length (hash_at h)
  count-hash miss = refl
  count-hash (hit v k) = count-emit (hash ∷ []) v

  walk-count : (ns : Filter) (h : Hit X) → walk_count ns h ≡ length (walk_at ns h)
  unfolding walk_at walk_count
  walk-count [] miss = refl
  walk-count [] (hit v k) = simp length-append (omega (arith, count-emit [] v, count-hash (kid hash k)))
  walk-count (n ∷ ns) miss = refl
  walk-count (n ∷ ns) (hit v k) =
      simp (length-append, length-map) (omega (arith, count-hash (kid hash k), walk-count ns (kid plus k), walk-count ns (kid n k)))

  count_step : (n : Filter) (F : Forest X) (t : Bool) → lead_dollar n ≡ t → cond t (literal_count n F) (walk_count n (hit [] F)) ≡ length (cond t (literal n F) (walk_at n (hit [] F)))
  unfolding literal literal_count
  count_step [] F true d = refl
  count_step (n ∷ ns) F true d = walk-count ns (kid n F) ∙ simp length-map
  count_step n F false d = walk-count n (hit [] F)

pub list-count : (F : Forest ℕ) → WellFormed F → (n : Filter) → Plain n → list_count n F ≡ length (listing n (held F))
unfolding list_count list_f
list-count F w n p = count_step n F (lead_dollar n) refl ∙ ap length (list_is F w.ends w.rows n p)

-- Pages
module _ {A : Type 0} (o l : ℕ) where
  paged-append : (i : ℕ) (a b : List A) → paged o l i (a ++ b) ≡ paged o l i a ++ paged o l (i + length a) b
  paged-append i [] b = rw (add-zero i)
  paged-append i (x ∷ a) b = go (in_page o l i) (paged-append (suc i) a b ∙ ap (λ (j : ℕ). paged o l (suc i) a ++ paged o l j b) (omega arith))
    where
      go : (t : Bool) → paged o l (suc i) (a ++ b) ≡ paged o l (suc i) a ++ paged o l (i + length (x ∷ a)) b
          → cond t (x ∷ paged o l (suc i) (a ++ b)) (paged o l (suc i) (a ++ b)) ≡ cond t (x ∷ paged o l (suc i) a) (paged o l (suc i) a) ++ paged o l (i + length (x ∷ a)) b
      go true e = ap (λ (r : List A). x ∷ r) e
      go false e = e

  paged-map : {B : Type 0} (f : B → A) (i : ℕ) (b : List B) → paged o l i (map f b) ≡ map f (paged o l i b)
  paged-map f i [] = refl
  paged-map {B} f i (x ∷ b) = go (in_page o l i) (paged-map f (suc i) b)
    where
      go : (t : Bool) → paged o l (suc i) (map f b) ≡ map f (paged o l (suc i) b)
          → cond t (f x ∷ paged o l (suc i) (map f b)) (paged o l (suc i) (map f b)) ≡ map f (cond t (x ∷ paged o l (suc i) b) (paged o l (suc i) b))
      go true e = ap (λ (r : List A). f x ∷ r) e
      go false e = e

  -- the page of a list whose first record has the number i
  paged_is : (i : ℕ) (a : List A) → paged o l i a ≡ take (l - (i - o)) (drop (o - i) a)
  paged_is i [] = rw (drop-nil (o - i)) (sym (take-nil (l - (i - o))))
  paged_is i (x ∷ a) = go (leb o i) refl (ltb (i - o) l) refl (paged_is (suc i) a)
    where
      go : (s : Bool) → leb o i ≡ s → (t : Bool) → ltb (i - o) l ≡ t → paged o l (suc i) a ≡ take (l - (suc i - o)) (drop (o - suc i) a)
          → cond (s && t) (x ∷ paged o l (suc i) a) (paged o l (suc i) a) ≡ take (l - (i - o)) (drop (o - i) (x ∷ a))
      go false p t q e =
          let lt : i < o = leb-false o i p in
          let a1 : o - i ≡ suc (o - suc i) = omega arith in
          let a2 : suc i - o ≡ i - o = omega arith in
          e ∙ rw (a1, a2)
      go true p false q e =
          let ge : o ≤ i = leb-true o i p in
          let ge2 : l ≤ i - o = ltb-false (i - o) l q in
          let a1 : l - (i - o) ≡ 0 = omega arith in
          let a2 : l - (suc i - o) ≡ 0 = omega arith in
          e ∙ rw (a1, a2)
      go true p true q e =
          let ge : o ≤ i = leb-true o i p in
          let lt : i - o < l = ltb-true (i - o) l q in
          let a1 : o - i ≡ 0 = omega arith in
          let a2 : o - suc i ≡ 0 = omega arith in
          let a3 : l - (i - o) ≡ suc (l - (suc i - o)) = omega arith in
          rw (e, a1, a2, a3)

  paged-all : (a : List A) → paged o l 0 a ≡ take l (drop o a)
  paged-all a = rw (zero-sub o, sub-zero l, sub-zero o) at (paged_is 0 a)

module _ (now o l : ℕ) where
  -- the walk's own count
  own-count : (v : List Stored) → own_count now v ≡ length (keep (unexpired now) v)
  own-count [] = refl
  own-count (s ∷ v) = go (unexpired now s) (own-count v)
    where
      go : (t : Bool) → own_count now v ≡ length (keep (unexpired now) v) → cond t (suc (own_count now v)) (own_count now v) ≡ length (cond t (s ∷ keep (unexpired now) v) (keep (unexpired now) v))
      go true e = ap suc e
      go false e = e

  abbrev own_names : Filter → Level → List Stored → List Named
  own_names fs t v = map (λ x. (t ∷ [], x)) (cond (takes (onward fs) []) (keep (unexpired now) v) [])

  own-length : (fs : Filter) (t : Level) (v : List Stored) → cond (takes (onward fs) []) (own_count now v) 0 ≡ length (own_names fs t v)
  own-length fs t v = go (takes (onward fs) [])
    where
      go : (c : Bool) → cond c (own_count now v) 0 ≡ length {A = Named} (map (λ x. (t ∷ [], x)) (cond c (keep (unexpired now) v) []))
      go true = own-count v ∙ simp length-map
      go false = refl

  row-length : (b : Bool) (fs : Filter) (F : Forest Stored) → row_count now b fs F ≡ length (look (unexpired now) b fs F)
  unfolding look row_count
  row-length b fs leaf = refl
  row-length b fs (fork t v k n) = go (not (b && dollar t) && fits fs t) (row-length false (onward fs) k) (row-length b fs n)
    where
      O : List Named
      O = own_names fs t v

      U : List Named
      U = look (unexpired now) false (onward fs) k

      N : List Named
      N = look (unexpired now) b fs n

      go : (c : Bool) → row_count now false (onward fs) k ≡ length U → row_count now b fs n ≡ length N
          → cond c (cond (takes (onward fs) []) (own_count now v) 0 + row_count now false (onward fs) k) 0 + row_count now b fs n ≡ length (cond c (O ++ map (under t) U) [] ++ N)
      go true i j = rw (own-length fs t v, i, j) (simp (length-append, length-map))
      go false i j = rw j (simp length-append)

  -- the bytes of what a node holds
  own-bytes : (p : Filter) (i : ℕ) (t : Level) (v : List Stored) → below (name_record now) p (paged o l i (map (λ x. (t ∷ [], x)) (keep (unexpired now) v))) ≡ own_bytes now o l i (p ++ t ∷ []) v
  own-bytes p i t [] = refl
  own-bytes p i t (s ∷ v) = go (unexpired now s) (in_page o l i) (own-bytes p (suc i) t v) (own-bytes p i t v)
    where
      R : List Named
      R = map (λ x. (t ∷ [], x)) (keep (unexpired now) v)

      go : (c d : Bool) → below (name_record now) p (paged o l (suc i) R) ≡ own_bytes now o l (suc i) (p ++ t ∷ []) v
          → below (name_record now) p (paged o l i R) ≡ own_bytes now o l i (p ++ t ∷ []) v
          → below (name_record now) p (paged o l i (map (λ x. (t ∷ [], x)) (cond c (s ∷ keep (unexpired now) v) (keep (unexpired now) v))))
          ≡ cond c (cond (in_page o l i) (name_record now (p ++ t ∷ [], s)) [] ++ own_bytes now o l (suc i) (p ++ t ∷ []) v) (own_bytes now o l i (p ++ t ∷ []) v)
      go true d e f = by (in_page o l i)
        where
          by : (b : Bool) → below (name_record now) p (cond b ((t ∷ [], s) ∷ paged o l (suc i) R) (paged o l (suc i) R)) ≡ cond b (name_record now (p ++ t ∷ [], s)) [] ++ own_bytes now o l (suc i) (p ++ t ∷ []) v
          by true = ap (λ (b : List ℕ). name_record now (p ++ t ∷ [], s) ++ b) e
          by false = e
      go false d e f = f

  own-cond : (p : Filter) (i : ℕ) (t : Level) (v : List Stored) (c : Bool)
      → below (name_record now) p (paged o l i (map (λ x. (t ∷ [], x)) (cond c (keep (unexpired now) v) []))) ≡ cond c (own_bytes now o l i (p ++ t ∷ []) v) []
  own-cond p i t v true = own-bytes p i t v
  own-cond p i t v false = refl

  row-bytes : (F : Forest Stored) (i : ℕ) (p : Filter) (b : Bool) (fs : Filter) → below (name_record now) p (paged o l i (look (unexpired now) b fs F)) ≡ row_bytes now o l i p b fs F
  unfolding look row_bytes
  row-bytes leaf i p b fs = refl
  row-bytes (fork t v k n) i p b fs =
      ap (below (name_record now) p) (paged-append o l i (cond c (O ++ map (under t) U) []) N)
      ∙ below-append (name_record now) p (paged o l i (cond c (O ++ map (under t) U) [])) (paged o l (i + length (cond c (O ++ map (under t) U) [])) N)
      ∙ rw (here c (row-bytes k (i + cond (takes (onward fs) []) (own_count now v) 0) (p ++ t ∷ []) false (onward fs)), ← count c, row-bytes n (i + cond c (cond (takes (onward fs) []) (own_count now v) 0 + row_count now false (onward fs) k) 0) p b fs)
    where
      c : Bool
      c = not (b && dollar t) && fits fs t

      O : List Named
      O = own_names fs t v

      U : List Named
      U = look (unexpired now) false (onward fs) k

      N : List Named
      N = look (unexpired now) b fs n

      count : (c : Bool) → cond c (cond (takes (onward fs) []) (own_count now v) 0 + row_count now false (onward fs) k) 0 ≡ length (cond c (O ++ map (under t) U) [])
      count true = rw (own-length fs t v, row-length false (onward fs) k) (simp (length-append, length-map))
      count false = refl

      here : (c : Bool) → below (name_record now) (p ++ t ∷ []) (paged o l (i + cond (takes (onward fs) []) (own_count now v) 0) U) ≡ row_bytes now o l (i + cond (takes (onward fs) []) (own_count now v) 0) (p ++ t ∷ []) false (onward fs) k
          → below (name_record now) p (paged o l i (cond c (O ++ map (under t) U) []))
          ≡ cond c (cond (takes (onward fs) []) (own_bytes now o l i (p ++ t ∷ []) v) [] ++ row_bytes now o l (i + cond (takes (onward fs) []) (own_count now v) 0) (p ++ t ∷ []) false (onward fs) k) []
      here true e =
          ap (below (name_record now) p) (paged-append o l i O (map (under t) U) ∙ ap (λ (r : List Named). paged o l i O ++ r) (paged-map o l (under t) (i + length O) U))
          ∙ below-append (name_record now) p (paged o l i O) (map (under t) (paged o l (i + length O) U))
          ∙ rw (own-cond p i t v (takes (onward fs) []), below-under (name_record now) p t (paged o l (i + length O) U), ← own-length fs t v, e)
      here false e = refl

  -- the walk's page of a lookup
  looked-page : (f : Filter) (F : Forest Stored) → row_bytes now o l 0 [] (lead_wild f) f F ≡ each (name_record now) (take l (drop o (lookup f now (held F))))
  unfolding look look_f
  looked-page f F =
      let L : List Named = look_f (unexpired now) f F in
      sym (row-bytes F 0 [] (lead_wild f) f)
      ∙ below_none (name_record now) (paged o l 0 L)
      ∙ ap (each (name_record now)) (paged-all o l L)
      ∙ ap (λ (r : List Named). each (name_record now) (take l (drop o r))) (lookup_is f now F)

-- the bytes that the walk writes for a page, and for a whole lookup
pub page-bytes : (offset limit now : ℕ) (F : Forest Stored) → row_bytes now offset limit 0 [] true (hash ∷ []) F ≡ page_bytes offset limit now (held F)
unfolding page page_bytes
page-bytes offset limit now F = looked-page now offset limit (hash ∷ []) F

pub lookup-bytes : (f : Filter) (now limit : ℕ) (F : Forest Stored) → length (lookup f now (held F)) ≤ limit → row_bytes now 0 limit 0 [] (lead_wild f) f F ≡ lookup_bytes f now (held F)
unfolding lookup lookup_bytes
lookup-bytes f now limit F h = looked-page now 0 limit f F ∙ ap (each (name_record now)) (take_all limit (lookup f now (held F)) h)

-- the number of records, and whether more follows a page
pub lookup_count : (f : Filter) (now : ℕ) (F : Forest Stored) → row_count now (lead_wild f) f F ≡ length (lookup f now (held F))
unfolding look look_f
lookup_count f now F = row-length now 0 0 (lead_wild f) f F ∙ ap length (lookup_is f now F)

pub page-more : (offset limit now : ℕ) (F : Forest Stored) → ltb (offset + limit) (row_count now true (hash ∷ []) F) ≡ more offset limit now (held F)
unfolding lookup more
page-more offset limit now F = ap (ltb (offset + limit)) (lookup_count (hash ∷ []) now F)
