-- A name is matched exactly when its listing is not empty, and the walk that only asks finds it. Assumes nothing.
use mathlib.Core.Path.{◌≡◌, refl, sym, ap, ◌∙◌}
use Prim.Native.Nat.{ℕ}
use mathlib.Core.Bool.{Bool, true, false, not, cond, ◌&&◌, ◌||◌}
use mathlib.Core.List.{List, [], ◌∷◌, ◌++◌, map}
use Rattle.topic.specs.Match.{lead_dollar, match47}
use Rattle.held.specs.Order.{Filter, listing_lt}
use Rattle.held.specs.Ascending.{any, keep, put, sort}
use Rattle.held.specs.Subscriptions.{values_of, listing, is_match}
use Rattle.held.specs.Forest.{Forest, under, held, WellFormed}
use Rattle.held.specs.Walks.{Hit, miss, hit, hash, plus, kid, hash_at, walk_at, literal, list_f}
use Rattle.held.specs.Edit.{Plain}
use Rattle.held.specs.Stream.{hash_hit, walk_hit, literal_hit, list_hit}
use Rattle.held.proofs.Stores.{null}
use Rattle.held.proofs.Walks.{list_is}

null-append : {A : Type 0} (l m : List A) → null (l ++ m) ≡ (null l && null m)
null-append [] m = refl
null-append (x ∷ l) m = refl

null-map : {A B : Type 0} (f : A → B) (l : List A) → null (map f l) ≡ null l
null-map f [] = refl
null-map f (x ∷ l) = refl

null-put : {E K : Type 0} (lt : K → K → Bool) (key : E → K) (e : E) (l : List E) → null (put lt key e l) ≡ false
null-put lt key e [] = refl
null-put lt key e (x ∷ l) = go (lt (key e) (key x)) (lt (key x) (key e))
  where
    go : (s t : Bool) → null (cond s (e ∷ x ∷ l) (cond t (x ∷ put lt key e l) (e ∷ l))) ≡ false
    go true t = refl
    go false true = refl
    go false false = refl

null-sort : {E K : Type 0} (lt : K → K → Bool) (key : E → K) (l : List E) → null (sort lt key l) ≡ null l
null-sort lt key [] = refl
null-sort lt key (e ∷ l) = null-put lt key e (sort lt key l)

null-keep : {D E : Type 0} (f : D → E) (q : E → Bool) (l : List D) → not (null (keep q (map f l))) ≡ any (λ d. q (f d)) l
null-keep f q [] = refl
null-keep f q (d ∷ l) = go (q (f d)) (null-keep f q l)
  where
    go : (t : Bool) → not (null (keep q (map f l))) ≡ any (λ d. q (f d)) l → not (null (cond t (f d ∷ keep q (map f l)) (keep q (map f l)))) ≡ (t || any (λ d. q (f d)) l)
    go true e = refl
    go false e = e

pub match_listed : {X : Type 0} (n : Filter) (h : List (Filter × X)) → is_match n h ≡ not (null (listing n h))
unfolding is_match listing
match_listed n h =
    sym (ap not (null-sort listing_lt (λ r. r.0) (keep (λ r. match47 r.0 n) (map (λ p. (p.0, values_of p.0 h)) h)))
    ∙ null-keep (λ p. (p.0, values_of p.0 h)) (λ r. match47 r.0 n) h)

both : (a b : Bool) → (not a || not b) ≡ not (a && b)
both true b = refl
both false b = refl

module _ {X : Type 0} where
  hit-hash : (h : Hit X) → hash_hit h ≡ not (null (hash_at h))
  hit-hash miss = refl
  hit-hash (hit [] k) = refl
  hit-hash (hit (x ∷ v) k) = refl

  walk-hit : (ns : Filter) (h : Hit X) → walk_hit ns h ≡ not (null (walk_at ns h))
  unfolding walk_at walk_hit
  walk-hit [] miss = refl
  walk-hit [] (hit [] k) = hit-hash (kid hash k)
  walk-hit [] (hit (x ∷ v) k) = refl
  walk-hit (n ∷ ns) miss = refl
  walk-hit (n ∷ ns) (hit v k) =
      let P : List (Filter × List X) = map (under plus) (walk_at ns (kid plus k)) in
      let N : List (Filter × List X) = map (under n) (walk_at ns (kid n k)) in
      let a : walk_hit ns (kid plus k) ≡ not (null P) = walk-hit ns (kid plus k) ∙ ap not (sym (null-map (under plus) (walk_at ns (kid plus k)))) in
      let b : walk_hit ns (kid n k) ≡ not (null N) = walk-hit ns (kid n k) ∙ ap not (sym (null-map (under n) (walk_at ns (kid n k)))) in
      rw (hit-hash (kid hash k), a, b, both (null P) (null N), ← null-append P N, both (null (hash_at (kid hash k))) (null (P ++ N)), ← null-append (hash_at (kid hash k)) (P ++ N))

  hit_step : (n : Filter) (F : Forest X) (t : Bool) → lead_dollar n ≡ t → cond t (literal_hit n F) (walk_hit n (hit [] F)) ≡ not (null (cond t (literal n F) (walk_at n (hit [] F))))
  unfolding literal literal_hit
  hit_step [] F true d = refl
  hit_step (n ∷ ns) F true d = walk-hit ns (kid n F) ∙ ap not (sym (null-map (under n) (walk_at ns (kid n F))))
  hit_step n F false d = walk-hit n (hit [] F)

pub match_is : (F : Forest ℕ) → WellFormed F → (n : Filter) → Plain n → list_hit n F ≡ is_match n (held F)
unfolding list_f list_hit
match_is F w n p = hit_step n F (lead_dollar n) refl ∙ ap (λ (l : List (Filter × List ℕ)). not (null l)) (list_is F w.ends w.rows n p) ∙ sym (match_listed n (held F))
