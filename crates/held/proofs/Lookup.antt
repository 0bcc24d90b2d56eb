-- The lookup's walk over a forest gives the lookup in what the forest holds. Assumes nothing.
use mathlib.Core.Path.{◌≡◌, refl, sym, ap, ◌∙◌}
use Prim.Native.Nat.{ℕ}
use mathlib.Core.Bool.{Bool, true, false, not, cond, ◌&&◌, ◌||◌}
use mathlib.Core.List.{List, [], ◌∷◌, ◌++◌, map, append_assoc}
use Rattle.level.specs.Kinds.{is_only, dollar}
use Rattle.topic.specs.Match.{level_takes, takes, lead_wild, lead_dollar}
use Rattle.held.specs.Order.{Level, Filter}
use Rattle.held.specs.Ascending.{keep}
use Rattle.held.specs.Retained.{Stored, unexpired, lookup}
use Rattle.held.specs.Forest.{Forest, leaf, fork, under, held}
use Rattle.held.specs.Walks.{fits, onward, look, look_f}

pub keep_append : {E : Type 0} (p : E → Bool) (l m : List E) → keep p (l ++ m) ≡ keep p l ++ keep p m
keep_append p [] m = refl
keep_append {E} p (e ∷ l) m = go (p e) (keep_append p l m)
  where
    go : (t : Bool) → keep p (l ++ m) ≡ keep p l ++ keep p m → cond t (e ∷ keep p (l ++ m)) (keep p (l ++ m)) ≡ cond t (e ∷ keep p l) (keep p l) ++ keep p m
    go true h = ap (λ (r : List E). e ∷ r) h
    go false h = h

pub keep-map : {D E : Type 0} (f : D → E) (p : E → Bool) (l : List D) → keep p (map f l) ≡ map f (keep (λ d. p (f d)) l)
keep-map f p [] = refl
keep-map {D} {E} f p (d ∷ l) = go (p (f d)) (keep-map f p l)
  where
    go : (t : Bool) → keep p (map f l) ≡ map f (keep (λ d. p (f d)) l) → cond t (f d ∷ keep p (map f l)) (keep p (map f l)) ≡ map f (cond t (d ∷ keep (λ d. p (f d)) l) (keep (λ d. p (f d)) l))
    go true h = ap (λ (r : List E). f d ∷ r) h
    go false h = h

pub keep_same : {E : Type 0} (p q : E → Bool) (l : List E) → ((e : E) → p e ≡ q e) → keep p l ≡ keep q l
keep_same p q [] h = refl
keep_same {E} p q (e ∷ l) h = rw (h e, keep_same p q l h)

keep-none : {E : Type 0} (p : E → Bool) (l : List E) → ((e : E) → p e ≡ false) → keep p l ≡ []
keep-none p [] h = refl
keep-none p (e ∷ l) h = rw (h e) (keep-none p l h)

pub keep-and : {E : Type 0} (c : Bool) (p : E → Bool) (l : List E) → keep (λ e. c && p e) l ≡ cond c (keep p l) []
keep-and true p l = refl
keep-and false p l = keep-none (λ e. false) l (λ e. refl)

map-cond : {D E : Type 0} (f : D → E) (c : Bool) (l : List D) → map f (cond c l []) ≡ cond c (map f l) []
map-cond f true l = refl
map-cond f false l = refl

join-cond : {E : Type 0} (c : Bool) (a b r : List E) → cond c a [] ++ (cond c b [] ++ r) ≡ cond c (a ++ b) [] ++ r
join-cond true a b r = sym (append_assoc a b r)
join-cond false a b r = refl

walk-hash : (g : Level) (gs ns : Filter) → is_only 35 g ≡ true → takes (g ∷ gs) ns ≡ true
walk-hash g gs [] e = e
walk-hash g gs (n ∷ ns) e = rw e

-- one level of a match
pub walk-onward : (fs : Filter) (t : Level) (ns : Filter) → takes fs (t ∷ ns) ≡ (fits fs t && takes (onward fs) ns)
walk-onward [] t ns = refl
walk-onward (g ∷ gs) t ns = go (is_only 35 g) refl
  where
    go : (s : Bool) → is_only 35 g ≡ s → (s || (level_takes g t && takes gs ns)) ≡ ((s || level_takes g t) && takes (cond s (g ∷ gs) gs) ns)
    go true e = sym (walk-hash g gs ns e)
    go false e = refl

group : (a b c d : Bool) → ((a && (b && c)) && d) ≡ ((a && b) && (c && d))
group true true c d = refl
group true false c d = refl
group false b c d = refl

module _ {X : Type 0} (q : X → Bool) where
  -- what the lookup asks of a name and what is stored
  abbrev wants : Bool → Filter → Filter × X → Bool
  wants b fs e = (not (b && lead_dollar e.0) && takes fs e.0) && q e.1

  wants-under : (b : Bool) (fs : Filter) (t : Level) (e : Filter × X) → wants b fs (under t e) ≡ ((not (b && dollar t) && fits fs t) && wants false (onward fs) e)
  wants-under b fs t e = rw (walk-onward fs t e.0) (group (not (b && dollar t)) (fits fs t) (takes (onward fs) e.0) (q e.1))

  keep-under : (b : Bool) (fs : Filter) (t : Level) (k : List (Filter × X))
      → keep (wants b fs) (map (under t) k) ≡ cond (not (b && dollar t) && fits fs t) (map (under t) (keep (wants false (onward fs)) k)) []
  keep-under b fs t k =
      keep-map (under t) (wants b fs) k
      ∙ ap (map (under t)) (keep_same (λ e. wants b fs (under t e)) (λ e. (not (b && dollar t) && fits fs t) && wants false (onward fs) e) k (wants-under b fs t) ∙ keep-and (not (b && dollar t) && fits fs t) (wants false (onward fs)) k)
      ∙ map-cond (under t) (not (b && dollar t) && fits fs t) (keep (wants false (onward fs)) k)

  keep_own : (b : Bool) (fs : Filter) (t : Level) (v : List X)
      → keep (wants b fs) (map (λ x. (t ∷ [], x)) v) ≡ cond (not (b && dollar t) && fits fs t) (map (λ x. (t ∷ [], x)) (cond (takes (onward fs) []) (keep q v) [])) []
  keep_own b fs t v =
      keep-map (λ x. (t ∷ [], x)) (wants b fs) v
      ∙ ap (map (λ x. (t ∷ [], x)))
      (keep_same (λ x. wants b fs (t ∷ [], x)) (λ x. (not (b && dollar t) && fits fs t) && (takes (onward fs) [] && q x)) v
      (λ x. rw (walk-onward fs t []) (group (not (b && dollar t)) (fits fs t) (takes (onward fs) []) (q x)))
      ∙ keep-and (not (b && dollar t) && fits fs t) (λ x. takes (onward fs) [] && q x) v
      ∙ ap (λ (r : List X). cond (not (b && dollar t) && fits fs t) r []) (keep-and (takes (onward fs) []) q v))
      ∙ map-cond (λ x. (t ∷ [], x)) (not (b && dollar t) && fits fs t) (cond (takes (onward fs) []) (keep q v) [])

  pub look_is : (F : Forest X) (b : Bool) (fs : Filter) → look q b fs F ≡ keep (wants b fs) (held F)
  unfolding held look
  look_is leaf b fs = refl
  look_is (fork t v k n) b fs =
      let c : Bool = not (b && dollar t) && fits fs t in
      let O : List (Filter × X) = map (λ x. (t ∷ [], x)) (cond (takes (onward fs) []) (keep q v) []) in
      sym
      (keep_append (wants b fs) (map (λ x. (t ∷ [], x)) v) (map (under t) (held k) ++ held n)
      ∙ ap (λ (r : List (Filter × X)). keep (wants b fs) (map (λ x. (t ∷ [], x)) v) ++ r) (keep_append (wants b fs) (map (under t) (held k)) (held n))
      ∙ rw (keep_own b fs t v, keep-under b fs t (held k), ← look_is k false (onward fs), ← look_is n b fs) (join-cond c O (map (under t) (look q false (onward fs) k)) (look q b fs n)))

-- the walk gives the lookup
pub lookup_is : (f : Filter) (now : ℕ) (F : Forest Stored) → look_f (unexpired now) f F ≡ lookup f now (held F)
unfolding held look look_f lookup
lookup_is f now F = look_is (unexpired now) F (lead_wild f) f
