-- A value among ascending ones: where the search finds it or its place, and what putting it in or taking it out does. Assumes nothing.
use Rattle.std.specs.Prelude.{Result, Ok, Err, MatchResult}
use Rattle.std.proofs.lemmas.Result.{MatchResult-at_ok, MatchResult-at_err}
use mathlib.Core.Path.{◌≡◌, refl, sym, ap, subst, ◌∙◌}
use mathlib.Core.Logic.{⊎_elim}
use mathlib.Core.Bool.{Bool, true, false, cond, true≢false}
use mathlib.Core.List.{List, [], ◌∷◌, ◌++◌}
use Prim.Native.Nat.{ℕ, suc, ◌+◌, ◌≤◌, ◌<◌}
use native.Mathlib.Omega.{arith}
use lib.Dec.{eqb, ltb}
use lib.ListN.{length}
use borrow.Author.Tests.{eq-eqb, ne_eqb, lt-ltb, le-ltb, ltb-true, ltb-false, eqb-true}
use Rattle.lent.proofs.Anywhere.{lt-or_ge}
use Rattle.held.specs.Ascending.{Below, member}
use Rattle.held.specs.Forest.{AscValues}
use Rattle.held.specs.Edit.{with_value, without_value}
use Rattle.trie.specs.Values.{spot_from}

-- x is not among the values, and goes before value k; or it is value k
pub record Apart (x : ℕ) (vs : List ℕ) (k : ℕ) : Type 0 where
  pub before : List ℕ
  pub after : List ℕ
  pub count : length before ≡ k
  pub all : vs ≡ before ++ after
  pub absent : member eqb x vs ≡ false
  pub with : with_value x vs ≡ before ++ (x ∷ after)

pub record Among (x : ℕ) (vs : List ℕ) (k : ℕ) : Type 0 where
  pub before : List ℕ
  pub after : List ℕ
  pub count : length before ≡ k
  pub all : vs ≡ before ++ (x ∷ after)
  pub present : member eqb x vs ≡ true
  pub without : without_value x vs ≡ before ++ after

-- values that all come after x
none_below : (x : ℕ) (vs : List ℕ) → Below ltb (λ y. y) x vs → member eqb x vs ≡ false
none_below x [] b = refl
none_below x (v ∷ vs) b =
    let h : x < v = ltb-true x v b.0 in
    rw (ne_eqb x v (λ (e : x ≡ v). omega (arith, e)), none_below x vs b.1)

keep_below : (x : ℕ) (vs : List ℕ) → Below ltb (λ y. y) x vs → without_value x vs ≡ vs
keep_below x [] b = refl
keep_below x (v ∷ vs) b =
    let h : x < v = ltb-true x v b.0 in
    rw (ne_eqb x v (λ (e : x ≡ v). omega (arith, e)), keep_below x vs b.1)

below_more : (x v : ℕ) (vs : List ℕ) → x < v → Below ltb (λ y. y) v vs → Below ltb (λ y. y) x vs
below_more x v [] h b = tt
below_more x v (w ∷ vs) h b =
    let g : v < w = ltb-true v w b.0 in
    (lt-ltb x w (omega arith), below_more x v vs h b.1)

-- a value before x
module _ (x v : ℕ) (vs : List ℕ) (k : ℕ) (h : v < x) where
  apart-on : Apart x vs k → Apart x (v ∷ vs) (suc k)
  apart-on r =
      record {
        before = v ∷ r.before;
        after = r.after;
        count = ap suc r.count;
        all = ap (λ (l : List ℕ). v ∷ l) r.all;
        absent = rw (ne_eqb x v (λ (e : x ≡ v). omega (arith, e))) r.absent;
        with = rw (le-ltb x v (omega arith), lt-ltb v x h) (ap (λ (l : List ℕ). v ∷ l) r.with);
      }

  among-on : Among x vs k → Among x (v ∷ vs) (suc k)
  among-on r =
      record {
        before = v ∷ r.before;
        after = r.after;
        count = ap suc r.count;
        all = ap (λ (l : List ℕ). v ∷ l) r.all;
        present = rw (ne_eqb x v (λ (e : x ≡ v). omega (arith, e))) r.present;
        without = rw (ne_eqb x v (λ (e : x ≡ v). omega (arith, e))) (ap (λ (l : List ℕ). v ∷ l) r.without);
      }

-- the first value that is not less
apart_here : (x v : ℕ) (vs : List ℕ) → x < v → Below ltb (λ y. y) v vs → Apart x (v ∷ vs) 0
apart_here x v vs h b =
    record {
      before = [];
      after = v ∷ vs;
      count = refl;
      all = refl;
      absent = none_below x (v ∷ vs) (lt-ltb x v h, below_more x v vs h b);
      with = rw (lt-ltb x v h);
    }

among_here : (x v : ℕ) (vs : List ℕ) → v ≡ x → Below ltb (λ y. y) v vs → Among x (v ∷ vs) 0
among_here x v vs e b =
    record {
      before = [];
      after = vs;
      count = refl;
      all = ap (λ (y : ℕ). y ∷ vs) e;
      present = rw (eq-eqb x v (sym e));
      without = rw (eq-eqb x v (sym e)) (keep_below x vs (rw e at b));
    }

strictly : (x v : ℕ) → x ≤ v → (v ≡ x → ⊥) → x < v
strictly x v p n = ⊎_elim (λ (h : x < v). h) (λ (h : v ≤ x). absurd (n (omega arith))) (lt-or_ge x v)

-- what the search answers
data Told (j x : ℕ) (vs : List ℕ) : Result ℕ ℕ → Type 0 where
  found : {k : ℕ} (i : ℕ) → j + i ≡ k → Among x vs i → Told j x vs (Ok k)
  missed : {k : ℕ} (i : ℕ) → j + i ≡ k → Apart x vs i → Told j x vs (Err k)

told-on : (j x v : ℕ) (vs : List ℕ) (h : v < x) {p : Result ℕ ℕ} → Told (suc j) x vs p → Told j x (v ∷ vs) p
told-on j x v vs h (found i e a) = found (suc i) (omega (arith, e)) (among-on x v vs i h a)
told-on j x v vs h (missed i e a) = missed (suc i) (omega (arith, e)) (apart-on x v vs i h a)

sought : (j x : ℕ) (vs : List ℕ) → AscValues vs → Told j x vs (spot_from j x vs)
unfolding spot_from
sought j x [] a = missed 0 (omega arith) (record { before = []; after = []; count = refl; all = refl; absent = refl; with = refl })
sought j x (v ∷ vs) a = go (ltb v x) refl (sought (suc j) x vs a.1)
  where
    stop : x ≤ v → (b : Bool) → eqb v x ≡ b → Told j x (v ∷ vs) (cond b (Ok j) (Err j))
    stop h true r = found 0 (omega arith) (among_here x v vs (eqb-true v x r) a.0)
    stop h false r = missed 0 (omega arith) (apart_here x v vs (strictly x v h (λ (z : v ≡ x). true≢false (sym (eq-eqb v x z) ∙ r))) a.0)

    go : (b : Bool) → ltb v x ≡ b → Told (suc j) x vs (spot_from (suc j) x vs) → Told j x (v ∷ vs) (cond b (spot_from (suc j) x vs) (cond (eqb v x) (Ok j) (Err j)))
    go true q w = told-on j x v vs (ltb-true v x q) w
    go false q w = stop (ltb-false v x q) (eqb v x) refl

told : (x : ℕ) (vs : List ℕ) {p : Result ℕ ℕ} → Told 0 x vs p → MatchResult p (Among x vs) (Apart x vs)
told x vs (found {k = k} i e a) = let z : i ≡ k = omega (arith, e) in subst (Among x vs) z a
told x vs (missed {k = k} i e a) = let z : i ≡ k = omega (arith, e) in subst (Apart x vs) z a

pub spot_among : (x : ℕ) (vs : List ℕ) → AscValues vs → {k : ℕ} → spot_from 0 x vs ≡ Ok k → Among x vs k
spot_among x vs a {k} e = MatchResult-at_ok (Among x vs) (Apart x vs) k e (told x vs (sought 0 x vs a))

pub spot_apart : (x : ℕ) (vs : List ℕ) → AscValues vs → {k : ℕ} → spot_from 0 x vs ≡ Err k → Apart x vs k
spot_apart x vs a {k} e = MatchResult-at_err (Among x vs) (Apart x vs) k e (told x vs (sought 0 x vs a))
