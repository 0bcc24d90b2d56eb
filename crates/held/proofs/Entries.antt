-- What every entry of a list has, and how the list's changes keep it. Assumes nothing.
use mathlib.Core.Path.{◌≡◌, refl}
use Prim.Native.Nat.{ℕ, zero, suc}
use mathlib.Core.Bool.{Bool, true, false, cond}
use mathlib.Core.List.{List, [], ◌∷◌, map, ◌++◌}
use lib.ListN.{take, drop}
use Rattle.held.specs.Ascending.{All, keep, put, sort}

module _ {E : Type 0} (P : E → Type 0) where
  pub all_keep : (q : E → Bool) (l : List E) → All P l → All P (keep q l)
  all_keep q [] a = tt
  all_keep q (e ∷ l) a = go (q e) (all_keep q l a.1)
    where
      go : (t : Bool) → All P (keep q l) → All P (cond t (e ∷ keep q l) (keep q l))
      go true k = (a.0, k)
      go false k = k

  pub all-put : {K : Type 0} (lt : K → K → Bool) (key : E → K) (e : E) (l : List E) → P e → All P l → All P (put lt key e l)
  all-put lt key e [] p a = (p, tt)
  all-put lt key e (x ∷ l) p a = go (lt (key e) (key x)) (lt (key x) (key e)) (all-put lt key e l p a.1)
    where
      go : (s t : Bool) → All P (put lt key e l) → All P (cond s (e ∷ x ∷ l) (cond t (x ∷ put lt key e l) (e ∷ l)))
      go true t k = (p, a)
      go false true k = (a.0, k)
      go false false k = (p, a.1)

  pub all-sort : {K : Type 0} (lt : K → K → Bool) (key : E → K) (l : List E) → All P l → All P (sort lt key l)
  all-sort lt key [] a = tt
  all-sort lt key (e ∷ l) a = all-put lt key e (sort lt key l) a.0 (all-sort lt key l a.1)

  -- what is kept passed the test
  pub all-passed : (q : E → Bool) → ((e : E) → q e ≡ true → P e) → (l : List E) → All P (keep q l)
  all-passed q f [] = tt
  all-passed q f (e ∷ l) = go (q e) refl (all-passed q f l)
    where
      go : (t : Bool) → q e ≡ t → All P (keep q l) → All P (cond t (e ∷ keep q l) (keep q l))
      go true p k = (f e p, k)
      go false p k = k

-- of two lists, one after the other
module _ {E : Type 0} (P : E → Type 0) where
  pub all_append : (l m : List E) → All P l → All P m → All P (l ++ m)
  all_append [] m a b = b
  all_append (e ∷ l) m a b = (a.0, all_append l m a.1 b)

  pub all_before : (l m : List E) → All P (l ++ m) → All P l
  all_before [] m a = tt
  all_before (e ∷ l) m a = (a.0, all_before l m a.1)

  pub all_behind : (l m : List E) → All P (l ++ m) → All P m
  all_behind [] m a = a
  all_behind (e ∷ l) m a = all_behind l m a.1

pub all_map : {D E : Type 0} (P : E → Type 0) (f : D → E) (l : List D) → All (λ d. P (f d)) l → All P (map f l)
all_map P f [] a = tt
all_map P f (d ∷ l) a = (a.0, all_map P f l a.1)

pub all_with : {E : Type 0} (P Q : E → Type 0) → ((e : E) → P e → Q e) → (l : List E) → All P l → All Q l
all_with P Q f [] a = tt
all_with P Q f (e ∷ l) a = (f e a.0, all_with P Q f l a.1)

pub all_both : {E : Type 0} (P Q : E → Type 0) (l : List E) → All P l → All Q l → All (λ e. P e × Q e) l
all_both P Q [] a b = tt
all_both P Q (e ∷ l) a b = ((a.0, b.0), all_both P Q l a.1 b.1)

module _ {E : Type 0} (P : E → Type 0) where
  pub all_take : (n : ℕ) (l : List E) → All P l → All P (take n l)
  all_take zero l a = tt
  all_take (suc n) [] a = tt
  all_take (suc n) (e ∷ l) a = (a.0, all_take n l a.1)

  pub all_drop : (n : ℕ) (l : List E) → All P l → All P (drop n l)
  all_drop zero l a = a
  all_drop (suc n) [] a = tt
  all_drop (suc n) (e ∷ l) a = all_drop n l a.1
