-- What the code's proofs need of the walks and changes: one equation for each turn. Assumes nothing.
use mathlib.Core.Path.{◌≡◌, refl}
use Prim.Native.Nat.{ℕ, ◌+◌}
use mathlib.Core.Bool.{Bool, true, false, not, cond, ◌&&◌}
use mathlib.Core.List.{List, [], ◌∷◌, ◌++◌}
use native.Mathlib.Nat.{zero-add, add-zero}
use Rattle.level.specs.Kinds.{same, dollar}
use Rattle.topic.specs.Match.{takes}
use Rattle.held.specs.Order.{Level, Filter, level_lt}
use Rattle.held.specs.Retained.{Stored}
use Rattle.held.specs.Forest.{Forest, leaf, fork, Over}
use Rattle.held.specs.Walks.{miss, hit, hash, plus, kid, fits, onward}
use Rattle.held.specs.Edit.{edit_own, chain, grow_f, pruned, cut_f}
use Rattle.held.specs.Stream.{record_at, hash_bytes, walk_bytes, own_count, own_bytes, row_count, row_bytes}
use Rattle.held.proofs.Orders.{asym, level_order}
use Rattle.held.proofs.Walks.{kid_over}
use Rattle.held.proofs.Edits.{over_mono}

module _ {X : Type 0} (g t : Level) (v : List X) (k n : Forest X) where
  pub kid_here : same g t ≡ true → kid g (fork t v k n) ≡ hit v k
  unfolding kid
  kid_here e = rw e

  pub kid_next : same g t ≡ false → kid g (fork t v k n) ≡ kid g n
  unfolding kid
  kid_next e = rw e

  -- the search along a row may stop at the first level that comes after
  pub kid_past : level_lt g t ≡ true → Over t n → kid g (fork t v k n) ≡ miss
  kid_past p o = kid_over g (fork t v k n) (p, over_mono (λ v. v) g t n p o)

  module _ (u : List X → List X) (gs : Filter) where
    pub grow_before : level_lt g t ≡ true → grow_f u (g ∷ gs) (fork t v k n) ≡ fork g (edit_own u gs []) (chain u gs) (fork t v k n)
    unfolding grow_f
    grow_before p = rw p

    pub grow_after : level_lt t g ≡ true → grow_f u (g ∷ gs) (fork t v k n) ≡ fork t v k (grow_f u (g ∷ gs) n)
    unfolding grow_f
    grow_after p = rw (asym level_order t g p, p)

    pub grow-here : g ≡ t → grow_f u (g ∷ gs) (fork t v k n) ≡ fork t (edit_own u gs v) (grow_f u gs k) n
    unfolding grow_f
    grow-here z = rw (z, level_order.irrefl t)

    pub cut_here : same g t ≡ true → cut_f u (g ∷ gs) (fork t v k n) ≡ pruned t (edit_own u gs v) (cut_f u gs k) n
    unfolding cut_f
    cut_here e = rw e

    pub cut_next : same g t ≡ false → cut_f u (g ∷ gs) (fork t v k n) ≡ fork t v k (cut_f u (g ∷ gs) n)
    unfolding cut_f
    cut_next e = rw e

pub walk_miss : (p ns : Filter) → walk_bytes p ns miss ≡ []
unfolding walk_bytes
walk_miss p [] = refl
walk_miss p (n ∷ ns) = refl

pub walk_end : (p : Filter) (v : List ℕ) (k : Forest ℕ) → walk_bytes p [] (hit v k) ≡ record_at p v ++ hash_bytes p (kid hash k)
unfolding walk_bytes
walk_end p v k = refl

pub walk-on : (p : Filter) (n : Level) (ns : Filter) (v : List ℕ) (k : Forest ℕ)
    → walk_bytes p (n ∷ ns) (hit v k) ≡ hash_bytes p (kid hash k) ++ (walk_bytes (p ++ plus ∷ []) ns (kid plus k) ++ walk_bytes (p ++ n ∷ []) ns (kid n k))
unfolding walk_bytes
walk-on p n ns v k = refl

module _ (p : Filter) (b : Bool) (fs : Filter) (now : ℕ) where
  pub count_none : row_count now b fs leaf ≡ 0
  unfolding row_count
  count_none = refl

  pub row-none : (o l i : ℕ) → row_bytes now o l i p b fs leaf ≡ []
  unfolding row_bytes
  row-none o l i = refl

  module _ (t : Level) (v : List Stored) (k n : Forest Stored) where
    pub count_in : (not (b && dollar t) && fits fs t) ≡ true
        → row_count now b fs (fork t v k n) ≡ (cond (takes (onward fs) []) (own_count now v) 0 + row_count now false (onward fs) k) + row_count now b fs n
    unfolding row_count
    count_in e = rw e

    pub count_out : (not (b && dollar t) && fits fs t) ≡ false → row_count now b fs (fork t v k n) ≡ row_count now b fs n
    unfolding row_count
    count_out e = rw e (zero-add (row_count now b fs n))

    pub row_in : (o l i : ℕ) → (not (b && dollar t) && fits fs t) ≡ true
        → row_bytes now o l i p b fs (fork t v k n)
        ≡ (cond (takes (onward fs) []) (own_bytes now o l i (p ++ t ∷ []) v) [] ++ row_bytes now o l (i + cond (takes (onward fs) []) (own_count now v) 0) (p ++ t ∷ []) false (onward fs) k)
        ++ row_bytes now o l (i + (cond (takes (onward fs) []) (own_count now v) 0 + row_count now false (onward fs) k)) p b fs n
    unfolding row_bytes
    row_in o l i e = rw e

    pub row_out : (o l i : ℕ) → (not (b && dollar t) && fits fs t) ≡ false → row_bytes now o l i p b fs (fork t v k n) ≡ row_bytes now o l i p b fs n
    unfolding row_bytes
    row_out o l i e = rw (e, add-zero i)
