-- A forest of retained names: what setting, erasing and sweeping do to what it holds. Assumes nothing.
use mathlib.Core.Path.{◌≡◌, refl, sym, ap, ◌∙◌}
use Prim.Native.Nat.{ℕ}
use mathlib.Core.Bool.{Bool, true, false, not, cond, true≢false}
use mathlib.Core.List.{List, [], ◌∷◌, ◌++◌, map}
use mathlib.Core.Option.{Option, none, some}
use Rattle.held.specs.Order.{Level, Filter, same_filter, filter_lt}
use Rattle.held.specs.Ascending.{keep, Asc}
use Rattle.held.specs.Subscriptions.{values_of}
use Rattle.held.specs.Retained.{Stored, Named, AscNames, has_filter, stored, set_held, erase_held, unexpired, sweep_held}
use Rattle.held.specs.Forest.{Forest, leaf, fork, under, held, Over, Rows, Owns, Full, Single, WellNamed}
use Rattle.held.specs.Walks.{hit, kid, values_at}
use Rattle.held.specs.Edit.{grow_f, pruned, cut_f, sweep_f, set_f, erase_f}
use Rattle.held.proofs.Orders.{lex-tail, level_order, filter_order}
use Rattle.held.proofs.Stores.{is_some, null}
use Rattle.held.proofs.HeldLaws.{names_settled, names-set, names_erase, stored-set, stored_erase, has-stored}
use Rattle.held.proofs.Walks.{values-held}
use Rattle.held.proofs.Lookup.{keep_append, keep-map}
use Rattle.held.proofs.Edits.{at_grow, at_cut, over-pruned, rows-pruned, rows_grow, rows_cut}
use Rattle.held.proofs.Forests.{asc-held, owns_grow, owns-pruned, owns_cut, full-pruned, full_cut, full_grow}

single_asc : (t : Level) (v : List Stored) → Single v → Asc filter_lt (λ (e : Named). e.0) (map (λ x. (t ∷ [], x)) v)
single_asc t [] h = tt
single_asc t (x ∷ []) h = (tt, tt)
single_asc t (x ∷ y ∷ v) h = absurd h

pub names-held : (F : Forest Stored) → Rows F → Owns Single F → AscNames (held F)
names-held F r w = asc-held (λ e. e.0) filter_order (λ p q h. h) (λ t p q h. lex-tail level_order t t p.0 q.0 refl h) Single single_asc F r w

abbrev first : {X : Type 0} → List X → Option X
first [] = none
first (x ∷ v) = some x

stored-first : (n : Filter) (h : List (Named)) → stored n h ≡ first (values_of n h)
unfolding stored values_of
stored-first n [] = refl
stored-first n (e ∷ h) = go (same_filter n e.0) (stored-first n h)
  where
    go : (t : Bool) → stored n h ≡ first (values_of n h) → cond t (some e.1) (stored n h) ≡ first (map (λ p. p.1) (cond t (e ∷ keep (λ p. same_filter n p.0) h) (keep (λ p. same_filter n p.0) h)))
    go true q = refl
    go false q = q

pub stored_at : (F : Forest Stored) → Rows F → (n : Filter) → stored n (held F) ≡ first (values_at n (hit [] F))
stored_at F r n = stored-first n (held F) ∙ ap first (values-held F r n)

-- a name is held exactly when its node holds a record
pub has_at : (F : Forest Stored) → Rows F → (n : Filter) → has_filter n (held F) ≡ not (null (values_at n (hit [] F)))
has_at F r n = has-stored n (held F) ∙ ap is_some (stored_at F r n) ∙ go (values_at n (hit [] F))
  where
    go : (v : List Stored) → is_some (first v) ≡ not (null v)
    go [] = refl
    go (x ∷ v) = refl

first-cond : (t : Bool) (v w : List Stored) → first (cond t v w) ≡ cond t (first v) (first w)
first-cond true v w = refl
first-cond false v w = refl

some_ne : (s : Stored) (v : List Stored) → ◌≡◌ {A = List Stored} (s ∷ []) [] → ⊥
some_ne s v q = let z : true ≡ false = cc in true≢false z

pub set_well : (n : Filter) (s : Stored) (F : Forest Stored) → WellNamed F → WellNamed (set_f n s F)
unfolding grow_f set_f
set_well n s F w =
    record {
      rows = rows_grow (λ v. s ∷ []) n F w.rows;
      owns = owns_grow Single (λ v. s ∷ []) tt (λ v h. tt) n F w.owns;
      full = full_grow (λ v. s ∷ []) (some_ne s) n F w.full;
    }

pub erase_well : (n : Filter) (F : Forest Stored) → WellNamed F → WellNamed (erase_f n F)
unfolding cut_f erase_f
erase_well n F w =
    record {
      rows = rows_cut (λ v. []) n F w.rows;
      owns = owns_cut Single (λ v. []) tt (λ v h. tt) n F w.owns;
      full = full_cut (λ v. []) n F w.full;
    }

module _ {X : Type 0} (q : X → Bool) where
  over_sweep : (s : Level) (F : Forest X) → Over s F → Over s (sweep_f q F)
  unfolding sweep_f
  over_sweep s leaf o = tt
  over_sweep s (fork t v k n) o = over-pruned (λ v. v) s t (keep q v) (sweep_f q k) (sweep_f q n) o.0 (over_sweep s n o.1)

  rows_sweep : (F : Forest X) → Rows F → Rows (sweep_f q F)
  unfolding sweep_f
  rows_sweep leaf r = tt
  rows_sweep (fork t v k n) r = rows-pruned (λ v. v) t (keep q v) (sweep_f q k) (sweep_f q n) (over_sweep t n r.0) (rows_sweep k r.1) (rows_sweep n r.2)

  full_sweep : (F : Forest X) → Full (sweep_f q F)
  unfolding sweep_f
  full_sweep leaf = tt
  full_sweep (fork t v k n) = full-pruned (λ v. v) t (keep q v) (sweep_f q k) (sweep_f q n) (full_sweep k) (full_sweep n)

  single-keep : (v : List X) → Single v → Single (keep q v)
  single-keep [] h = tt
  single-keep (x ∷ []) h = go (q x)
    where
      go : (t : Bool) → Single (cond t (x ∷ []) [])
      go true = tt
      go false = tt
  single-keep (x ∷ y ∷ v) h = absurd h

  owns_sweep : (F : Forest X) → Owns Single F → Owns Single (sweep_f q F)
  unfolding sweep_f
  owns_sweep leaf w = tt
  owns_sweep (fork t v k n) w = owns-pruned Single (λ v. v) tt (λ v h. h) t (keep q v) (sweep_f q k) (sweep_f q n) (single-keep v w.0) (owns_sweep k w.1) (owns_sweep n w.2)

  held-pruned : (t : Level) (v : List X) (k n : Forest X) → held (pruned t v k n) ≡ held (fork t v k n)
  unfolding held pruned
  held-pruned t [] leaf n = refl
  held-pruned t [] (fork a b c d) n = refl
  held-pruned t (x ∷ v) k n = refl

  -- a sweep of the forest is a sweep of what it holds
  pub keep-held : (F : Forest X) → held (sweep_f q F) ≡ keep (λ e. q e.1) (held F)
  unfolding held sweep_f
  keep-held leaf = refl
  keep-held (fork t v k n) =
      held-pruned t (keep q v) (sweep_f q k) (sweep_f q n)
      ∙ sym
      (keep_append (λ e. q e.1) (map (λ x. (t ∷ [], x)) v) (map (under t) (held k) ++ held n)
      ∙ ap (λ (r : List (Filter × X)). keep (λ e. q e.1) (map (λ x. (t ∷ [], x)) v) ++ r) (keep_append (λ e. q e.1) (map (under t) (held k)) (held n))
      ∙ rw (keep-map {E = Filter × X} (λ x. (t ∷ [], x)) (λ e. q e.1) v, keep-map (under t) (λ e. q e.1) (held k), keep-held k, keep-held n))

pub sweep_well : (now : ℕ) (F : Forest Stored) → WellNamed F → WellNamed (sweep_f (unexpired now) F)
sweep_well now F w =
    record {
      rows = rows_sweep (unexpired now) F w.rows;
      owns = owns_sweep (unexpired now) F w.owns;
      full = full_sweep (unexpired now) F;
    }

pub sweep-held : (now : ℕ) (F : Forest Stored) → held (sweep_f (unexpired now) F) ≡ sweep_held now (held F)
unfolding held sweep_held
sweep-held now F = keep-held (unexpired now) F

pub well_names : (F : Forest Stored) → WellNamed F → AscNames (held F)
well_names F w = names-held F w.rows w.owns

module _ (F : Forest Stored) (w : WellNamed F) (g : Level) (gs : Filter) where
  pub set-held : (s : Stored) → held (set_f (g ∷ gs) s F) ≡ set_held (g ∷ gs) s (held F)
  unfolding set_f stored values_at
  set-held s =
      names_settled (held (set_f (g ∷ gs) s F)) (set_held (g ∷ gs) s (held F)) (well_names (set_f (g ∷ gs) s F) (set_well (g ∷ gs) s F w)) (names-set (g ∷ gs) s (held F) (well_names F w)) go
    where
      go : (n : Filter) → stored n (held (set_f (g ∷ gs) s F)) ≡ stored n (set_held (g ∷ gs) s (held F))
      go [] = stored_at (set_f (g ∷ gs) s F) (set_well (g ∷ gs) s F w).rows [] ∙ sym (stored-set [] (g ∷ gs) s (held F) ∙ stored_at F w.rows [])
      go (h ∷ hs) =
          stored_at (set_f (g ∷ gs) s F) (set_well (g ∷ gs) s F w).rows (h ∷ hs)
          ∙ ap first (at_grow (λ v. s ∷ []) F w.rows (g ∷ gs) h hs)
          ∙ first-cond (same_filter (h ∷ hs) (g ∷ gs)) (s ∷ []) (values_at hs (kid h F))
          ∙ sym
          (stored-set (h ∷ hs) (g ∷ gs) s (held F)
          ∙ ap (λ (o : Option Stored). cond (same_filter (h ∷ hs) (g ∷ gs)) (some s) o) (stored_at F w.rows (h ∷ hs)))

  pub erase-held : held (erase_f (g ∷ gs) F) ≡ erase_held (g ∷ gs) (held F)
  unfolding erase_f stored values_at
  erase-held =
      names_settled (held (erase_f (g ∷ gs) F)) (erase_held (g ∷ gs) (held F)) (well_names (erase_f (g ∷ gs) F) (erase_well (g ∷ gs) F w)) (names_erase (g ∷ gs) (held F) (well_names F w)) go
    where
      go : (n : Filter) → stored n (held (erase_f (g ∷ gs) F)) ≡ stored n (erase_held (g ∷ gs) (held F))
      go [] = stored_at (erase_f (g ∷ gs) F) (erase_well (g ∷ gs) F w).rows [] ∙ sym (stored_erase [] (g ∷ gs) (held F) ∙ stored_at F w.rows [])
      go (h ∷ hs) =
          stored_at (erase_f (g ∷ gs) F) (erase_well (g ∷ gs) F w).rows (h ∷ hs)
          ∙ ap first (at_cut (λ v. []) refl F w.rows (g ∷ gs) h hs)
          ∙ first-cond (same_filter (h ∷ hs) (g ∷ gs)) [] (values_at hs (kid h F))
          ∙ sym
          (stored_erase (h ∷ hs) (g ∷ gs) (held F)
          ∙ ap (λ (o : Option Stored). cond (same_filter (h ∷ hs) (g ∷ gs)) none o) (stored_at F w.rows (h ∷ hs)))
