-- Which pairs are in a listing: those that are held and whose filter takes the name. Assumes nothing.
use mathlib.Core.Path.{◌≡◌, refl, sym, ap, ◌∙◌}
use Prim.Native.Nat.{ℕ}
use mathlib.Core.Bool.{Bool, true, false, not, cond, ◌&&◌, ◌||◌, and-true, and-false, or-false}
use mathlib.Core.List.{List, [], ◌∷◌, map}
use mathlib.Core.Option.{Option, none, some}
use native.Mathlib.Omega.{arith}
use lib.Dec.{eqb, ltb}
use lib.ListN.{length}
use Rattle.level.specs.Levels.{split}
use Rattle.topic.specs.Match.{match47}
use Rattle.held.specs.Order.{Filter, same_filter, filter_lt, same_pair, pair_lt, listing_lt}
use Rattle.held.specs.Ascending.{any, All, keep, Below, Asc}
use Rattle.held.specs.Room.{Room}
use Rattle.held.specs.History.{run, has_room}
use Rattle.held.specs.Subscriptions.{Pair, AscPairs, Call, subscriptions, is_held, values_of, listing, listing_bytes}
use Rattle.held.specs.Forest.{AscValues}
use Rattle.held.specs.Caught.{is_listed, Caught}
use Rattle.held.proofs.Orders.{filter_order, listing_order}
use Rattle.held.proofs.Stores.{find_below}
use Rattle.held.proofs.Entries.{all_with}
use Rattle.held.proofs.Listing.{some-of, find_r, listing_finds, listing_asc, listing-all}
use Rattle.held.proofs.Histories.{history-held, run_pairs}

-- a value is among those of a filter exactly when the pair is held
value-held : (f : Filter) (v : ℕ) (h : List Pair) → any (eqb v) (values_of f h) ≡ is_held (f, v) h
unfolding values_of is_held
value-held f v [] = refl
value-held f v (p ∷ h) = go (same_filter f p.0) (value-held f v h)
  where
    go : (t : Bool) → any (eqb v) (map (λ p. p.1) (keep (λ p. same_filter f p.0) h)) ≡ any (same_pair (f, v)) h
        → any (eqb v) (map (λ p. p.1) (cond t (p ∷ keep (λ p. same_filter f p.0) h) (keep (λ p. same_filter f p.0) h))) ≡ ((t && eqb v p.1) || any (same_pair (f, v)) h)
    go true e = ap (λ (b : Bool). eqb v p.1 || b) e
    go false e = e

-- in records that ascend, a pair is found with its filter
abbrev among : ℕ → Option (List ℕ) → Bool
among v none = false
among v (some w) = any (eqb v) w

among_some : (v : ℕ) (w : List ℕ) → among v (some-of w) ≡ any (eqb v) w
among_some v [] = refl
among_some v (x ∷ w) = refl

listed_found : (p : Pair) (rs : List (Filter × List ℕ)) → Asc listing_lt (λ r. r.0) rs → is_listed p rs ≡ among p.1 (find_r p.0 rs)
listed_found p [] a = refl
listed_found p (r ∷ rs) a = go (same_filter p.0 r.0) refl (listed_found p rs a.1)
  where
    last : p.0 ≡ r.0 → find_r p.0 rs ≡ none
    last z = rw z (find_below (λ r. r.0) (λ r. r.1) listing_order r.0 rs a.0)

    go : (t : Bool) → same_filter p.0 r.0 ≡ t → is_listed p rs ≡ among p.1 (find_r p.0 rs)
        → ((t && any (eqb p.1) r.1) || is_listed p rs) ≡ among p.1 (cond t (some r.1) (find_r p.0 rs))
    go true q e =
        let none_behind : is_listed p rs ≡ false = e ∙ ap (among p.1) (last (filter_order.eq_true p.0 r.0 q)) in
        rw none_behind (or-false (any (eqb p.1) r.1))
    go false q e = e

pub listed_exactly : (p : Pair) (n : Filter) (h : List Pair) → is_listed p (listing n h) ≡ (is_held p h && match47 p.0 n)
listed_exactly p n h = listed_found p (listing n h) (listing_asc n h) ∙ ap (among p.1) (listing_finds n h p.0) ∙ go (match47 p.0 n)
  where
    go : (t : Bool) → among p.1 (cond t (some-of (values_of p.0 h)) none) ≡ (is_held p h && t)
    go true = among_some p.1 (values_of p.0 h) ∙ value-held p.0 p.1 h ∙ sym (and-true (is_held p h))
    go false = sym (and-false (is_held p h))

-- the values of each record ascend
same-less : (f g : Filter) (v x : ℕ) → f ≡ g → (filter_lt f g || (not (filter_lt g f) && ltb v x)) ≡ true → ltb v x ≡ true
same-less f g v x z e = rw (z, filter_order.irrefl g) at e

values_below : (f : Filter) (v : ℕ) (h : List Pair) → Below pair_lt (λ p. p) (f, v) h → Below ltb (λ y. y) v (values_of f h)
unfolding values_of
values_below f v [] b = tt
values_below f v (q ∷ h) b = go (same_filter f q.0) refl (values_below f v h b.1)
  where
    go : (t : Bool) → same_filter f q.0 ≡ t → Below ltb (λ y. y) v (map (λ p. p.1) (keep (λ p. same_filter f p.0) h))
        → Below ltb (λ y. y) v (map (λ p. p.1) (cond t (q ∷ keep (λ p. same_filter f p.0) h) (keep (λ p. same_filter f p.0) h)))
    go true e r = (same-less f q.0 v q.1 (filter_order.eq_true f q.0 e) b.0, r)
    go false e r = r

values_asc : (f : Filter) (h : List Pair) → AscPairs h → AscValues (values_of f h)
unfolding values_of
values_asc f [] a = tt
values_asc f (p ∷ h) a = go (same_filter f p.0) refl (values_asc f h a.1)
  where
    first : f ≡ p.0 → Below ltb (λ y. y) p.1 (values_of f h)
    first z = values_below f p.1 h (rw z a.0)

    go : (t : Bool) → same_filter f p.0 ≡ t → Asc ltb (λ y. y) (map (λ p. p.1) (keep (λ p. same_filter f p.0) h))
        → Asc ltb (λ y. y) (map (λ p. p.1) (cond t (p ∷ keep (λ p. same_filter f p.0) h) (keep (λ p. same_filter f p.0) h)))
    go true e r = (first (filter_order.eq_true f p.0 e), r)
    go false e r = r

listing_values : (n : Filter) (h : List Pair) → AscPairs h → All (λ (r : Filter × List ℕ). AscValues r.1) (listing n h)
listing_values n h a = listing-all (λ (r : Filter × List ℕ). AscValues r.1) n h (each_asc h)
  where
    each_asc : (l : List Pair) → All (λ (p : Pair). AscValues (values_of p.0 h)) l
    each_asc [] = tt
    each_asc (p ∷ l) = (values_asc p.0 h a, each_asc l)

-- no record is without values
values-more : (f : Filter) (q : Pair) (h : List Pair) → values_of f (q ∷ h) ≡ [] → values_of f h ≡ []
unfolding values_of
values-more f q h e = go (same_filter f q.0) e
  where
    go : (t : Bool) → map (λ p. p.1) (cond t (q ∷ keep (λ p. same_filter f p.0) h) (keep (λ p. same_filter f p.0) h)) ≡ [] → map (λ p. p.1) (keep (λ p. same_filter f p.0) h) ≡ []
    go true e = cc
    go false e = e

values_some : (h : List Pair) → All (λ (p : Pair). values_of p.0 h ≡ [] → ⊥) h
unfolding values_of
values_some [] = tt
values_some (q ∷ h) = (first, all_with (λ (p : Pair). values_of p.0 h ≡ [] → ⊥) (λ (p : Pair). values_of p.0 (q ∷ h) ≡ [] → ⊥) (λ p n e. n (values-more p.0 q h e)) h (values_some h))
  where
    first : values_of q.0 (q ∷ h) ≡ [] → ⊥
    first e = let z : q.1 ∷ values_of q.0 h ≡ [] = (rw (filter_order.eq_refl q.0) at e) in absurd_cons z
      where
        absurd_cons : {x : ℕ} {l : List ℕ} → x ∷ l ≡ [] → ⊥
        absurd_cons e = let z : ◌≡◌ {A = ℕ} 0 1 = cc in omega arith

listing_some : (n : Filter) (h : List Pair) → All (λ (r : Filter × List ℕ). r.1 ≡ [] → ⊥) (listing n h)
listing_some n h = listing-all (λ (r : Filter × List ℕ). r.1 ≡ [] → ⊥) n h (values_some h)

-- after a history in which none is refused for room
pub history_caught : (r : Room) (cs : List Call) → has_room subscriptions r cs [] ≡ true → (name : List ℕ)
    → Caught cs name (listing_bytes (split name) (run subscriptions r cs [])) (length (listing (split name) (run subscriptions r cs [])))
unfolding listing_bytes is_held
history_caught r cs room name =
    let h : List Pair = run subscriptions r cs [] in
    record {
      records = listing (split name) h;
      written = refl;
      counted = refl;
      exactly = λ p. listed_exactly p (split name) h ∙ ap (λ (b : Bool). b && match47 p.0 (split name)) (history-held p r cs [] room);
      in_order = listing_asc (split name) h;
      some_value = listing_some (split name) h;
      values_ascend = listing_values (split name) h (run_pairs r cs);
    }
