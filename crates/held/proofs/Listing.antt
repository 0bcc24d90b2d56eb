-- What a listing has: exactly the matching held filters, each with its values, in order; and these settle it. Assumes nothing.
use mathlib.Core.Path.{◌≡◌, refl, sym, ap, ◌∙◌}
use mathlib.Core.Bool.{Bool, true, false, cond, ◌&&◌, ◌||◌}
use mathlib.Core.List.{List, [], ◌∷◌, map}
use mathlib.Core.Option.{Option, none, some}
use Rattle.topic.specs.Match.{match47}
use Rattle.held.specs.Order.{Filter, same_filter, listing_lt}
use Rattle.held.specs.Ascending.{find, All, keep, Asc}
use Rattle.held.specs.Subscriptions.{values_of, listing}
use Rattle.held.proofs.Orders.{filter_order, listing_order}
use Rattle.held.proofs.Entries.{all_keep, all-sort, all_map}
use Rattle.held.proofs.Stores.{or_else, find-sort, find-keep, asc-sort, ext}

-- the values, where there are some
abbrev pub some-of : {X : Type 0} → List X → Option (List X)
some-of [] = none
some-of (x ∷ v) = some (x ∷ v)

abbrev pub find_r : {X : Type 0} → Filter → List (Filter × List X) → Option (List X)
find_r f rs = find same_filter (λ r. r.0) (λ r. r.1) f rs

pub cond-none : {W : Type 0} (t : Bool) → ◌≡◌ {A = Option W} (cond t none none) none
cond-none true = refl
cond-none false = refl

pub or_else-none : {W : Type 0} (a : Option W) → or_else a none ≡ a
or_else-none none = refl
or_else-none (some w) = refl

pub or_else_self : {W : Type 0} (a : Option W) → or_else a a ≡ a
or_else_self none = refl
or_else_self (some w) = refl

pub or_else-cond : {W : Type 0} (s t : Bool) (a : Option W) → or_else (cond s a none) (cond t a none) ≡ cond (s || t) a none
or_else-cond true true a = or_else_self a
or_else-cond true false a = or_else-none a
or_else-cond false true a = refl
or_else-cond false false a = refl

pub cond-and : {W : Type 0} (s t : Bool) (a : Option W) → cond s (cond t a none) none ≡ cond (s && t) a none
cond-and true t a = refl
cond-and false t a = refl

-- the filters of a list l, with the values that they have in h
abbrev records_of : {X : Type 0} → List (Filter × X) → List (Filter × X) → List (Filter × List X)
records_of h l = map (λ p. (p.0, values_of p.0 h)) l

-- what a listing has, of any list of pairs
module _ {X : Type 0} where
  shown : List X → List X → Option (List X)
  shown [] w = none
  shown (x ∷ v) w = some w

  shown_self : (v : List X) → shown v v ≡ some-of v
  unfolding shown
  shown_self [] = refl
  shown_self (x ∷ v) = refl

  record_step : (f : Filter) (h l : List (Filter × X)) (p : Filter × X) → find_r f (records_of h l) ≡ shown (values_of f l) (values_of f h)
      → (t : Bool) → same_filter f p.0 ≡ t → find_r f (records_of h (p ∷ l)) ≡ shown (values_of f (p ∷ l)) (values_of f h)
  unfolding shown values_of
  record_step f h l p ih true e =
      let z : f ≡ p.0 = filter_order.eq_true f p.0 e in
      rw e (ap (λ (g : Filter). some (values_of g h)) (sym z))
  record_step f h l p ih false e = rw e ih

  find_records : (f : Filter) (h l : List (Filter × X)) → find_r f (records_of h l) ≡ shown (values_of f l) (values_of f h)
  unfolding shown values_of
  find_records f h [] = refl
  find_records f h (p ∷ l) = record_step f h l p (find_records f h l) (same_filter f p.0) refl

  -- exactly the held filters that match, each with its values
  pub listing_finds : (n : Filter) (h : List (Filter × X)) (f : Filter) → find_r f (listing n h) ≡ cond (match47 f n) (some-of (values_of f h)) none
  unfolding listing
  listing_finds n h f =
      find-sort (λ r. r.0) (λ r. r.1) listing_order f (keep (λ r. match47 r.0 n) (records_of h h))
      ∙ find-keep (λ r. r.0) (λ r. r.1) listing_order (λ f. match47 f n) f (records_of h h)
      ∙ ap (λ (w : Option (List X)). cond (match47 f n) w none) (find_records f h h ∙ shown_self (values_of f h))

  -- in the listing's order
  pub listing_asc : (n : Filter) (h : List (Filter × X)) → Asc listing_lt (λ r. r.0) (listing n h)
  unfolding listing
  listing_asc n h = asc-sort (λ r. r.0) (λ r. r.1) listing_order (keep (λ r. match47 r.0 n) (records_of h h))

  -- what every held filter has with its values, every record has
  pub listing-all : (P : Filter × List X → Type 0) (n : Filter) (h : List (Filter × X)) → All (λ (p : Filter × X). P (p.0, values_of p.0 h)) h → All P (listing n h)
  unfolding listing
  listing-all P n h a =
      all-sort P listing_lt (λ r. r.0) (keep (λ r. match47 r.0 n) (records_of h h))
      (all_keep P (λ r. match47 r.0 n) (records_of h h) (all_map P (λ (p : Filter × X). (p.0, values_of p.0 h)) h a))

  -- and these two settle it
  pub listing_only : (n : Filter) (h : List (Filter × X)) (rs : List (Filter × List X)) → Asc listing_lt (λ r. r.0) rs
      → ((f : Filter) → find_r f rs ≡ cond (match47 f n) (some-of (values_of f h)) none) → rs ≡ listing n h
  listing_only n h rs a e =
      ext (λ r. r.0) (λ r. r.1) listing_order (λ r s p q. λ i. (p i, q i)) rs (listing n h) a (listing_asc n h)
      (λ f. e f ∙ sym (listing_finds n h f))
