-- Asking a store about a name: the walk over its forest answers for what it holds. Assumes nothing.
use Rattle.std.specs.Prelude.{Err, None, Ok, Option, Result, ⊤}
use mathlib.Core.Path.{◌≡◌, refl, sym, ap, ◌∙◌}
use mathlib.Core.Bool.{Bool, true, false, not}
use mathlib.Core.List.{List, [], ◌∷◌}
use Prim.Native.Nat.{ℕ, ◌^◌, ◌≤◌, ◌<◌}
use native.Mathlib.Omega.{arith}
use native.Mathlib.Nat.{le_trans}
use lib.ListN.{length}
use Rattle.refusal.specs.declared.Refusal.{Refusal}
use Rattle.refusal.specs.declared.Refusal.TheVariants.{NotAStore, ShortRoom}
use Rattle.lent.specs.Parts.{patch}
use Rattle.lent.proofs.Turns.{patch-none}
use Rattle.level.specs.Levels.{split}
use Rattle.level.proofs.Join.{join-split}
use Rattle.topic.specs.Rules.{filter_rules, name_rules}
use Rattle.topic.specs.Answers.{checked}
use Rattle.held.specs.Order.{Filter}
use Rattle.held.specs.History.{accepted}
use Rattle.held.specs.Subscriptions.{listing, is_match, listing_bytes, listing_rules}
use Rattle.held.specs.Forest.{Forest, held}
use Rattle.held.specs.Stream.{list_bytes, list_count, list_hit}
use Rattle.held.proofs.Entries.{all_with}
use Rattle.held.proofs.Texts.{name-plain, name_written}
use Rattle.held.proofs.ByTexts.{list_text, match_text}
use Rattle.region.specs.Units.{value_bytes, value_of}
use Rattle.region.specs.Store.{forest_at, Accepts, SubscriptionStore}
use Rattle.region.specs.declared.Shape.{Shape}
use Rattle.region.specs.Shapes.{UnitsOf, ShapeOf}
use Rattle.region.proofs.Instances.{values}
use Rattle.forest.specs.Stands.{Stands}
use Rattle.forest.proofs.StandsLaws.{stands_read}
use Rattle.walk.specs.declared.Measured.{Measured}
use Rattle.walk.specs.Nodes.{Listed as Walked, values_in}
use Rattle.walk.specs.Bounds.{AtMost}
use Rattle.walk.specs.Sizes.{Sized, nothing}
use Rattle.walk.proofs.HeldHeights.{Short, height-held}
use Rattle.walk.proofs.Small.{Exact, measured}
use Rattle.listing.specs.Written.{Added}
use Rattle.change.proofs.HoldsLaws.{units-within, room_small}
use Rattle.change.proofs.StoreLaws.{store_holds}
use Rattle.audit.specs.Decides.{Decides}
use Rattle.edit.proofs.KnownPath.{no_units-told, all_is, stands}
use Rattle.edit.specs.declared.Listed.{Listed}
use Rattle.edit.specs.Given.{listed}
use Rattle.edit.specs.Given.{listed_by}
use Rattle.edit.proofs.CallLaws.{none, one}
use Rattle.edit.proofs.GiveLaws.{give-none, give_refused, give_all, give_other, give_store, text_refuses, buffer_short, buffer-fits}
use Rattle.trie.specs.Calls.{held_in}
use Rattle.trie.specs.Listings.{matched_by, Asks, AsksKnown, Lists, ListsKnown}

-- the forest of a store stands in its units, and is at most 128 deep
module _ (s : List ℕ) {base n room : ℕ} (units : UnitsOf s base n room) (st : SubscriptionStore s) where
  abbrev F : Forest ℕ
  F = forest_at value_of s

  stood : Stands value_bytes (λ (x : ℕ). x < 256 ^ 4) base s 1 0 n F
  stood = stands values 1 s units F (store_holds s st)

  pub values_are : values_in base s n ≡ F
  values_are = stands_read values base s 1 0 n F stood

  pub walked : Walked base s n
  walked =
      record {
        stands = rw values_are stood;
        shallow = rw values_are (height-held F 128 st.well.full (all_with (λ (e : Filter × ℕ). Accepts filter_rules e.0) (Short 128) (λ (e : Filter × ℕ) (a : Accepts filter_rules e.0). a.depth) (held F) st.texts));
      }

-- is_match
answered : {k : Result ⊤ Refusal} (b : Bool) (r : Result Bool Refusal) → k ≡ Ok tt → r ≡ Ok b → r ≡ matched_by k b
answered b r e q = rw e q

module _ (s name : List ℕ) where
  pub ask-none : {r : Option Shape} → ShapeOf s r → r ≡ None → AsksKnown s name (Err NotAStore)
  ask-none h e = record { told = λ (st : SubscriptionStore s). absurd (no_units-told values 1 s (forest_at value_of s) (store_holds s st) h e) }

  module _ {base n room : ℕ} (units : UnitsOf s base n room) (fine : checked (name_rules name) ≡ Ok tt) where
    hit_is : (st : SubscriptionStore s) {t : Bool} → (Walked base s n → t ≡ list_hit (split name) (values_in base s n)) → t ≡ is_match (split name) (held_in s)
    hit_is st f = f (walked s units st) ∙ ap (list_hit (split name)) (values_are s units st) ∙ match_text name (ap accepted fine) (forest_at value_of s) st.well

    pub ask_is : {t : Bool} → (Walked base s n → t ≡ list_hit (split name) (values_in base s n)) → AsksKnown s name (Ok t)
    ask_is {t} f = record { told = λ (st : SubscriptionStore s). answered (is_match (split name) (held_in s)) (Ok t) fine (ap (λ (b : Bool). Ok b) (hit_is st f)) }

-- the listing
patch_empty : (v s : List ℕ) → length v ≡ 0 → patch 0 v s ≡ s
patch_empty [] s h = patch-none 0 s
patch_empty (x ∷ v) s h = absurd (omega (arith, h))

module _ (s name : List ℕ) where
  abbrev out-bytes : List ℕ
  out-bytes = listing_bytes (split name) (held_in s)

  abbrev list_answer : Result ⊤ Refusal → Result Listed Refusal
  list_answer = listed_by out-bytes (length (listing (split name) (held_in s)))

  pub list-none : (out : List ℕ) {r : Option Shape} → ShapeOf s r → r ≡ None → ListsKnown s name out out (Err NotAStore)
  list-none out h e =
      give-none (SubscriptionStore s) (listing_rules name (length out) (held_in s)) list_answer out-bytes
      (λ (st : SubscriptionStore s). no_units-told values 1 s (forest_at value_of s) (store_holds s st) h e) out (Err NotAStore)

  -- what is written, where it fits
  module _ {base n room : ℕ} (units : UnitsOf s base n room) (fine : checked (name_rules name) ≡ Ok tt) where
    bytes_as : SubscriptionStore s → list_bytes (split name) (values_in base s n) ≡ listing_bytes (split name) (held_in s)
    bytes_as st = ap (list_bytes (split name)) (values_are s units st) ∙ (list_text name (ap accepted fine) (forest_at value_of s) st.well).0

    records_as : SubscriptionStore s → list_count (split name) (values_in base s n) ≡ length (listing (split name) (held_in s))
    records_as st = ap (list_count (split name)) (values_are s units st) ∙ (list_text name (ap accepted fine) (forest_at value_of s) st.well).1

    list_written : (out after : List ℕ) (all : Measured) → (SubscriptionStore s → length (list_bytes (split name) (values_in base s n)) ≤ length out)
        → (Walked base s n → Added out after nothing (list_bytes (split name) (values_in base s n)) (list_count (split name) (values_in base s n)) all)
        → ListsKnown s name out after (listed all.bytes all.records)
    list_written out after all fits w =
        give_all (SubscriptionStore s) (listing_rules name (length out) (held_in s)) list_answer out-bytes out after
        (λ (st : SubscriptionStore s). buffer-fits (name_rules name) out-bytes out fine (bytes_is st) (omega (arith, place st, fits st))) (listed all.bytes all.records)
        (λ (st : SubscriptionStore s). rw (bytes_is st, records_is st))
        (λ (st : SubscriptionStore s). rw (bytes_as st) at ((w (walked s units st)).wrote.stored (omega (arith, fits st))))
      where
        place : SubscriptionStore s → all.bytes ≡ length (list_bytes (split name) (values_in base s n))
        place st = (w (walked s units st)).wrote.place (omega (arith, fits st)) ∙ omega arith

        bytes_is : SubscriptionStore s → all.bytes ≡ length (listing_bytes (split name) (held_in s))
        bytes_is st = place st ∙ ap length (bytes_as st)

        records_is : SubscriptionStore s → all.records ≡ length (listing (split name) (held_in s))
        records_is st = (w (walked s units st)).records_are (omega (arith, fits st)) ∙ omega arith ∙ records_as st

  -- what is measured
  module _ {base n room : ℕ} (units : UnitsOf s base n room) (fine : checked (name_rules name) ≡ Ok tt) (size : length name ≤ 65535) {m : Measured}
      (sized : Walked base s n → Sized nothing (length (list_bytes (split name) (values_in base s n))) (list_count (split name) (values_in base s n)) m) where
    module _ (st : SubscriptionStore s) where
      few : n ≤ 65535
      few = omega (arith, all_is values 1 s units (forest_at value_of s) (store_holds s st), units-within values 1 s (forest_at value_of s) (store_holds s st), room_small values 1 s (forest_at value_of s) (store_holds s st))

      exact : Exact (length (list_bytes (split name) (values_in base s n))) (list_count (split name) (values_in base s n)) m
      exact = measured base n s name m (walked s units st) few size (name-plain name (ap accepted fine)) (sized (walked s units st))

      bytes_is : m.bytes ≡ length (listing_bytes (split name) (held_in s))
      bytes_is = exact.bytes_are ∙ ap length (bytes_as units fine st)

      records_is : m.records ≡ length (listing (split name) (held_in s))
      records_is = exact.records_are ∙ records_as units fine st

    pub list_short : (out : List ℕ) → length out < m.bytes → ListsKnown s name out out (Err (ShortRoom m.bytes))
    list_short out h =
        give_refused (SubscriptionStore s) (listing_rules name (length out) (held_in s)) list_answer out-bytes out (ShortRoom m.bytes)
        (λ (st : SubscriptionStore s). buffer_short (name_rules name) out-bytes out fine (bytes_is st) h)

    pub list_empty : (out : List ℕ) → m.bytes ≡ 0 → ListsKnown s name out out (listed m.bytes m.records)
    list_empty out h =
        give_all (SubscriptionStore s) (listing_rules name (length out) (held_in s)) list_answer out-bytes out out
        (λ (st : SubscriptionStore s). buffer-fits (name_rules name) out-bytes out fine (bytes_is st) (omega (arith, h))) (listed m.bytes m.records)
        (λ (st : SubscriptionStore s). rw (bytes_is st, records_is st))
        (λ (st : SubscriptionStore s). sym (patch_empty out-bytes out (sym (bytes_is st) ∙ h)))

    pub list_given : (out after : List ℕ) → m.bytes ≤ length out → (all : Measured)
        → (Walked base s n → Added out after nothing (list_bytes (split name) (values_in base s n)) (list_count (split name) (values_in base s n)) all)
        → ListsKnown s name out after (listed all.bytes all.records)
    list_given out after h all w = list_written units fine out after all (λ st. omega (arith, (exact st).bytes_are, h)) w

  -- without measuring, where every listing fits
  pub list_at_once : {base n room : ℕ} → UnitsOf s base n room → checked (name_rules name) ≡ Ok tt → (out after : List ℕ) {most : ℕ} → AtMost n name most → most ≤ length out
      → (all : Measured) → (Walked base s n → Added out after nothing (list_bytes (split name) (values_in base s n)) (list_count (split name) (values_in base s n)) all)
      → ListsKnown s name out after (listed all.bytes all.records)
  list_at_once {base} {n} units fine out after bound h all w =
      list_written units fine out after all
      (λ st. le_trans (bound.is (values_in base s n) (omega (arith, (walked s units st).stands.size)) (name-plain name (ap accepted fine))) h) w

-- the name is tested before the walk
module _ (s name : List ℕ) {k : Result ⊤ Refusal} (e : k ≡ checked (name_rules name)) where
  pub ask_refused : {x : Refusal} → k ≡ Err x → AsksKnown s name (Err x)
  ask_refused q = record { told = λ (st : SubscriptionStore s). ap (λ (c : Result ⊤ Refusal). matched_by c (is_match (split name) (held_in s))) (sym (sym e ∙ q)) }

  pub list_refused : (out : List ℕ) {x : Refusal} → k ≡ Err x → ListsKnown s name out out (Err x)
  list_refused out {x} q =
      give_refused (SubscriptionStore s) (listing_rules name (length out) (held_in s)) (list_answer s name) (out-bytes s name) out x
      (λ (st : SubscriptionStore s). text_refuses (name_rules name) (out-bytes s name) out e q)

  pub name_size : k ≡ Ok tt → length name ≤ 65535
  name_size q = rw (join-split name) at (name_written name (ap accepted (sym e ∙ q))).short

-- and the region before the name
module _ (s name : List ℕ) {t : Bool} (d : Decides t (SubscriptionStore s)) where
  pub ask_other : not t ≡ true → Asks s name (Err NotAStore)
  ask_other h = record { on_store = record { told = λ (st : SubscriptionStore s). absurd (none d h st) }; on_other = λ (n : SubscriptionStore s → ⊥). refl }

  pub ask_store : not t ≡ false → {r : Result Bool Refusal} → AsksKnown s name r → Asks s name r
  ask_store h a = record { on_store = a; on_other = λ (n : SubscriptionStore s → ⊥). absurd (n (one d h)) }

  pub list_other : (out : List ℕ) → not t ≡ true → Lists s name out out (Err NotAStore)
  list_other out h = give_other (SubscriptionStore s) (listing_rules name (length out) (held_in s)) (list_answer s name) (out-bytes s name) d out h

  pub list_store : {out : List ℕ} → not t ≡ false → {after : List ℕ} {r : Result Listed Refusal} → ListsKnown s name out after r → Lists s name out after r
  list_store {out} h a = give_store (SubscriptionStore s) (listing_rules name (length out) (held_in s)) (list_answer s name) (out-bytes s name) d h a
