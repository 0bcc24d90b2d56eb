-- Lookups and pages: what each answer rests on. Assumes nothing.
use Rattle.std.specs.Prelude.{Err, None, Ok, Option, Result, ⊤}
use Rattle.retain.specs.declared.Page.{Page}
use mathlib.Core.Path.{◌≡◌, refl, ap, ◌∙◌}
use mathlib.Core.Bool.{Bool, true, false, not}
use mathlib.Core.List.{List, [], ◌∷◌}
use Prim.Native.Nat.{ℕ, ◌+◌, ◌≤◌, ◌<◌}
use native.Mathlib.Omega.{arith}
use lib.Dec.{ltb}
use lib.ListN.{length}
use Rattle.refusal.specs.declared.Refusal.{Refusal}
use Rattle.refusal.specs.declared.Refusal.TheVariants.{NotAStore, ShortRoom}
use Rattle.level.specs.Levels.{split}
use Rattle.topic.specs.Rules.{filter_rules}
use Rattle.topic.specs.Answers.{checked}
use Rattle.held.specs.Retained.{Stored, lookup, lookup_bytes, lookup_rules, page_bytes, page_rules}
use Rattle.held.specs.Forest.{Forest, held}
use Rattle.held.specs.Walks.{hash}
use Rattle.region.specs.Units.{stored_of}
use Rattle.region.specs.Store.{forest_at, RetainedStore}
use Rattle.region.specs.declared.Shape.{Shape}
use Rattle.region.specs.Shapes.{UnitsOf, ShapeOf}
use Rattle.region.proofs.Instances.{records}
use Rattle.audit.specs.Decides.{Decides}
use Rattle.lookup.specs.declared.Found.{Found}
use Rattle.lookup.specs.Standing.{stored_in, Looked}
use Rattle.lookup.specs.Sizes.{Measured}
use Rattle.lookup.proofs.Answers.{forest_looked, LookupFound, lookup_found, PageFound, page_found}
use Rattle.pages.proofs.Answers.{Writes, lookup_written, page_written}
use Rattle.change.proofs.StoreLaws.{retained_holds}
use Rattle.sweep.proofs.StoreLaws.{retained_low}
use Rattle.edit.specs.declared.Listed.{Listed}
use Rattle.edit.specs.Given.{listed}
use Rattle.edit.specs.Given.{listed_by}
use Rattle.edit.proofs.KnownPath.{no_units-told, stands}
use Rattle.edit.proofs.GiveLaws.{give-none, give_refused, give_all, give_other, give_store, text_refuses, buffer_short, buffer-fits}
use Rattle.retain.specs.Lookups.{paged}
use Rattle.retain.specs.Calls.{held_in}
use Rattle.retain.specs.Lookups.{LooksKnown, Looks, PagesKnown, Pages, page_answer}

-- the forest of a store stands in its units, and is at most 128 deep
module _ (s : List ℕ) {base n room : ℕ} (units : UnitsOf s base n room) where
  module _ (st : RetainedStore s) where
    abbrev F : Forest Stored
    F = forest_at stored_of s

    rests : Looked base s n × (stored_in base s n ≡ F)
    rests = forest_looked base s n F (stands records 2 s units F (retained_holds s st)) st.well.owns (retained_low s st)

    looked : Looked base s n
    looked = rests.0

    held_are : held (stored_in base s n) ≡ held_in s
    held_are = ap held rests.1

-- the lookup
module _ (s filter : List ℕ) (clock : ℕ) where
  abbrev found : List ℕ
  found = lookup_bytes (split filter) clock (held_in s)

  abbrev look_answer : Result ⊤ Refusal → Result Listed Refusal
  look_answer = listed_by found (length (lookup (split filter) clock (held_in s)))

  pub look_none : (out : List ℕ) {r : Option Shape} → ShapeOf s r → r ≡ None → LooksKnown s filter clock out out (Err NotAStore)
  look_none out h e =
      give-none (RetainedStore s) (lookup_rules filter clock (length out) (held_in s)) look_answer found
      (λ (st : RetainedStore s). no_units-told records 2 s (forest_at stored_of s) (retained_holds s st) h e) out (Err NotAStore)

  module _ {base n room : ℕ} (units : UnitsOf s base n room) (fine : checked (filter_rules filter) ≡ Ok tt) {m : Found} (sized : Measured clock 0 18446744073709551615 base s n (split filter) m) where
    is : (st : RetainedStore s) → LookupFound (split filter) clock (held_in s) m
    is st =
        let l : n ≤ 18446744073709551615 = omega (arith, units.within, units.small) in
        rw (held_are s units st) at (lookup_found clock 18446744073709551615 base s n (split filter) m sized (looked s units st) l)

    pub look_short : (out : List ℕ) → length out < m.bytes → LooksKnown s filter clock out out (Err (ShortRoom m.bytes))
    look_short out h =
        give_refused (RetainedStore s) (lookup_rules filter clock (length out) (held_in s)) look_answer found out (ShortRoom m.bytes)
        (λ (st : RetainedStore s). buffer_short (filter_rules filter) found out fine (is st).bytes_are h)

    pub look_given : (out after : List ℕ) → m.bytes ≤ length out → Writes clock 0 18446744073709551615 base s n (split filter) out after
        → LooksKnown s filter clock out after (listed m.bytes m.records)
    look_given out after h w =
        give_all (RetainedStore s) (lookup_rules filter clock (length out) (held_in s)) look_answer found out after
        (λ (st : RetainedStore s). buffer-fits (filter_rules filter) found out fine (is st).bytes_are h) (listed m.bytes m.records)
        (λ (st : RetainedStore s). rw ((is st).bytes_are, (is st).records_are))
        (λ (st : RetainedStore s).
        let e = held_are s units st in
        let l : length (lookup (split filter) clock (held (stored_in base s n))) ≤ 18446744073709551615 = rw e (omega (arith, (is st).total_is, sized.few, units.within, units.small)) in
        let r : length (lookup_bytes (split filter) clock (held (stored_in base s n))) ≤ length out = rw e (omega (arith, (is st).bytes_are, h)) in
        rw e at (lookup_written clock 18446744073709551615 base s n out after (looked s units st) (split filter) w l r))

  -- the filter is tested before the walk
  module _ {k : Result ⊤ Refusal} (e : k ≡ checked (filter_rules filter)) where
    pub look_refused : (out : List ℕ) {x : Refusal} → k ≡ Err x → LooksKnown s filter clock out out (Err x)
    look_refused out {x} q =
        give_refused (RetainedStore s) (lookup_rules filter clock (length out) (held_in s)) look_answer found out x
        (λ (st : RetainedStore s). text_refuses (filter_rules filter) found out e q)

  -- and the region before the filter
  module _ {t : Bool} (d : Decides t (RetainedStore s)) where
    pub look_other : (out : List ℕ) → not t ≡ true → Looks s filter clock out out (Err NotAStore)
    look_other out h = give_other (RetainedStore s) (lookup_rules filter clock (length out) (held_in s)) look_answer found d out h

    pub look_store : {out : List ℕ} → not t ≡ false → {after : List ℕ} {r : Result Listed Refusal} → LooksKnown s filter clock out after r → Looks s filter clock out after r
    look_store {out} h a = give_store (RetainedStore s) (lookup_rules filter clock (length out) (held_in s)) look_answer found d h a

-- a page
module _ (s : List ℕ) (clock offset limit : ℕ) where
  abbrev page_out : List ℕ
  page_out = page_bytes offset limit clock (held_in s)

  pub page-none : (out : List ℕ) {r : Option Shape} → ShapeOf s r → r ≡ None → PagesKnown s clock offset limit out out (Err NotAStore)
  page-none out h e =
      give-none (RetainedStore s) (page_rules offset limit clock (length out) (held_in s)) (page_answer s clock offset limit) page_out
      (λ (st : RetainedStore s). no_units-told records 2 s (forest_at stored_of s) (retained_holds s st) h e) out (Err NotAStore)

  module _ {base n room : ℕ} (units : UnitsOf s base n room) {m : Found} (sized : Measured clock offset limit base s n (hash ∷ []) m) where
    page_is : (st : RetainedStore s) → PageFound offset limit clock (held_in s) m
    page_is st = rw (held_are s units st) at (page_found clock offset limit base s n m sized (looked s units st))

    pub page_short : (out : List ℕ) → length out < m.bytes → PagesKnown s clock offset limit out out (Err (ShortRoom m.bytes))
    page_short out h =
        give_refused (RetainedStore s) (page_rules offset limit clock (length out) (held_in s)) (page_answer s clock offset limit) page_out out (ShortRoom m.bytes)
        (λ (st : RetainedStore s). buffer_short [] page_out out refl (page_is st).bytes_are h)

    pub page_given : (out after : List ℕ) {follows : Bool} → follows ≡ ltb (offset + limit) m.total → m.bytes ≤ length out → Writes clock offset limit base s n (hash ∷ []) out after
        → PagesKnown s clock offset limit out after (paged m.bytes m.records follows)
    page_given out after {follows} e h w =
        give_all (RetainedStore s) (page_rules offset limit clock (length out) (held_in s)) (page_answer s clock offset limit) page_out out after
        (λ (st : RetainedStore s). buffer-fits [] page_out out refl (page_is st).bytes_are h) (paged m.bytes m.records follows)
        (λ (st : RetainedStore s). rw ((page_is st).bytes_are, (page_is st).records_are, e ∙ (page_is st).more_is))
        (λ (st : RetainedStore s).
        let z = held_are s units st in
        let r : length (page_bytes offset limit clock (held (stored_in base s n))) ≤ length out = rw z (omega (arith, (page_is st).bytes_are, h)) in
        rw z at (page_written clock limit base s n out after (looked s units st) offset w r))

  module _ {t : Bool} (d : Decides t (RetainedStore s)) where
    pub page_other : (out : List ℕ) → not t ≡ true → Pages s clock offset limit out out (Err NotAStore)
    page_other out h = give_other (RetainedStore s) (page_rules offset limit clock (length out) (held_in s)) (page_answer s clock offset limit) page_out d out h

    pub page_store : {out : List ℕ} → not t ≡ false → {after : List ℕ} {r : Result Page Refusal} → PagesKnown s clock offset limit out after r → Pages s clock offset limit out after r
    page_store {out} h a = give_store (RetainedStore s) (page_rules offset limit clock (length out) (held_in s)) (page_answer s clock offset limit) page_out d h a
