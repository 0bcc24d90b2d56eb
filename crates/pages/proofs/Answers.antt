-- What is written is the lookup, or the page, of what is held as a reader knows it. Assumes nothing.
use mathlib.Core.Path.{◌≡◌, ap, ◌∙◌}
use mathlib.Core.List.{List, [], ◌∷◌}
use Prim.Native.Nat.{ℕ, ◌≤◌}
use lib.ListN.{length}
use Rattle.lent.specs.Parts.{patch}
use Rattle.topic.specs.Match.{lead_wild}
use Rattle.held.specs.Order.{Filter}
use Rattle.held.specs.Retained.{lookup, lookup_bytes, page_bytes}
use Rattle.held.specs.Forest.{held}
use Rattle.held.specs.Walks.{hash}
use Rattle.held.specs.Stream.{row_bytes}
use Rattle.held.proofs.Streams.{lookup-bytes, page-bytes}
use Rattle.lookup.specs.Standing.{stored_in, Looked}

-- what `write_all` promises of a filter f
abbrev pub Writes : (clock offset limit base : ℕ) → List ℕ → (n : ℕ) → (f : Filter) (old new : List ℕ) → Type 0
Writes clock offset limit base s n f old new =
    Looked base s n → length (row_bytes clock offset limit 0 [] (lead_wild f) f (stored_in base s n)) ≤ length old
    → new ≡ patch 0 (row_bytes clock offset limit 0 [] (lead_wild f) f (stored_in base s n)) old

module _ (clock limit base : ℕ) (s : List ℕ) (n : ℕ) (old new : List ℕ) (l : Looked base s n) where
  -- where all the records are given
  pub lookup_written : (f : Filter) → Writes clock 0 limit base s n f old new → length (lookup f clock (held (stored_in base s n))) ≤ limit → length (lookup_bytes f clock (held (stored_in base s n))) ≤ length old
      → new ≡ patch 0 (lookup_bytes f clock (held (stored_in base s n))) old
  lookup_written f w h r =
      let e = lookup-bytes f clock limit (stored_in base s n) h in
      w l (rw e r) ∙ ap (λ (b : List ℕ). patch 0 b old) e

  -- the page
  pub page_written : (offset : ℕ) → Writes clock offset limit base s n (hash ∷ []) old new → length (page_bytes offset limit clock (held (stored_in base s n))) ≤ length old
      → new ≡ patch 0 (page_bytes offset limit clock (held (stored_in base s n))) old
  page_written offset w r =
      let e = page-bytes offset limit clock (stored_in base s n) in
      w l (rw e r) ∙ ap (λ (b : List ℕ). patch 0 b old) e
