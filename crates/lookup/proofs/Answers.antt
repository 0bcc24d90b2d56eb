-- What is measured is the lookup, or the page, of what is held as a reader knows it. Assumes nothing.
use mathlib.Core.Path.{◌≡◌, ap, ◌∙◌}
use mathlib.Core.List.{List, [], ◌∷◌}
use Prim.Native.Nat.{ℕ, ◌+◌, ◌≤◌}
use native.Mathlib.Omega.{arith}
use lib.Dec.{ltb}
use lib.ListN.{length, length-take, length-drop}
use Rattle.held.specs.Order.{Filter}
use Rattle.held.specs.Retained.{Stored, Named, lookup, lookup_bytes, page, page_bytes, more}
use Rattle.held.specs.Sized.{SmallStored}
use Rattle.held.specs.Forest.{Forest, held, Owns, Single}
use Rattle.held.specs.Walks.{hash}
use Rattle.held.proofs.Streams.{lookup-bytes, page-bytes, lookup_count, page-more}
use Rattle.region.specs.Units.{stored_bytes}
use Rattle.region.proofs.Instances.{records}
use Rattle.forest.specs.Stands.{Stands}
use Rattle.forest.proofs.StandsLaws.{stands_read}
use Rattle.walk.specs.Height.{height_f}
use Rattle.lookup.specs.declared.Found.{Found}
use Rattle.lookup.specs.Standing.{stored_in, Looked}
use Rattle.lookup.specs.Sizes.{Measured}

-- a forest that stands in the units is the one that a lookup rests on
pub forest_looked : (base : ℕ) (s : List ℕ) (n : ℕ) (F : Forest Stored) → Stands stored_bytes SmallStored base s 1 0 n F → Owns Single F → height_f F ≤ 128 → Looked base s n × (stored_in base s n ≡ F)
forest_looked base s n F w o h =
    let e : stored_in base s n ≡ F = stands_read records base s 1 0 n F w in
    (rw e (record { stands = w; single = o; low = h }), e)

-- the lookup of a filter: all its records are given
pub record LookupFound (f : Filter) (clock : ℕ) (h : List Named) (r : Found) : Type 0 where
  pub bytes_are : r.bytes ≡ length (lookup_bytes f clock h)
  pub records_are : r.records ≡ length (lookup f clock h)
  pub total_is : r.total ≡ length (lookup f clock h)

pub lookup_found : (clock limit base : ℕ) (s : List ℕ) (n : ℕ) (f : Filter) (r : Found) → Measured clock 0 limit base s n f r → Looked base s n → n ≤ limit
    → LookupFound f clock (held (stored_in base s n)) r
lookup_found clock limit base s n f r m l h =
    let t : r.total ≡ length (lookup f clock (held (stored_in base s n))) = m.total_is l ∙ lookup_count f clock (stored_in base s n) in
    record {
      bytes_are = m.bytes_are l ∙ ap length (lookup-bytes f clock limit (stored_in base s n) (omega (arith, t, m.few, h)));
      records_are = omega (arith, m.records_are, m.few, t, h);
      total_is = t;
    }

-- a page: so many records of the lookup of '#', and whether more follow
pub record PageFound (offset limit clock : ℕ) (h : List Named) (r : Found) : Type 0 where
  pub bytes_are : r.bytes ≡ length (page_bytes offset limit clock h)
  pub records_are : r.records ≡ length (page offset limit clock h)
  pub more_is : ltb (offset + limit) r.total ≡ more offset limit clock h

pub page_found : (clock offset limit base : ℕ) (s : List ℕ) (n : ℕ) (r : Found) → Measured clock offset limit base s n (hash ∷ []) r → Looked base s n
    → PageFound offset limit clock (held (stored_in base s n)) r
unfolding page
page_found clock offset limit base s n r m l =
    let t : r.total ≡ length (lookup (hash ∷ []) clock (held (stored_in base s n))) = m.total_is l ∙ lookup_count (hash ∷ []) clock (stored_in base s n) in
    record {
      bytes_are = m.bytes_are l ∙ ap length (page-bytes offset limit clock (stored_in base s n));
      records_are = rw (length-take, length-drop) (omega (arith, m.records_are, t));
      more_is = ap (ltb (offset + limit)) (m.total_is l) ∙ page-more offset limit clock (stored_in base s n);
    }
