-- A node's own record: it is one or none, and what it gives. Assumes nothing.
use Rattle.std.specs.Prelude.{None, Some}
use mathlib.Core.Path.{◌≡◌, refl, ◌∙◌}
use mathlib.Core.Bool.{Bool, true, false, cond}
use mathlib.Core.List.{List, [], ◌∷◌, append-nil}
use Prim.Native.Nat.{ℕ, ◌+◌, ◌*◌, ◌≤◌, ◌<◌}
use native.Mathlib.Omega.{arith}
use lib.ListN.{length, length-append}
use Rattle.lent.specs.Numbers.{bytes}
use Rattle.lent.specs.Parts.{part}
use Rattle.lent.proofs.Digits.{length-bytes}
use Rattle.level.specs.Levels.{join}
use Rattle.topic.specs.Match.{takes}
use Rattle.held.specs.Order.{Filter}
use Rattle.held.specs.Ascending.{All}
use Rattle.held.specs.Bytes.{each}
use Rattle.held.specs.Forest.{Single}
use Rattle.held.specs.Retained.{Stored, unexpired, left, name_record}
use Rattle.held.specs.Sized.{SmallStored}
use Rattle.held.specs.Stream.{in_page, own_count, own_bytes}
use Rattle.region.specs.Units.{stored_bytes, stored_of}
use Rattle.region.proofs.Instances.{stored_back}
use Rattle.forest.specs.Places.{unit_at}
use Rattle.lookup.specs.declared.Query.{Query}
use Rattle.lookup.specs.Lives.{life_of}
use Rattle.lookup.specs.Standing.{OwnHolds}
use Rattle.lookup.specs.Turns.{own_number, own_asked}

-- where there is one
pub record OneHeld (base : ℕ) (s : List ℕ) (at : ℕ) (v : List Stored) : Type 0 where
  pub one : Stored
  pub is : v ≡ one ∷ []
  pub stands : stored_of (part (unit_at base at) 16 s) ≡ one

module _ (base : ℕ) (s : List ℕ) (at end : ℕ) where
  pub one-held : at < end → (v : List Stored) → OwnHolds base s at end v → OneHeld base s at v
  one-held h v w = go v w.count w.units w.small w.single
    where
      go : (v : List Stored) → end ≡ at + length v → part (unit_at base at) (length v * 16) s ≡ each stored_bytes v → All SmallStored v → Single v → OneHeld base s at v
      go [] c u m q = absurd (omega (arith, c, h))
      go (x ∷ []) c u m q =
          let e : part (unit_at base at) 16 s ≡ stored_bytes x = u ∙ append-nil (stored_bytes x) in
          record { one = x; is = refl; stands = rw e (stored_back x m.0) }
      go (x ∷ y ∷ v) c u m q = absurd q

  pub none-held : end ≤ at → (v : List Stored) → OwnHolds base s at end v → v ≡ []
  none-held h v w = go v w.count
    where
      go : (v : List Stored) → end ≡ at + length v → v ≡ []
      go [] c = refl
      go (x ∷ v) c = absurd (omega (arith, c, h))

-- its time
pub over_is : (clock : ℕ) (x : Stored) → None ≡ life_of clock x → unexpired clock x ≡ false
unfolding life_of
over_is clock x e = go (unexpired clock x) e
  where
    go : (t : Bool) → None ≡ cond t (Some (left clock x.moment)) None → t ≡ false
    go true q = let z : ◌≡◌ {A = ℕ} 0 1 = cc in absurd (omega arith)
    go false q = refl

pub left_is : (clock m : ℕ) (x : Stored) → Some m ≡ life_of clock x → (unexpired clock x ≡ true) × (m ≡ left clock x.moment)
unfolding life_of
left_is clock m x e = go (unexpired clock x) e
  where
    go : (t : Bool) → Some m ≡ cond t (Some (left clock x.moment)) None → (t ≡ true) × (m ≡ left clock x.moment)
    go true q = let z : m ≡ left clock x.moment = cc in (refl, z)
    go false q = let z : ◌≡◌ {A = ℕ} 0 1 = cc in absurd (omega arith)

-- what it gives
pub length_name : (now : ℕ) (p : Filter) (x : Stored) → length (name_record now (p, x)) ≡ 16 + length (join p)
unfolding name_record
length_name now p x =
    rw (length-append, length-bytes, length-append (join p), length-append (bytes 4 x.handle), length-bytes 4 x.handle, length-bytes 8 (left now x.moment)) (omega arith)

module _ (q : Query) (i : ℕ) (p gs : Filter) where
  pub own_empty : (own_asked q i p gs [] ≡ []) × (own_number q gs [] ≡ 0)
  unfolding own_asked own_number
  own_empty = (both [] (takes gs []), none (takes gs []))
    where
      both : (l : List ℕ) (t : Bool) → cond t l l ≡ l
      both l true = refl
      both l false = refl

      none : (t : Bool) → ◌≡◌ {A = ℕ} (cond t 0 0) 0
      none true = refl
      none false = refl

  pub own_unasked : (v : List Stored) → takes gs [] ≡ false → (own_asked q i p gs v ≡ []) × (own_number q gs v ≡ 0)
  unfolding own_asked own_number
  own_unasked v e = (rw e, rw e)

  pub own-asked : (v : List Stored) → takes gs [] ≡ true → (own_asked q i p gs v ≡ own_bytes q.clock q.offset q.limit i p v) × (own_number q gs v ≡ own_count q.clock v)
  unfolding own_asked own_number
  own-asked v e = (rw e, rw e)

module _ (now o l i : ℕ) (p : Filter) (x : Stored) where
  pub own-expired : unexpired now x ≡ false → (own_bytes now o l i p (x ∷ []) ≡ []) × (own_count now (x ∷ []) ≡ 0)
  own-expired f = (rw f, rw f)

  pub own-counted : unexpired now x ≡ true → own_count now (x ∷ []) ≡ 1
  own-counted f = rw f

  pub own-paged : unexpired now x ≡ true → in_page o l i ≡ true → own_bytes now o l i p (x ∷ []) ≡ name_record now (p, x)
  own-paged f g = rw (f, g) (append-nil (name_record now (p, x)))

  pub own_unpaged : unexpired now x ≡ true → in_page o l i ≡ false → own_bytes now o l i p (x ∷ []) ≡ []
  own_unpaged f g = rw (f, g)
