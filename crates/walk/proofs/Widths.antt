-- The length of a path's text, and of a record. Assumes nothing.
use mathlib.Core.Path.{◌≡◌, refl}
use mathlib.Core.List.{List, [], ◌∷◌, ◌++◌}
use Prim.Native.Nat.{ℕ, ◌+◌, ◌-◌, ◌*◌}
use native.Mathlib.Omega.{arith}
use lib.ListN.{length, length-append}
use Rattle.lent.specs.Numbers.{bytes}
use Rattle.lent.proofs.Digits.{length-bytes}
use Rattle.level.specs.Levels.{join, width}
use Rattle.held.specs.Order.{Level, Filter}
use Rattle.held.specs.Bytes.{each}
use Rattle.held.specs.Subscriptions.{listing_record}
use Rattle.held.specs.Stream.{record_at}
use Rattle.walk.specs.Sizes.{record_size}

pub width_next : (p : Filter) (l : Level) → width (p ++ l ∷ []) ≡ width p + length l + 1
width_next [] l = omega arith
width_next (m ∷ p) l = omega (arith, width_next p l)

pub length-join : (p : Filter) → length (join p) ≡ width p - 1
length-join [] = refl
length-join (l ∷ []) = omega arith
length-join (l ∷ m ∷ p) = rw length-append (omega (arith, length-join (m ∷ p)))

pub length-join_next : (p : Filter) (l : Level) → length (join (p ++ l ∷ [])) ≡ width p + length l
length-join_next p l = omega (arith, length-join (p ++ l ∷ []), width_next p l)

length-each : (own : List ℕ) → length (each (bytes 4) own) ≡ 4 * length own
length-each [] = refl
length-each (x ∷ own) = rw (length-append, length-bytes) (omega (arith, length-each own))

pub length_record : (p : Filter) (own : List ℕ) → length (record_at p own) ≡ record_size (length (join p)) own
unfolding listing_record
length_record p [] = refl
length_record p (x ∷ own) =
    rw (length-append (bytes 2 (length (join p))), length-append (join p), length-append (bytes 2 (length (x ∷ own))), length-bytes 2 (length (join p)), length-bytes 2 (length (x ∷ own)))
    (omega (arith, length-each (x ∷ own)))
