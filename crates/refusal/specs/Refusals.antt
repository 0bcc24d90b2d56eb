-- TO BELIEVE. The table of document 01, 'Refusal numbers': the number and the place that a caller is told for each refusal. Assumes nothing.
use Rattle.std.specs.Prelude.{ℕ}
use Rattle.refusal.specs.declared.Refusal.{Refusal}
use Rattle.refusal.specs.declared.Refusal.TheVariants.{Empty, TooLong, NotUtf8, HasNul, HasWildcard, BadLevel, HashNotLast, NoInner, BadGroup, BadSize, NotAStore, TooDeep, NodesFull, PairsFull, TextFull, ShortRoom}

pub record Told : Type 0 where
  pub number : ℕ
  pub place : ℕ

infix 50 ◌at◌
abbrev pub ◌at◌ : ℕ → ℕ → Told
n at p = record { number = n; place = p }

-- "Where no place is named it is 0"
abbrev pub told : Refusal → Told
told Empty = 1 at 0
told TooLong = 2 at 0
told NotUtf8 = 3 at 0
told HasNul = 4 at 0
told HasWildcard = 5 at 0
told (BadLevel p) = 6 at p
told (HashNotLast p) = 7 at p
told NoInner = 8 at 0
told BadGroup = 9 at 0
told BadSize = 10 at 0
told NotAStore = 11 at 0
told TooDeep = 12 at 0
told NodesFull = 13 at 0
told PairsFull = 14 at 0
told TextFull = 15 at 0
told (ShortRoom needed) = 16 at needed
