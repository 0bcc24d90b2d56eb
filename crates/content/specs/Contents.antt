-- FOR THE CODE. The tests of what a row of units has: its level, and the units of what its node holds. Assumes nothing.
use Rattle.std.specs.Prelude.{ℕ, zero, suc, Bool, true, false, not, cond, ◌&&◌, ◌||◌, List, [], ◌∷◌, eqb, ltb, leb, drop}
use Rattle.utf8.specs.Utf8.{is_utf8}
use Rattle.level.specs.Levels.{has}
use Rattle.level.specs.Kinds.{wild, bad}
use Rattle.lent.specs.Numbers.{be}
use Rattle.lent.specs.Parts.{part}
use Rattle.held.specs.Order.{Level}
use Rattle.region.specs.declared.Kind.{Kind}
use Rattle.region.specs.declared.Kind.TheVariants.{Subscriptions, Retained}

-- every byte is b
unfoldable pub every : ℕ → List ℕ → Bool
every b [] = true
every b (x ∷ w) = eqb x b && every b w

-- what no level of a store may be: a filter's no wildcard among others, a name's none at all
abbrev pub fault : Kind → Level → Bool
fault Subscriptions = bad
fault Retained = wild

unfoldable pub level_fine : Kind → Level → Bool
level_fine k l = is_utf8 l && (not (has 0 l) && (not (has 47 l) && not (fault k l)))

-- bytes that are fine in any level: ASCII from '$' on, but for '+' and '/'. Most bytes are such, and a level of them needs no
-- other test.
abbrev pub plain_byte : ℕ → Bool
plain_byte b = leb 36 b && (leb b 127 && (not (eqb b 43) && not (eqb b 47)))

unfoldable pub plain : List ℕ → Bool
plain [] = true
plain (b ∷ l) = plain_byte b && plain l

-- n such bytes, and then 0
unfoldable pub plain_to : ℕ → List ℕ → Bool
plain_to n [] = true
plain_to zero (b ∷ w) = eqb b 0 && plain_to zero w
plain_to (suc n) (b ∷ w) = plain_byte b && plain_to n w

-- a test as a number: 0 where it is passed
abbrev pub odd : Bool → ℕ
odd t = cond t 0 1

-- the units of n values, of which w are the bytes: behind each value all is 0, and the values ascend
abbrev pub upward : ℕ → List ℕ → Bool
upward zero w = true
upward (suc n) w = ltb (be (part 0 4 w)) (be (part 16 4 w))

unfoldable pub values_fine : ℕ → List ℕ → Bool
values_fine zero w = true
values_fine (suc n) w = (eqb (be (part 4 4 w)) 0 && eqb (be (part 8 8 w)) 0) && (upward n w && values_fine n (drop 16 w))

-- the units of n records: at most one, with the marker 1, or with the marker 0 and no moment
unfoldable pub records_fine : ℕ → List ℕ → Bool
records_fine zero w = true
records_fine (suc zero) w = eqb (be (part 4 4 w)) 0x1000000 || (eqb (be (part 4 4 w)) 0 && eqb (be (part 8 8 w)) 0)
records_fine (suc (suc n)) w = false

abbrev pub own_fine : Kind → ℕ → List ℕ → Bool
own_fine Subscriptions = values_fine
own_fine Retained = records_fine
