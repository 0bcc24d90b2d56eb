-- Laws of what a caller is told. Assumes nothing.
use mathlib.Core.Path.{◌≡◌, refl, sym, ap, ◌∙◌}
use mathlib.Core.Bool.{false}
use Prim.Native.Nat.{ℕ, ◌-◌}
use mathlib.Core.List.{List}
use native.Mathlib.Omega.{arith}
use lib.ListN.{length, drop}
use lib.Dec.{eqb}
use Rattle.refusal.specs.Refusals.{Told, ◌at◌, told}
use Rattle.refusal.specs.declared.Refusal.{Refusal}
use Rattle.refusal.specs.declared.Refusal.TheVariants.{Empty, TooLong, NotUtf8, HasNul, HasWildcard, BadLevel, HashNotLast, NoInner, BadGroup, BadSize, NotAStore, TooDeep, NodesFull, PairsFull, TextFull, ShortRoom}
use Rattle.level.specs.Places.{first, end_of}
use Rattle.topic.specs.Answers.{part_at, place_at}
use Rattle.topic.proofs.LevelLaws.{part-first}

-- a number and a value that are those of what is to be told
pub told_is : {n v : ℕ} {t : Told} → v ≡ t.place → n ≡ t.number → (n at v) ≡ t
told_is e q = rw (e, q)

-- what is told of an answer, from what the answer is
pub said : {A : Type 0} (of : A → Told) {x y : A} {t : Told} → t ≡ of x → x ≡ y → t ≡ of y
said of e q = e ∙ ap of q

-- no refusal is told as 0
pub number_some : (x : Refusal) → eqb (told x).number 0 ≡ false
number_some Empty = refl
number_some TooLong = refl
number_some NotUtf8 = refl
number_some HasNul = refl
number_some HasWildcard = refl
number_some (BadLevel p) = refl
number_some (HashNotLast p) = refl
number_some NoInner = refl
number_some BadGroup = refl
number_some BadSize = refl
number_some NotAStore = refl
number_some TooDeep = refl
number_some NodesFull = refl
number_some PairsFull = refl
number_some TextFull = refl
number_some (ShortRoom n) = refl

-- a level's length, from where it begins and where it ends
pub part_length : (s : List ℕ) (k : ℕ) {from end : ℕ} → from ≡ place_at s k → end ≡ end_of s from → end - from ≡ length (part_at s k)
part_length s k {from} {end} e q =
    let z : end - from ≡ length (first (drop from s)) = omega arith in
    z ∙ ap (λ (p : ℕ). length (first (drop p s))) e ∙ ap length (part-first s k)
