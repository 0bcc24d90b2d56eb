-- What the tests of a text say of its levels: a filter has '#' only last, a name has no wildcard, and both fit their bytes. Assumes nothing.
use Rattle.std.specs.Prelude.{Err}
use mathlib.Core.Path.{◌≡◌, refl, sym, ap, ◌∙◌}
use Prim.Native.Nat.{ℕ, suc, ◌+◌, ◌≤◌, ◌<◌}
use mathlib.Core.Bool.{Bool, true, false, cond, ◌||◌, true≢false}
use mathlib.Core.List.{List, [], ◌∷◌}
use borrow.Author.Tests.{ltb-false, le-ltb}
use lib.Dec.{eqb, ltb}
use lib.ListN.{length}
use native.Mathlib.Omega.{arith}
use Rattle.level.proofs.Join.{join-split, head_false, rest_false}
use Rattle.level.specs.Kinds.{is_only, wild}
use Rattle.level.specs.Levels.{split, push}
use Rattle.level.proofs.Split.{some_level}
use Rattle.topic.specs.Answers.{checked}
use Rattle.topic.specs.Rules.{Rule, ◌gives◌, index, name_rules, filter_rules}
use Rattle.held.specs.Order.{Level, Filter}
use Rattle.held.specs.History.{accepted}
use Rattle.held.specs.Edit.{Plain, HashLast}
use Rattle.held.specs.Sized.{Written}

-- no level has a wildcard byte
abbrev Tame : Filter → Type 0
Tame [] = Unit {0}
Tame (l ∷ ls) = (wild l ≡ false) × Tame ls

tame-push : (b : ℕ) (t : Bool) (ls : Filter) → (eqb b 43 || eqb b 35) ≡ false → Tame ls → Tame (push t b ls)
tame-push b true ls e w = (refl, w)
tame-push b false [] e w = (rw e, tt)
tame-push b false (l ∷ ls) e w = (rw e w.0, w.1)

tame-split : (s : List ℕ) → wild s ≡ false → Tame (split s)
tame-split [] e = (refl, tt)
tame-split (b ∷ s) e =
    tame-push b (eqb b 47) (split s) (head_false (eqb b 43 || eqb b 35) (wild s) e) (tame-split s (rest_false (eqb b 43 || eqb b 35) (wild s) e))

tame_only : (l : Level) → wild l ≡ false → (is_only 35 l ≡ false) × (is_only 43 l ≡ false)
tame_only [] e = (refl, refl)
tame_only (x ∷ []) e = let q : (eqb x 43 || eqb x 35) ≡ false = head_false (eqb x 43 || eqb x 35) false e in (rest_false (eqb x 43) (eqb x 35) q, head_false (eqb x 43) (eqb x 35) q)
tame_only (x ∷ y ∷ l) e = (refl, refl)

plain : (ls : Filter) → Tame ls → Plain ls
plain [] w = tt
plain (l ∷ ls) w = let o = tame_only l w.0 in (o.0, o.1, plain ls w.1)

none_left : (ls : Filter) → length ls ≤ 0 → ls ≡ []
none_left [] h = refl
none_left (l ∷ ls) h = absurd (omega arith)

-- no '#' before the last level
hash_last : (ls : Filter) → ltb (index (is_only 35) ls + 1) (length ls) ≡ false → HashLast ls
hash_last [] e = tt
hash_last (l ∷ ls) e = go (is_only 35 l) refl (hash_last ls)
  where
    go : (t : Bool) → is_only 35 l ≡ t → (ltb (index (is_only 35) ls + 1) (length ls) ≡ false → HashLast ls) → (is_only 35 l ≡ true → ls ≡ []) × HashLast ls
    go true q ih =
        let z : ls ≡ [] = none_left ls (omega (arith, ltb-false (0 + 1) (suc (length ls)) (rw q at e))) in
        ((λ p. z), rw z tt)
    go false q ih = (
      (λ p. absurd (true≢false (sym p ∙ q))),
      ih (le-ltb (index (is_only 35) ls + 1) (length ls) (omega (arith, ltb-false (suc (index (is_only 35) ls) + 1) (suc (length ls)) (rw q at e)))),
    )

-- an accepted text breaks no rule
abbrev pub Kept : List Rule → Type 0
Kept [] = Unit {0}
Kept ((broken gives r) ∷ rules) = (broken ≡ false) × Kept rules

pub kept : (rules : List Rule) → accepted (checked rules) ≡ true → Kept rules
kept [] e = tt
kept ((broken gives r) ∷ rules) e = go broken (kept rules) e
  where
    go : (t : Bool) → (accepted (checked rules) ≡ true → Kept rules) → accepted (cond t (Err r) (checked rules)) ≡ true → (t ≡ false) × Kept rules
    go true k e = absurd (true≢false (sym e))
    go false k e = (refl, k e)

written-split : (s : List ℕ) → length s ≤ 65535 → Written (split s)
written-split s h = record { levels = ap split (join-split s); short = rw (join-split s) h }

pub filter-hash : (s : List ℕ) → accepted (checked (filter_rules s)) ≡ true → HashLast (split s)
filter-hash s e = hash_last (split s) (kept (filter_rules s) e).1.1.1.1.1.0

pub filter_written : (s : List ℕ) → accepted (checked (filter_rules s)) ≡ true → Written (split s)
filter_written s e = written-split s (ltb-false 65535 (length s) (kept (filter_rules s) e).1.0)

pub name-plain : (s : List ℕ) → accepted (checked (name_rules s)) ≡ true → Plain (split s)
name-plain s e = plain (split s) (tame-split s (kept (name_rules s) e).1.1.1.1.0)

pub name_written : (s : List ℕ) → accepted (checked (name_rules s)) ≡ true → Written (split s)
name_written s e = written-split s (ltb-false 65535 (length s) (kept (name_rules s) e).1.0)

-- every text has a level
pub some_levels : (s : List ℕ) → split s ≡ [] → ⊥
some_levels s e = let h : 0 < length (split s) = some_level s in let z : length (split s) ≡ 0 = rw e in omega arith
