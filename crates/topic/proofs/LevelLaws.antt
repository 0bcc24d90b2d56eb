-- What parsing and the level calls answer, from their tests in their order. Assumes nothing.
use mathlib.Core.Path.{◌≡◌, refl, sym, ap, ◌∙◌}
use mathlib.Core.Bool.{Bool, true, false, not, cond}
use mathlib.Core.List.{List, []}
use Prim.Native.Nat.{ℕ, ◌≤◌, ◌<◌}
use native.Mathlib.Omega.{arith}
use lib.Dec.{ltb}
use lib.ListN.{length, take, drop, drop_of_length-le, get_or}
use borrow.Author.Tests.{ltb-true, ltb-false, le-ltb}
use Rattle.refusal.specs.declared.Refusal.{Refusal}
use Rattle.level.specs.declared.Kind.{Kind}
use Rattle.level.specs.Levels.{split, start_of}
use Rattle.level.specs.Kinds.{kind_of}
use Rattle.level.specs.Places.{first}
use Rattle.level.proofs.Split.{take-first, levels_in, get_or_from, start-within}
use Rattle.std.specs.Prelude.{⊤, Option, Some, None, Result, Ok, Err, unwrap_or}
use Rattle.topic.specs.Rules.{parse_rules, level_rules}
use Rattle.utf8.specs.Utf8.{is_utf8}
use Rattle.refusal.specs.declared.Refusal.TheVariants.{NotUtf8}
use Rattle.topic.specs.Answers.{checked, and_then, parsed, if_parsed, start_at, kind_at, part_at, place_at}

-- parsing, by its tests in their order
module _ (s : List ℕ) {u : Bool} (eu : u ≡ is_utf8 s) where
  pub parse_broken : not u ≡ true → Err NotUtf8 ≡ parsed s
  parse_broken h = rw (ap not (sym eu) ∙ h)

-- a text that parses has as many levels as the parse says
levels-told : (k : Result ⊤ Refusal) (m n : ℕ) → and_then k (Ok m) ≡ Ok n → n ≡ m
levels-told (Ok _) m n e = cc
levels-told (Err r) m n e = cc

-- the level calls, where the text is refused, and past its last level
module _ (s : List ℕ) (k : ℕ) {p : Result ℕ Refusal} (ep : p ≡ parsed s) where
  module _ {r : Refusal} (q : p ≡ Err r) where
    pub kind_refused : None ≡ kind_at s k
    kind_refused = rw (← ep, q)

    pub part_refused : [] ≡ part_at s k
    part_refused = rw (← ep, q)

    pub place_refused : length s ≡ place_at s k
    place_refused = rw (← ep, q)

  module _ {n : ℕ} (q : p ≡ Ok n) (h : n ≤ k) where
    past-last : length (split s) ≤ k
    past-last = rw (← levels-told (checked (parse_rules s)) (length (split s)) n (sym ep ∙ q)) h

    past : drop k (split s) ≡ []
    past = drop_of_length-le (split s) {i = k} past-last

    pub kind_past : None ≡ kind_at s k
    kind_past = rw (← ep, q, past)

    pub part_past : [] ≡ part_at s k
    part_past = rw (← ep, q, get_or_from (split s) k [], past)

    pub place_past : length s ≡ place_at s k
    place_past = rw (← ep, q, le-ltb k (length (split s)) past-last)

-- what is told of a level that there is: its kind and its part
started : (s : List ℕ) (k : ℕ) (p : Result ℕ Refusal) (t : Bool) → ltb k (length (split s)) ≡ t → {at : ℕ} → if_parsed p (cond t (Some (start_of s k)) None) None ≡ Some at
    → (n : ℕ) × (p ≡ Ok n) × (k < length (split s)) × (at ≡ start_of s k)
started s k (Ok n) true e {at} q = (n, refl, ltb-true k (length (split s)) e, cc)
started s k (Ok n) false e {at} q = cc
started s k (Err r) t e {at} q = cc

module _ (s : List ℕ) (k : ℕ) {o : Option ℕ} (eo : o ≡ start_at s k) {at : ℕ} (q : o ≡ Some at) {l : List ℕ} (el : l ≡ first (drop at s)) where
  begun : (n : ℕ) × (parsed s ≡ Ok n) × (k < length (split s)) × (at ≡ start_of s k)
  begun = started s k (parsed s) (ltb k (length (split s))) refl (sym eo ∙ q)

  begun-within : at ≤ length s
  begun-within = rw begun.3 (start-within s k begun.2)

  pub kind_here : {x : Kind} → x ≡ kind_of l → Some x ≡ kind_at s k
  kind_here e = rw (begun.1, levels_in s k begun.3 begun-within) (ap (λ (y : Kind). Some y) (e ∙ ap kind_of el))

  pub part_here : l ≡ part_at s k
  part_here = rw (begun.1, get_or_from (split s) k [], levels_in s k begun.3 begun-within) el

-- the part begins at its place
drop-length : (s : List ℕ) → drop (length s) s ≡ []
drop-length s = drop_of_length-le s {i = length s} (omega arith)

in_place : (s : List ℕ) (k : ℕ) (t : Bool) → ltb k (length (split s)) ≡ t → first (drop (unwrap_or (cond t (Some (start_of s k)) None) (length s)) s) ≡ get_or (split s) k []
in_place s k true e =
    let h : k < length (split s) = ltb-true k (length (split s)) e in
    rw (get_or_from (split s) k [], levels_in s k refl (start-within s k h))
in_place s k false e =
    let h : length (split s) ≤ k = ltb-false k (length (split s)) e in
    rw (drop-length s, get_or_from (split s) k [], drop_of_length-le (split s) {i = k} h)

pub part-first : (s : List ℕ) (k : ℕ) → first (drop (place_at s k) s) ≡ part_at s k
part-first s k = go (parsed s) refl
  where
    go : (p : Result ℕ Refusal) → parsed s ≡ p → first (drop (place_at s k) s) ≡ part_at s k
    go (Ok n) e = rw e (in_place s k (ltb k (length (split s))) refl)
    go (Err r) e = rw (e, drop-length s)

-- "that level as a part of the caller's own bytes": it stands in the text at its place
pub part_in_place : (s : List ℕ) (k : ℕ) → take (length (part_at s k)) (drop (place_at s k) s) ≡ part_at s k
part_in_place s k =
    let e = part-first s k in
    ap (λ (l : List ℕ). take (length l) (drop (place_at s k) s)) (sym e) ∙ take-first (drop (place_at s k) s) ∙ e
