-- Laws of the rules: a turn of the search for a fault, and the answers that follow from the tests in their order. Assumes nothing.
use mathlib.Core.Path.{◌≡◌, refl, sym, ap, ◌∙◌}
use mathlib.Core.Bool.{Bool, true, false, not, cond}
use mathlib.Core.List.{List, [], ◌∷◌, ◌++◌}
use Prim.Native.Nat.{ℕ, suc, ◌+◌, ◌-◌, ◌≤◌, ◌<◌}
use native.Mathlib.Numerals.{add-one}
use native.Mathlib.Omega.{arith}
use lib.Dec.{ltb}
use lib.ListN.{length, take, drop, length-take}
use borrow.Author.Tests.{lt-ltb, le-ltb}
use Rattle.refusal.specs.declared.Refusal.{Refusal}
use Rattle.refusal.specs.declared.Refusal.TheVariants.{Empty, TooLong, NotUtf8, HasNul, BadLevel, HashNotLast, NoInner, BadGroup}
use Rattle.level.specs.Levels.{split, start_of, has}
use Rattle.level.specs.Places.{first}
use Rattle.level.specs.Kinds.{blank, is_only, wild, bad}
use Rattle.utf8.specs.Utf8.{is_utf8}
use Rattle.level.proofs.KindLaws.{length_nil, blank_none, blank_some}
use Rattle.level.proofs.ByteLaws.{same_lengths}
use Rattle.level.proofs.Split.{split_cons, levels_in, levels_out}
use Rattle.std.specs.Prelude.{⊤, Result, Ok, Err}
use Rattle.topic.specs.Rules.{Rule, ◌gives◌, index, level_rules, text_rules, starts, group_of, inner_of, shared_rules, ascii, plain_or_shared}
use Rattle.topic.specs.Answers.{checked, and_then}

-- a turn of the search, at level k, which begins at at
module _ (p : List ℕ → Bool) (s : List ℕ) (k : ℕ) {at : ℕ} (e : at ≡ start_of s k) where
  pub fault-none : length s < at → index p (drop k (split s)) ≡ 0
  fault-none h = rw (levels_out s k e h)

-- what the levels of a text are told, by where the first bad one and the first '#' stand among them
module _ (s : List ℕ) {n b : ℕ} (en : n ≡ length (split s)) (eb : b ≡ index bad (split s)) where
  pub levels-bad : b < n → Err (BadLevel b) ≡ checked (level_rules s)
  levels-bad l =
      let t : ltb (index bad (split s)) (length (split s)) ≡ true = lt-ltb (index bad (split s)) (length (split s)) (omega arith) in
      rw (t, eb)

  pub levels-hash : {h : ℕ} → n ≤ b → h ≡ index (is_only 35) (split s) → h < n - 1 → Err (HashNotLast h) ≡ checked (level_rules s)
  levels-hash k eh l =
      let t : ltb (index bad (split s)) (length (split s)) ≡ false = le-ltb (index bad (split s)) (length (split s)) (omega arith) in
      let u : ltb (index (is_only 35) (split s) + 1) (length (split s)) ≡ true = lt-ltb (index (is_only 35) (split s) + 1) (length (split s)) (omega arith) in
      rw (t, u, eh)

  pub levels_fine : {h : ℕ} → n ≤ b → h ≡ index (is_only 35) (split s) → n - 1 ≤ h → Ok tt ≡ checked (level_rules s)
  levels_fine k eh l =
      let t : ltb (index bad (split s)) (length (split s)) ≡ false = le-ltb (index bad (split s)) (length (split s)) (omega arith) in
      let u : ltb (index (is_only 35) (split s) + 1) (length (split s)) ≡ false = le-ltb (index (is_only 35) (split s) + 1) (length (split s)) (omega arith) in
      rw (t, u)

-- rules after rules
or-cond : (t : Bool) (a b c : Result ⊤ Refusal) → cond t (and_then a c) (and_then b c) ≡ and_then (cond t a b) c
or-cond true a b c = refl
or-cond false a b c = refl

pub checked-append : (a b : List Rule) → checked (a ++ b) ≡ and_then (checked a) (checked b)
checked-append [] b = refl
checked-append ((t gives r) ∷ a) b = rw (checked-append a b) (or-cond t (Err r) (checked a) (checked b))

pub rules_refused : (a b : List Rule) {k : Result ⊤ Refusal} → k ≡ checked a → {r : Refusal} → k ≡ Err r → Err r ≡ checked (a ++ b)
rules_refused a b e {r} h = rw (checked-append a b, ← e, h)

pub rules-accepted : (a b : List Rule) {k : Result ⊤ Refusal} → k ≡ checked a → k ≡ Ok tt → {x : Result ⊤ Refusal} → x ≡ checked b → x ≡ checked (a ++ b)
rules-accepted a b e h q = rw (checked-append a b, ← e, h) q

-- the answers of `check_text`, from its tests in their order
pub text_empty : (s : List ℕ) → length s ≡ 0 → Err Empty ≡ checked (text_rules s)
text_empty s h = rw (blank_none s h)

module _ (s : List ℕ) (some : length s ≡ 0 → ⊥) where
  pub text_long : 65535 < length s → Err TooLong ≡ checked (text_rules s)
  text_long h = rw (blank_some s some, lt-ltb 65535 (length s) h)

  module _ (short : length s ≤ 65535) {u : Bool} (eu : u ≡ is_utf8 s) where
    pub text_broken : not u ≡ true → Err NotUtf8 ≡ checked (text_rules s)
    text_broken h = rw (blank_some s some, le-ltb 65535 (length s) short, ap not (sym eu) ∙ h)

    pub text_nul : not u ≡ false → {z : Bool} → z ≡ has 0 s → z ≡ true → Err HasNul ≡ checked (text_rules s)
    text_nul h ez t = rw (blank_some s some, le-ltb 65535 (length s) short, ap not (sym eu) ∙ h, sym ez ∙ t)

    pub text-fine : not u ≡ false → {z : Bool} → z ≡ has 0 s → z ≡ false → Ok tt ≡ checked (text_rules s)
    text-fine h ez t = rw (blank_some s some, le-ltb 65535 (length s) short, ap not (sym eu) ∙ h, sym ez ∙ t)

-- a text too short for a prefix
pub starts_short : (p s : List ℕ) → length s < length p → false ≡ starts p s
starts_short p s h = sym (same_lengths p (take (length p) s) (λ e. omega (arith, e, length-take (length p) s)))

-- what follows `$share/`: its group, and what stands behind that
module _ (rest : List ℕ) {group inner : List ℕ} (eg : group ≡ first rest) (ei : inner ≡ drop (length group + 1) rest) where
  is_group : group ≡ group_of rest
  is_group = rw split_cons eg

  is_inner : inner ≡ inner_of rest
  is_inner = rw (← is_group) ei

  pub shared-none : length inner ≡ 0 → Err NoInner ≡ checked (shared_rules rest)
  shared-none h =
      let n : inner_of rest ≡ [] = sym is_inner ∙ length_nil inner h in
      rw n

  module _ (some : length inner ≡ 0 → ⊥) {k : Result ⊤ Refusal} (ek : k ≡ checked (level_rules inner)) where
    levels-first : checked (shared_rules rest) ≡ and_then k (checked ((blank inner gives NoInner) ∷ (wild group gives BadGroup) ∷ []))
    levels-first =
        rw (is_group, ek, is_inner) (checked-append (level_rules (inner_of rest)) ((blank (inner_of rest) gives NoInner) ∷ (wild (group_of rest) gives BadGroup) ∷ []))

    pub shared_refused : {r : Refusal} → k ≡ Err r → Err r ≡ checked (shared_rules rest)
    shared_refused h = rw (levels-first, h)

    module _ (h : k ≡ Ok tt) {w : Bool} (ew : w ≡ wild group) where
      pub shared_group : w ≡ true → Err BadGroup ≡ checked (shared_rules rest)
      shared_group t = rw (levels-first, h, blank_some inner some, sym ew ∙ t)

      pub shared_fine : w ≡ false → Ok tt ≡ checked (shared_rules rest)
      shared_fine t = rw (levels-first, h, blank_some inner some, sym ew ∙ t)

-- a subscription's filter, shared or plain
module _ (s : List ℕ) {t : Bool} (et : t ≡ starts (ascii "$share/") s) {x : Result ⊤ Refusal} where
  pub is_shared : t ≡ true → {rest : List ℕ} → rest ≡ drop 7 s → x ≡ checked (shared_rules rest) → x ≡ checked (plain_or_shared s)
  is_shared h er e = rw (sym et ∙ h) (e ∙ ap (λ (r : List ℕ). checked (shared_rules r)) er)

  pub is_plain : t ≡ false → x ≡ checked (level_rules s) → x ≡ checked (plain_or_shared s)
  is_plain h e = rw (sym et ∙ h) e
