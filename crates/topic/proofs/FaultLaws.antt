-- The faults of levels: what is known of a text whose first levels were passed. Assumes nothing.
use Rattle.std.proofs.Common.{◌≡◌, ℕ, ◌+◌, ◌<◌, ◌≤◌, true, false, List, [], ◌∷◌, length, suc, arith, Option, Some, None, Ok, Err, unwrap_or, IfSome, is_some}
use borrow.Author.Tests.{lt-ltb, le-ltb}
use lib.Dec.{ltb}
use Rattle.refusal.specs.declared.Refusal.TheVariants.{BadLevel, HashNotLast}
use Rattle.level.specs.Levels.{split}
use Rattle.level.specs.Kinds.{is_only, bad}
use Rattle.topic.specs.Rules.{index, level_rules}
use Rattle.topic.specs.Answers.{checked}

-- k levels were passed, none of them bad, the first '#' among them at `hash`; `rest` is left
pub record Passed (s : List ℕ) (k : ℕ) (hash : Option ℕ) (rest : List (List ℕ)) : Type 0 where
  pub count : k + length rest ≡ length (split s)
  pub fine : index bad (split s) ≡ k + index bad rest
  pub noted : unwrap_or hash (k + index (is_only 35) rest) ≡ index (is_only 35) (split s)
  pub before : IfSome hash (λ p. p < k)

pub none_passed : (s : List ℕ) {rest : List (List ℕ)} → rest ≡ split s → Passed s 0 None rest
none_passed s e = record { count = rw e (omega arith); fine = rw e (omega arith); noted = rw e (omega arith); before = tt }

-- a turn: the next level is l
module _ (s : List ℕ) (k : ℕ) {rest ls : List (List ℕ)} {l : List ℕ} (e : rest ≡ l ∷ ls) where
  pub bad_here : {hash : Option ℕ} → Passed s k hash rest → bad l ≡ true → Err (BadLevel k) ≡ checked (level_rules s)
  bad_here p b =
      let f : index bad (split s) ≡ k + 0 = rw (e, b) at p.fine in
      let n : k + length (l ∷ ls) ≡ length (split s) = rw e at p.count in
      let t : ltb (index bad (split s)) (length (split s)) ≡ true = lt-ltb (index bad (split s)) (length (split s)) (omega arith) in
      let i : index bad (split s) ≡ k = omega arith in
      rw (t, i)

  module _ (b : bad l ≡ false) where
    pub hash_here : (hash : Option ℕ) → is_some hash ≡ false → Passed s k hash rest → is_only 35 l ≡ true → {next : Option ℕ} → next ≡ Some k → Passed s (k + 1) next ls
    hash_here None q p h r =
        let f : index bad (split s) ≡ k + suc (index bad ls) = rw (e, b) at p.fine in
        let n : k + length (l ∷ ls) ≡ length (split s) = rw e at p.count in
        let i : k + 0 ≡ index (is_only 35) (split s) = rw (e, h) at p.noted in
        rw r (record { count = omega arith; fine = omega arith; noted = omega arith; before = omega arith })
    hash_here (Some x) q p h r = cc

    pub no_hash : (hash : Option ℕ) → is_some hash ≡ false → Passed s k hash rest → is_only 35 l ≡ false → {next : Option ℕ} → next ≡ hash → Passed s (k + 1) next ls
    no_hash None q p h r =
        let f : index bad (split s) ≡ k + suc (index bad ls) = rw (e, b) at p.fine in
        let n : k + length (l ∷ ls) ≡ length (split s) = rw e at p.count in
        let i : k + suc (index (is_only 35) ls) ≡ index (is_only 35) (split s) = rw (e, h) at p.noted in
        rw r (record { count = omega arith; fine = omega arith; noted = omega arith; before = tt })
    no_hash (Some x) q p h r = cc

    pub hash_known : (hash : Option ℕ) → is_some hash ≡ true → Passed s k hash rest → {next : Option ℕ} → next ≡ hash → Passed s (k + 1) next ls
    hash_known None q p r = cc
    hash_known (Some x) q p r =
        let f : index bad (split s) ≡ k + suc (index bad ls) = rw (e, b) at p.fine in
        let n : k + length (l ∷ ls) ≡ length (split s) = rw e at p.count in
        let d : x < k = p.before in
        rw r (record { count = omega arith; fine = omega arith; noted = p.noted; before = omega arith })

-- all levels were passed
module _ (s : List ℕ) (k : ℕ) {rest : List (List ℕ)} (e : rest ≡ []) where
  none_bad : {hash : Option ℕ} → Passed s k hash rest → ltb (index bad (split s)) (length (split s)) ≡ false
  none_bad p =
      let f : index bad (split s) ≡ k + 0 = rw e at p.fine in
      let n : k + 0 ≡ length (split s) = rw e at p.count in
      le-ltb (index bad (split s)) (length (split s)) (omega arith)

  pub hash_refused : {q : ℕ} → Passed s k (Some q) rest → q + 1 < k → Err (HashNotLast q) ≡ checked (level_rules s)
  hash_refused {q} p h =
      let i : q ≡ index (is_only 35) (split s) = p.noted in
      let n : k + 0 ≡ length (split s) = rw e at p.count in
      let t : ltb (q + 1) (length (split s)) ≡ true = lt-ltb (q + 1) (length (split s)) (omega arith) in
      rw (none_bad p, ← i, t)

  pub hash_last : {q : ℕ} → Passed s k (Some q) rest → k ≤ q + 1 → Ok tt ≡ checked (level_rules s)
  hash_last {q} p h =
      let i : q ≡ index (is_only 35) (split s) = p.noted in
      let n : k + 0 ≡ length (split s) = rw e at p.count in
      let t : ltb (q + 1) (length (split s)) ≡ false = le-ltb (q + 1) (length (split s)) (omega arith) in
      rw (none_bad p, ← i, t)

  pub hash_nowhere : Passed s k None rest → Ok tt ≡ checked (level_rules s)
  hash_nowhere p =
      let i : k + 0 ≡ index (is_only 35) (split s) = rw e at p.noted in
      let n : k + 0 ≡ length (split s) = rw e at p.count in
      let t : ltb (index (is_only 35) (split s) + 1) (length (split s)) ≡ false = le-ltb (index (is_only 35) (split s) + 1) (length (split s)) (omega arith) in
      rw (none_bad p, t)
