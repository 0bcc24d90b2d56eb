-- What shows that a call gave what it should: from the rules that it tested. Assumes nothing.
use Rattle.std.specs.Prelude.{Err, Ok, Result, ⊤}
use mathlib.Core.Path.{◌≡◌, refl, sym, ap, ◌∙◌}
use Prim.Native.Nat.{ℕ, ◌≤◌, ◌<◌}
use mathlib.Core.Bool.{Bool, true, false, not, cond, true≢false}
use mathlib.Core.List.{List, [], ◌∷◌, ◌++◌}
use lib.Dec.{ltb}
use lib.ListN.{length}
use native.Mathlib.Omega.{arith}
use borrow.Author.Tests.{lt-ltb, le-ltb, ltb-false}
use Rattle.refusal.specs.declared.Refusal.{Refusal}
use Rattle.refusal.specs.declared.Refusal.TheVariants.{NotAStore, ShortRoom}
use Rattle.lent.specs.Parts.{part, patch}
use Rattle.lent.proofs.Parts.{part-patch}
use Rattle.topic.specs.Rules.{Rule}
use Rattle.topic.specs.Answers.{checked}
use Rattle.topic.specs.Answers.{and_then}
use Rattle.topic.proofs.RuleLaws.{checked-append}
use Rattle.held.specs.Bytes.{length_rule}
use Rattle.audit.specs.Decides.{Decides}
use Rattle.edit.specs.declared.Listed.{Listed}
use Rattle.edit.specs.Given.{listed}
use Rattle.edit.specs.Given.{listed_by, written_by, given_bytes, enough_room, GivesKnown, Gives}
use Rattle.edit.proofs.CallLaws.{none, one}

module _ {A : Type 0} (Store : Type 0) (rules : List Rule) (answer : Result ⊤ Refusal → A) (out : List ℕ) where
  -- a region that is no store
  pub give-none : (Store → ⊥) → (b : List ℕ) (r : A) → GivesKnown Store rules answer out b b r
  give-none never b r = record { told = λ (st : Store). absurd (never st); given = λ (st : Store). absurd (never st) }

  pub give_refused : (b : List ℕ) (x : Refusal) → (Store → checked rules ≡ Err x) → GivesKnown Store rules answer out b b (answer (Err x))
  give_refused b x e =
      record {
        told = λ (st : Store). ap answer (sym (e st));
        given = λ (st : Store). ap (λ (c : Result ⊤ Refusal). written_by c out b) (sym (e st));
      }

  pub give_all : (b a : List ℕ) → (Store → checked rules ≡ Ok tt) → (r : A) → (Store → r ≡ answer (Ok tt)) → (Store → a ≡ patch 0 out b) → GivesKnown Store rules answer out b a r
  give_all b a e r f g =
      record {
        told = λ (st : Store). f st ∙ ap answer (sym (e st));
        given = λ (st : Store). g st ∙ ap (λ (c : Result ⊤ Refusal). written_by c out b) (sym (e st));
      }

  -- the region is tested first
  module _ {t : Bool} (d : Decides t Store) where
    pub give_other : (b : List ℕ) → not t ≡ true → Gives Store rules answer out b b (answer (Err NotAStore))
    give_other b h =
        record { on_store = give-none (none d h) b (answer (Err NotAStore)); on_other = λ (n : Store → ⊥). (refl, refl) }

    pub give_store : {b a : List ℕ} {r : A} → not t ≡ false → GivesKnown Store rules answer out b a r → Gives Store rules answer out b a r
    give_store h g = record { on_store = g; on_other = λ (n : Store → ⊥). absurd (n (one d h)) }

-- the rules of a text, then the one for the buffer
module _ (texts : List Rule) (out b : List ℕ) where
  after_texts : {k : Result ⊤ Refusal} → k ≡ checked texts → checked (texts ++ length_rule (length b) out ∷ []) ≡ and_then k (checked (length_rule (length b) out ∷ []))
  after_texts e = checked-append texts (length_rule (length b) out ∷ []) ∙ ap (λ (c : Result ⊤ Refusal). and_then c (checked (length_rule (length b) out ∷ []))) (sym e)

  pub text_refuses : {k : Result ⊤ Refusal} {x : Refusal} → k ≡ checked texts → k ≡ Err x → checked (texts ++ length_rule (length b) out ∷ []) ≡ Err x
  text_refuses e q = after_texts e ∙ ap (λ (c : Result ⊤ Refusal). and_then c (checked (length_rule (length b) out ∷ []))) q

  module _ (fine : checked texts ≡ Ok tt) {m : ℕ} (size : m ≡ length out) where
    pub buffer_short : length b < m → checked (texts ++ length_rule (length b) out ∷ []) ≡ Err (ShortRoom m)
    buffer_short h = after_texts (sym fine) ∙ rw (← size, lt-ltb (length b) m h)

    pub buffer-fits : m ≤ length b → checked (texts ++ length_rule (length b) out ∷ []) ≡ Ok tt
    buffer-fits h = after_texts (sym fine) ∙ rw (← size, le-ltb (length b) m h)

-- a call that gave records wrote them at the front of its buffer
last_kept : (c : Result ⊤ Refusal) (b : Bool) (r : Refusal) → and_then c (cond b (Err r) (Ok (tt {0}))) ≡ Ok (tt {0}) → b ≡ false
last_kept (Ok _) true r e = cc
last_kept (Ok _) false r e = refl
last_kept (Err x) b r e = cc

-- where it gave them, which is where no rule was broken
given_only : (out : List ℕ) (count : ℕ) (c : Result ⊤ Refusal) {bytes records : ℕ} → listed bytes records ≡ listed_by out count c → (c ≡ Ok tt) × (bytes ≡ length out) × (records ≡ count)
given_only out count (Ok _) e = (refl, left e, right e)
  where
    same : {l m : Listed} → ◌≡◌ {A = Result Listed Refusal} (Ok l) (Ok m) → l ≡ m
    same e = cc

    left : {a b n m : ℕ} → listed a n ≡ listed b m → a ≡ b
    left e = ap (λ (l : Listed). l.bytes) (same e)

    right : {a b n m : ℕ} → listed a n ≡ listed b m → n ≡ m
    right e = ap (λ (l : Listed). l.records) (same e)
given_only out count (Err r) e = (cc, cc, cc)

pub written_front : (texts : List Rule) (out before : List ℕ) {after : List ℕ} → checked (texts ++ length_rule (length before) out ∷ []) ≡ Ok tt
    → after ≡ written_by (checked (texts ++ length_rule (length before) out ∷ [])) out before → part 0 (length out) after ≡ out
written_front texts out before {after} a g =
    let k : ltb (length before) (length out) ≡ false = last_kept (checked texts) (ltb (length before) (length out)) _ (sym (checked-append texts (length_rule (length before) out ∷ [])) ∙ a) in
    let w : after ≡ patch 0 out before = g ∙ ap (λ (c : Result ⊤ Refusal). written_by c out before) a in
    rw w (part-patch 0 out before (omega (arith, ltb-false (length before) (length out) k)))

pub given_front : {Store : Type 0} (texts : List Rule) (out : List ℕ) (count : ℕ) (before after : List ℕ) {bytes records : ℕ}
    → GivesKnown Store (texts ++ length_rule (length before) out ∷ []) (listed_by out count) out before after (listed bytes records) → Store → (part 0 bytes after ≡ out) × (records ≡ count)
given_front texts out count before after g st =
    let a = given_only out count (checked (texts ++ length_rule (length before) out ∷ [])) (g.told st) in
    (rw a.1 (written_front texts out before a.0 (g.given st)), a.2)

-- two calls that have the same to give, into two buffers: both have room, or neither has
module _ {A Store Store' : Type 0} (texts : List Rule) (answer : Result ⊤ Refusal → A) (out : List ℕ) (st : Store) (st' : Store') (enough : A → Bool) (gave : A → List ℕ → List ℕ)
    (fits : enough (answer (Ok tt)) ≡ true) (short : enough (answer (Err (ShortRoom (length out)))) ≡ false)
    (front : (after : List ℕ) → gave (answer (Ok tt)) after ≡ part 0 (length out) after) (none : (x : Refusal) (after : List ℕ) → gave (answer (Err x)) after ≡ []) where
  given_by : (b : List ℕ) {a : List ℕ} {r : A} (v : Result ⊤ Refusal) → checked (texts ++ length_rule (length b) out ∷ []) ≡ v → r ≡ answer v
      → a ≡ written_by (checked (texts ++ length_rule (length b) out ∷ [])) out b → (v ≡ Ok tt → gave r a ≡ out) × ((x : Refusal) → v ≡ Err x → gave r a ≡ [])
  given_by b {a} v e q w = (
    λ z. ap (λ (r : A). gave r a) (q ∙ ap answer z) ∙ front a ∙ written_front texts out b (e ∙ z) w,
    λ x z. ap (λ (r : A). gave r a) (q ∙ ap answer z) ∙ none x a,
  )

  pub same_given : {b b' a a' : List ℕ} {r q : A} → GivesKnown Store (texts ++ length_rule (length b) out ∷ []) answer out b a r
      → GivesKnown Store' (texts ++ length_rule (length b') out ∷ []) answer out b' a' q → enough r ≡ enough q → (r ≡ q) × (gave r a ≡ gave q a')
  same_given {b} {b'} {a} {a'} {r} {q} g h e = go (checked texts) refl (ltb (length b) (length out)) refl (ltb (length b') (length out)) refl
    where
      told : (c : List ℕ) (t : Result ⊤ Refusal) → checked texts ≡ t → (l : Bool) → ltb (length c) (length out) ≡ l → checked (texts ++ length_rule (length c) out ∷ []) ≡ and_then t (cond l (Err (ShortRoom (length out))) (Ok tt))
      told c t z l k = checked-append texts (length_rule (length c) out ∷ []) ∙ rw (z, k)

      both : (v : Result ⊤ Refusal) → checked (texts ++ length_rule (length b) out ∷ []) ≡ v → checked (texts ++ length_rule (length b') out ∷ []) ≡ v → (r ≡ q) × (gave r a ≡ gave q a')
      both v x y =
          let i = g.told st ∙ ap answer x in
          let j = h.told st' ∙ ap answer y in
          (i ∙ sym j, same v (given_by b v x i (g.given st)) (given_by b' v y j (h.given st')))
        where
          same : (v : Result ⊤ Refusal) → (v ≡ Ok tt → gave r a ≡ out) × ((x : Refusal) → v ≡ Err x → gave r a ≡ []) → (v ≡ Ok tt → gave q a' ≡ out) × ((x : Refusal) → v ≡ Err x → gave q a' ≡ [])
              → gave r a ≡ gave q a'
          same (Ok _) i j = i.0 refl ∙ sym (j.0 refl)
          same (Err x) i j = i.1 x refl ∙ sym (j.1 x refl)

      apart : {s t : Bool} → enough r ≡ s → enough q ≡ t → (s ≡ t → ⊥) → (r ≡ q) × (gave r a ≡ gave q a')
      apart x y n = absurd (n (sym x ∙ e ∙ y))

      room : {v : Result ⊤ Refusal} {c : Result ⊤ Refusal} {o : A} → o ≡ answer c → c ≡ v → (t : Bool) → enough (answer v) ≡ t → enough o ≡ t
      room x y t z = ap enough (x ∙ ap answer y) ∙ z

      go : (t : Result ⊤ Refusal) → checked texts ≡ t → (l : Bool) → ltb (length b) (length out) ≡ l → (m : Bool) → ltb (length b') (length out) ≡ m → (r ≡ q) × (gave r a ≡ gave q a')
      go (Err x) z l k m n = both (Err x) (told b (Err x) z l k) (told b' (Err x) z m n)
      go (Ok _) z true k true n = both (Err (ShortRoom (length out))) (told b (Ok tt) z true k) (told b' (Ok tt) z true n)
      go (Ok _) z false k false n = both (Ok tt) (told b (Ok tt) z false k) (told b' (Ok tt) z false n)
      go (Ok _) z true k false n =
          apart (room (g.told st) (told b (Ok tt) z true k) false short) (room (h.told st') (told b' (Ok tt) z false n) true fits) (λ x. true≢false (sym x))
      go (Ok _) z false k true n =
          apart (room (g.told st) (told b (Ok tt) z false k) true fits) (room (h.told st') (told b' (Ok tt) z true n) false short) true≢false

-- the same of a call that answers as a listing does
pub same_listed : {Store Store' : Type 0} (texts : List Rule) (out : List ℕ) (count : ℕ) → Store → Store' → {b b' a a' : List ℕ} {r q : Result Listed Refusal}
    → GivesKnown Store (texts ++ length_rule (length b) out ∷ []) (listed_by out count) out b a r → GivesKnown Store' (texts ++ length_rule (length b') out ∷ []) (listed_by out count) out b' a' q
    → enough_room r ≡ enough_room q → (r ≡ q) × (given_bytes r a ≡ given_bytes q a')
same_listed texts out count st st' = same_given texts (listed_by out count) out st st' enough_room given_bytes refl refl (λ _. refl) (λ _ _. refl)
