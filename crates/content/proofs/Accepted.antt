-- When levels are those of an accepted text: each level is fine, and they are neither too many nor too long. Assumes nothing.
use Rattle.std.specs.Prelude.{Ok}
use mathlib.Core.Path.{◌≡◌, refl, sym, ap, subst, ◌∙◌}
use Prim.Native.Nat.{ℕ, ◌+◌, ◌-◌, ◌≤◌}
use mathlib.Core.Bool.{Bool, true, false, not, ◌&&◌, true≢false}
use mathlib.Core.List.{List, [], ◌∷◌}
use native.Mathlib.Omega.{arith}
use lib.Dec.{ltb}
use lib.ListN.{length}
use borrow.Author.Tests.{le-ltb, ltb-false, not-true, not-false}
use Rattle.utf8.specs.Utf8.{is_utf8}
use Rattle.level.specs.Levels.{split, join, width, has, Clean}
use Rattle.level.specs.Kinds.{blank, wild, bad}
use Rattle.level.proofs.Join.{join-split, split-join, clean-split}
use Rattle.topic.specs.Rules.{Rule, ◌gives◌, index, filter_rules, name_rules}
use Rattle.topic.specs.Answers.{checked}
use Rattle.held.specs.Order.{Level, Filter}
use Rattle.held.specs.Edit.{HashLast}
use Rattle.held.specs.History.{accepted}
use Rattle.held.proofs.Texts.{Kept, kept, some_levels}
use Rattle.held.proofs.Orders.{and_left, and_right, and_both}
use Rattle.region.specs.Store.{Accepts}
use Rattle.region.specs.declared.Kind.{Kind}
use Rattle.region.specs.declared.Kind.TheVariants.{Subscriptions, Retained}
use Rattle.content.specs.Contents.{fault, level_fine}
use Rattle.content.specs.Texts.{rules_of, TextFine}
use Rattle.content.proofs.Joins.{all, all-and, join_utf8, join_nul, join-wild, join-length, clean_all, all_clean, all_left, all_right, index-none, hash_only}

-- fine levels, test by test
fine-all : (k : Kind) (f : Filter) → all (level_fine k) f ≡ (all is_utf8 f && (all (λ l. not (has 0 l)) f && (all (λ l. not (has 47 l)) f && all (λ l. not (fault k l)) f)))
unfolding level_fine
fine-all k f =
    all-and is_utf8 (λ l. not (has 0 l) && (not (has 47 l) && not (fault k l))) f
    ∙ ap (λ (t : Bool). all is_utf8 f && t) (all-and (λ l. not (has 0 l)) (λ l. not (has 47 l) && not (fault k l)) f
    ∙ ap (λ (t : Bool). all (λ l. not (has 0 l)) f && t) (all-and (λ l. not (has 47 l)) (λ l. not (fault k l)) f))

record FineParts (k : Kind) (f : Filter) : Type 0 where
  utf8 : all is_utf8 f ≡ true
  nul : all (λ l. not (has 0 l)) f ≡ true
  slash : all (λ l. not (has 47 l)) f ≡ true
  free : all (λ l. not (fault k l)) f ≡ true

fine_parts : (k : Kind) (f : Filter) → all (level_fine k) f ≡ true → FineParts k f
fine_parts k f e = go (all is_utf8 f) (all (λ l. not (has 0 l)) f) (all (λ l. not (has 47 l)) f) (all (λ l. not (fault k l)) f) refl refl refl refl (sym (fine-all k f) ∙ e)
  where
    go : (a b c d : Bool) → all is_utf8 f ≡ a → all (λ l. not (has 0 l)) f ≡ b → all (λ l. not (has 47 l)) f ≡ c → all (λ l. not (fault k l)) f ≡ d
        → (a && (b && (c && d))) ≡ true → FineParts k f
    go a b c d p q r t h =
        let u = and_right a (b && (c && d)) h in
        let w = and_right b (c && d) u in
        record { utf8 = p ∙ and_left a (b && (c && d)) h; nul = q ∙ and_left b (c && d) u; slash = r ∙ and_left c d w; free = t ∙ and_right c d w }

-- rules that are kept accept
accepts : (rules : List Rule) → Kept rules → checked rules ≡ Ok tt
accepts [] h = refl
accepts ((broken gives r) ∷ rules) h = rw h.0 (accepts rules h.1)

-- the levels of a fine text, all at once
pub record LevelsFine (k : Kind) (d room : ℕ) (f : Filter) : Type 0 where
  pub levels : all (level_fine k) f ≡ true
  pub few : length f + d ≤ 129
  pub narrow : width f ≤ room

pub text_levels : (k : Kind) (d room : ℕ) (f : Filter) → d ≤ 129 → TextFine k d room f → LevelsFine k d room f
text_levels k d room [] h t = record { levels = refl; few = omega arith; narrow = omega arith }
text_levels k d room (l ∷ f) h t =
    let r : LevelsFine k (d + 1) (room - (length l + 1)) f = text_levels k (d + 1) (room - (length l + 1)) f (omega (arith, t.0)) t.3 in
    record {
      levels = and_both (level_fine k l) (all (level_fine k) f) t.1 r.levels;
      few = omega (arith, r.few);
      narrow = omega (arith, r.narrow, t.2);
    }

pub levels_text : (k : Kind) (d room : ℕ) (f : Filter) → LevelsFine k d room f → TextFine k d room f
levels_text k d room [] r = tt
levels_text k d room (l ∷ f) r = (
  omega (arith, r.few),
  all_left (level_fine k) l f r.levels,
  omega (arith, r.narrow),
  levels_text k (d + 1) (room - (length l + 1)) f
      (record { levels = all_right (level_fine k) l f r.levels; few = omega (arith, r.few); narrow = omega (arith, r.narrow) }),
)

-- what the tests of a text say of its levels
module _ (l : Level) (f : Filter) where
  length_narrow : ltb 65535 (length (join (l ∷ f))) ≡ false → width (l ∷ f) ≤ 65536
  length_narrow e = omega (arith, join-length l f, ltb-false 65535 (length (join (l ∷ f))) e)

  narrow-length : width (l ∷ f) ≤ 65536 → ltb 65535 (length (join (l ∷ f))) ≡ false
  narrow-length h = le-ltb 65535 (length (join (l ∷ f))) (omega (arith, join-length l f))

  text-fine : (k : Kind) → Clean (l ∷ f) → not (is_utf8 (join (l ∷ f))) ≡ false → has 0 (join (l ∷ f)) ≡ false → all (λ l. not (fault k l)) (l ∷ f) ≡ true
      → all (level_fine k) (l ∷ f) ≡ true
  text-fine k c u z w =
      let a : all is_utf8 (l ∷ f) ≡ true = sym (join_utf8 l f) ∙ not-false (is_utf8 (join (l ∷ f))) u in
      let b : all (λ l. not (has 0 l)) (l ∷ f) ≡ true = sym (join_nul l f) ∙ ap not z in
      fine-all k (l ∷ f) ∙ and_both _ _ a (and_both _ _ b (and_both _ _ (clean_all (l ∷ f) c) w))

  -- the first rules of a text, from its levels
  blank_join : (l ∷ f ≡ [] ∷ [] → ⊥) → blank (join (l ∷ f)) ≡ false
  blank_join h = go l f h
    where
      go : (l : Level) (f : Filter) → (l ∷ f ≡ [] ∷ [] → ⊥) → blank (join (l ∷ f)) ≡ false
      go [] [] h = absurd (h refl)
      go (x ∷ l) [] h = refl
      go [] (m ∷ f) h = refl
      go (x ∷ l) (m ∷ f) h = refl

-- the levels of an accepted text are fine
pub accepted_text : (k : Kind) (f : Filter) → Accepts (rules_of k) f → LevelsFine k 1 65536 f × (f ≡ [] ∷ [] → ⊥)
accepted_text k f a = go k f a.text a.levels a.fine a.depth
  where
    first_rules : (k : Kind) (l : Level) (f : Filter) (s : List ℕ) → split s ≡ l ∷ f → length (l ∷ f) ≤ 128
        → blank s ≡ false → ltb 65535 (length s) ≡ false → not (is_utf8 s) ≡ false → has 0 s ≡ false → all (λ l. not (fault k l)) (l ∷ f) ≡ true
        → LevelsFine k 1 65536 (l ∷ f) × (l ∷ f ≡ [] ∷ [] → ⊥)
    first_rules k l f s e d b t u z w =
        let j : join (l ∷ f) ≡ s = ap join (sym e) ∙ join-split s in
        let c : Clean (l ∷ f) = subst (λ (x : Filter). Clean x) e (clean-split s) in (
          record {
            levels = text-fine l f k c (rw j u) (rw j z) w;
            few = omega (arith, d);
            narrow = length_narrow l f (rw j t);
          },
          (λ (q : l ∷ f ≡ [] ∷ []). true≢false (sym (ap (λ (x : Filter). blank (join x)) q) ∙ ap blank j ∙ b)),
        )

    go : (k : Kind) (f : Filter) (s : List ℕ) → split s ≡ f → checked (rules_of k s) ≡ Ok tt → length f ≤ 128 → LevelsFine k 1 65536 f × (f ≡ [] ∷ [] → ⊥)
    go k [] s e h d = absurd (some_levels s e)
    go Subscriptions (l ∷ f) s e h d =
        let r = kept (filter_rules s) (ap accepted h) in
        first_rules Subscriptions l f s e d r.0 r.1.0 r.1.1.0 r.1.1.1.0
        (sym (index-none bad (l ∷ f)) ∙ ap not (subst (λ (x : Filter). ltb (index bad x) (length x) ≡ false) e r.1.1.1.1.0))
    go Retained (l ∷ f) s e h d =
        let r = kept (name_rules s) (ap accepted h) in
        let j : join (l ∷ f) ≡ s = ap join (sym e) ∙ join-split s in
        first_rules Retained l f s e d r.0 r.1.0 r.1.1.0 r.1.1.1.0
        (sym (join-wild l f) ∙ ap (λ (x : List ℕ). not (wild x)) j ∙ ap not r.1.1.1.1.0)

-- fine levels are those of an accepted text
pub text-accepted : (k : Kind) (l : Level) (f : Filter) → LevelsFine k 1 65536 (l ∷ f) → (l ∷ f ≡ [] ∷ [] → ⊥) → HashLast (l ∷ f) → Accepts (rules_of k) (l ∷ f)
text-accepted k l f r h g = record { text = join (l ∷ f); levels = split-join l f clean; fine = fine k refl; depth = omega (arith, r.few) }
  where
    parts : FineParts k (l ∷ f)
    parts = fine_parts k (l ∷ f) r.levels

    utf8 : not (is_utf8 (join (l ∷ f))) ≡ false
    utf8 = ap not (join_utf8 l f ∙ parts.utf8)

    nul : has 0 (join (l ∷ f)) ≡ false
    nul = not-true (has 0 (join (l ∷ f))) (join_nul l f ∙ parts.nul)

    clean : Clean (l ∷ f)
    clean = all_clean (l ∷ f) parts.slash

    free : all (λ l. not (fault k l)) (l ∷ f) ≡ true
    free = parts.free

    whole : split (join (l ∷ f)) ≡ l ∷ f
    whole = split-join l f clean

    fine : (j : Kind) → j ≡ k → checked (rules_of j (join (l ∷ f))) ≡ Ok tt
    fine Subscriptions e =
        accepts (filter_rules (join (l ∷ f))) (
          blank_join l f h,
          (
            narrow-length l f r.narrow,
            (
              utf8,
              (
                nul,
                (
                  rw whole (not-true (ltb (index bad (l ∷ f)) (length (l ∷ f))) (index-none bad (l ∷ f) ∙ subst (λ (x : Kind). all (λ l. not (fault x l)) (l ∷ f) ≡ true) (sym e) free)),
                  (rw whole (hash_only (l ∷ f) g), tt),
                ),
              ),
            ),
          ),
        )
    fine Retained e =
        accepts (name_rules (join (l ∷ f))) (
          blank_join l f h,
          (
            narrow-length l f r.narrow,
            (
              utf8,
              (
                nul,
                (not-true (wild (join (l ∷ f))) (join-wild l f ∙ subst (λ (x : Kind). all (λ l. not (fault x l)) (l ∷ f) ≡ true) (sym e) free), tt),
              ),
            ),
          ),
        )
