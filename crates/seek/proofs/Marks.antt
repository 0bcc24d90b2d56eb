-- A mark that is no deeper than a row's is that of a sibling: the row is parted there. Assumes nothing.
use mathlib.Core.Path.{◌≡◌, refl, sym, ap, ◌∙◌}
use mathlib.Core.List.{List, [], ◌∷◌, ◌++◌, append_assoc}
use mathlib.Core.Logic.{◌⊎◌, inl, inr, ⊎_elim}
use Prim.Native.Nat.{ℕ, zero, suc, ◌+◌, ◌-◌, ◌≤◌, ◌<◌}
use native.Mathlib.Omega.{arith}
use lib.ListN.{length, replicate, get_or, length-append, length-replicate, get_or-append}
use lib.Seq.{get_or-append-add}
use Rattle.lent.proofs.Anywhere.{lt-or_ge}
use Rattle.held.specs.Order.{Level}
use Rattle.held.specs.Ascending.{All}
use Rattle.held.specs.Forest.{Forest, leaf, fork}
use Rattle.region.specs.Layout.{row_units, units_f, marks_of}
use Rattle.forest.proofs.StandsLaws.{length_marks}
use Rattle.seek.proofs.Beside.{beside, beside_node, beside_none}

-- all of a list are at least e
abbrev Least : ℕ → List ℕ → Type 0
Least e l = All (λ (x : ℕ). e ≤ x) l

least-append : (e : ℕ) (a b : List ℕ) → Least e a → Least e b → Least e (a ++ b)
least-append e [] b p q = q
least-append e (x ∷ a) b p q = (p.0, least-append e a b p.1 q)

least-same : (e n x : ℕ) → e ≤ x → Least e (replicate n x)
least-same e zero x h = tt
least-same e (suc n) x h = (h, least-same e n x h)

least_at : (e : ℕ) (l : List ℕ) (i : ℕ) → Least e l → i < length l → e ≤ get_or l i 0
least_at e [] i p h = absurd (omega arith)
least_at e (x ∷ l) zero p h = p.0
least_at e (x ∷ l) (suc i) p h = least_at e l i p.1 (omega arith)

module _ {X : Type 0} where
  -- the marks of a forest are its depth at least
  least_marks : (e d : ℕ) → e ≤ 255 → e ≤ d → (F : Forest X) → Least e (marks_of d F)
  unfolding marks_of
  least_marks e d h q leaf = tt
  least_marks e d h q (fork t v k n) = (
    q,
    least-append e (replicate (row_units t v - 1) 255) (marks_of (d + 1) k ++ marks_of d n) (least-same e (row_units t v - 1) 255 h)
        (least-append e (marks_of (d + 1) k) (marks_of d n) (least_marks e (d + 1) h (omega arith) k) (least_marks e d h q n)),
  )

  -- a node's marks: its first, and the rest of its row with all below it
  module _ (d : ℕ) (t : Level) (v : List X) (k n : Forest X) where
    inner : List ℕ
    inner = replicate (row_units t v - 1) 255 ++ marks_of (d + 1) k

    node_marks : marks_of d (fork t v k n) ≡ (d ∷ inner) ++ marks_of d n
    unfolding marks_of inner
    node_marks = ap (λ (l : List ℕ). d ∷ l) (sym (append_assoc (replicate (row_units t v - 1) 255) (marks_of (d + 1) k) (marks_of d n)))

    length_inner : length (d ∷ inner) ≡ row_units t v + units_f k
    unfolding inner
    length_inner = rw (length-append, length-replicate, length_marks (d + 1) k) (omega arith)

    mark_inner : d < 255 → (i : ℕ) → 0 < i → i < row_units t v + units_f k → d < get_or (marks_of d (fork t v k n)) i 0
    unfolding inner
    mark_inner h i p q =
        let l : i < length (d ∷ inner) = rw length_inner q in
        rw (node_marks, get_or-append (d ∷ inner) (marks_of d n) 0 i l)
        (rest i p (least-append (d + 1) (replicate (row_units t v - 1) 255) (marks_of (d + 1) k) (least-same (d + 1) (row_units t v - 1) 255 (omega arith)) (least_marks (d + 1) (d + 1) (omega arith) (omega arith) k)) l)
      where
        rest : (i : ℕ) → 0 < i → Least (d + 1) inner → i < length (d ∷ inner) → d < get_or (d ∷ inner) i 0
        rest zero p w l = absurd (omega arith)
        rest (suc i) p w l = omega (arith, least_at (d + 1) inner i w (omega arith))

    mark_next : (i : ℕ) → get_or (marks_of d (fork t v k n)) (row_units t v + units_f k + i) 0 ≡ get_or (marks_of d n) i 0
    mark_next i = rw (node_marks, ← length_inner) (get_or-append-add (d ∷ inner) (marks_of d n) i 0)

-- a row parted before a sibling, with a number of units in front of it
pub record Cut {X : Type 0} (F : Forest X) (i : ℕ) : Type 0 where
  pub before : Forest X
  pub text : Level
  pub own : List X
  pub kids : Forest X
  pub next : Forest X
  pub is : F ≡ beside before (fork text own kids next)
  pub at : units_f before ≡ i

module _ {X : Type 0} (d : ℕ) (h : d < 255) where
  cut-first : (t : Level) (v : List X) (k n : Forest X) → Cut (fork t v k n) 0
  unfolding units_f
  cut-first t v k n = record { before = leaf; text = t; own = v; kids = k; next = n; is = sym (beside_none (fork t v k n)); at = refl }

  cut_next : (t : Level) (v : List X) (k n : Forest X) (i : ℕ) → Cut n i → Cut (fork t v k n) (row_units t v + units_f k + i)
  unfolding units_f
  cut_next t v k n i c =
      record {
        before = fork t v k c.before;
        text = c.text;
        own = c.own;
        kids = c.kids;
        next = c.next;
        is = rw (beside_node t v k c.before (fork c.text c.own c.kids c.next)) (ap (fork t v k) c.is);
        at = omega (arith, c.at);
      }

  -- a node in front of a row that is parted everywhere
  cut_fork : (t : Level) (v : List X) (k n : Forest X) (i : ℕ) → i < row_units t v + (units_f k + units_f n) → (0 < i → get_or (marks_of d (fork t v k n)) i 0 ≤ d)
      → ((j : ℕ) → j < units_f n → (0 < j → get_or (marks_of d n) j 0 ≤ d) → Cut n j) → Cut (fork t v k n) i
  cut_fork t v k n i p q f = ⊎_elim first (λ (z : 0 < i). ⊎_elim (within z) behind (lt-or_ge i (row_units t v + units_f k))) (le-or_gt i)
    where
      le-or_gt : (i : ℕ) → (i ≡ 0) ⊎ (0 < i)
      le-or_gt zero = inl refl
      le-or_gt (suc i) = inr (omega arith)

      first : i ≡ 0 → Cut (fork t v k n) i
      first z = rw z (cut-first t v k n)

      within : 0 < i → i < row_units t v + units_f k → Cut (fork t v k n) i
      within z l = absurd (omega (arith, mark_inner d t v k n h i z l, q z))

      behind : row_units t v + units_f k ≤ i → Cut (fork t v k n) i
      behind l =
          let j : ℕ = i - (row_units t v + units_f k) in
          let e : row_units t v + units_f k + j ≡ i = omega arith in
          let m : get_or (marks_of d n) j 0 ≡ get_or (marks_of d (fork t v k n)) i 0 = sym (mark_next d t v k n j) ∙ rw e in
          rw e at (cut_next t v k n j (f j (omega arith) (λ z. rw m (q (omega arith)))))

  pub cut_at : (F : Forest X) (i : ℕ) → i < units_f F → (0 < i → get_or (marks_of d F) i 0 ≤ d) → Cut F i
  unfolding units_f
  cut_at leaf i p q = absurd (omega arith)
  cut_at (fork t v k n) i p q = cut_fork t v k n i p q (cut_at n)
