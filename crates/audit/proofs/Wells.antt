-- A forest is fine, node by node, exactly when it is well formed and what it holds stands under fine texts. Assumes nothing.
use mathlib.Core.Path.{◌≡◌, refl, sym, ◌∙◌}
use Prim.Native.Nat.{ℕ, ◌+◌, ◌-◌, ◌<◌}
use mathlib.Core.Bool.{Bool, true, false, not, ◌&&◌, ◌||◌, true≢false}
use mathlib.Core.List.{List, [], ◌∷◌, ◌++◌, map}
use native.Mathlib.Omega.{arith}
use lib.Dec.{eqb}
use lib.ListN.{length}
use borrow.Author.Tests.{not-true}
use Rattle.utf8.specs.Utf8.{is_utf8}
use Rattle.level.specs.Levels.{has}
use Rattle.level.specs.Kinds.{is_only, wild}
use Rattle.held.specs.Order.{Level, Filter}
use Rattle.held.specs.Ascending.{All}
use Rattle.held.specs.Forest.{Forest, leaf, fork, held, under, Over, Rows, HashEnds, Owns, Full}
use Rattle.held.specs.Edit.{HashLast}
use Rattle.held.proofs.Edits.{over_mono}
use Rattle.held.proofs.Entries.{all_map, all_with, all_append, all_before, all_behind}
use Rattle.held.proofs.Orders.{and_right}
use Rattle.region.specs.declared.Kind.{Kind}
use Rattle.region.specs.declared.Kind.TheVariants.{Retained}
use Rattle.content.specs.Contents.{level_fine}
use Rattle.content.specs.Texts.{TextFine}
use Rattle.audit.specs.Fine.{Follows, Fine}

-- all of two lists, and of a list that was mapped
module _ {E : Type 0} (P : E → Type 0) where
  all_unmap : {D : Type 0} (f : D → E) (l : List D) → All P (map f l) → All (λ d. P (f d)) l
  all_unmap f [] a = tt
  all_unmap f (d ∷ l) a = (a.0, all_unmap f l a.1)

  all-each : ((e : E) → P e) → (l : List E) → All P l
  all-each h [] = tt
  all-each h (e ∷ l) = (h e, all-each h l)

-- a name has no '#'
tame-hash : (l : Level) → level_fine Retained l ≡ true → is_only 35 l ≡ false
unfolding level_fine
tame-hash l e =
    go l (not-true (wild l) (and_right (not (has 47 l)) (not (wild l)) (and_right (not (has 0 l)) (not (has 47 l) && not (wild l)) (and_right (is_utf8 l) (not (has 0 l) && (not (has 47 l) && not (wild l))) e))))
  where
    go : (l : Level) → wild l ≡ false → is_only 35 l ≡ false
    go [] w = refl
    go (x ∷ []) w = hash (eqb x 43) (eqb x 35) w
      where
        hash : (a b : Bool) → ((a || b) || false) ≡ false → b ≡ false
        hash true b w = absurd (true≢false w)
        hash false true w = absurd (true≢false w)
        hash false false w = refl
    go (x ∷ y ∷ l) w = refl

-- one that has a property
record Some {E : Type 0} (P : E → Type 0) : Type 0 where
  it : E
  has : P it

module _ {X : Type 0} where
  -- all that a forest holds, from what its first node holds, what is below that, and the rest of the row
  module _ (Q : Filter × X → Type 0) (t : Level) (v : List X) (k n : Forest X) where
    held_all : All (λ x. Q (t ∷ [], x)) v → All (λ e. Q (under t e)) (held k) → All Q (held n) → All Q (held (fork t v k n))
    unfolding held
    held_all a b c =
        all_append Q (map (λ x. (t ∷ [], x)) v) (map (under t) (held k) ++ held n) (all_map Q (λ x. (t ∷ [], x)) v a)
        (all_append Q (map (under t) (held k)) (held n) (all_map Q (under t) (held k) b) c)

    held_own : All Q (held (fork t v k n)) → All (λ x. Q (t ∷ [], x)) v
    unfolding held
    held_own a = all_unmap Q (λ x. (t ∷ [], x)) v (all_before Q (map (λ x. (t ∷ [], x)) v) (map (under t) (held k) ++ held n) a)

    held_kids : All Q (held (fork t v k n)) → All (λ e. Q (under t e)) (held k)
    unfolding held
    held_kids a =
        all_unmap Q (under t) (held k) (all_before Q (map (under t) (held k)) (held n)
        (all_behind Q (map (λ x. (t ∷ [], x)) v) (map (under t) (held k) ++ held n) a))

    held_next : All Q (held (fork t v k n)) → All Q (held n)
    unfolding held
    held_next a = all_behind Q (map (under t) (held k)) (held n) (all_behind Q (map (λ x. (t ∷ [], x)) v) (map (under t) (held k) ++ held n) a)

  held_leaf : (Q : Filter × X → Type 0) → All Q (held leaf)
  unfolding held
  held_leaf Q = tt

  -- a full forest that has a node holds something
  held_some : (Q : Filter × X → Type 0) (t : Level) (k : Forest X) (v : List X) (n : Forest X) → Full (fork t v k n) → All Q (held (fork t v k n)) → Some (λ (f : Filter). Some (λ (x : X). Q (t ∷ f, x)))
  held_some Q t leaf [] n f a = absurd (f.0 refl refl)
  held_some Q t leaf (x ∷ v) n f a = record { it = []; has = record { it = x; has = (held_own Q t (x ∷ v) leaf n a).0 } }
  held_some Q t (fork u w j m) v n f a =
      let r = held_some (λ e. Q (under t e)) u j w m f.1 (held_kids Q t v (fork u w j m) n a) in
      record { it = u ∷ r.it; has = record { it = r.has.it; has = r.has.has } }

  -- the paths of what is held are not empty
  pub held_path : (F : Forest X) → All (λ (e : Filter × X). e.0 ≡ [] → ⊥) (held F)
  held_path leaf = held_leaf (λ (e : Filter × X). e.0 ≡ [] → ⊥)
  held_path (fork t v k n) =
      held_all (λ (e : Filter × X). e.0 ≡ [] → ⊥) t v k n
      (all-each (λ (x : X). t ∷ [] ≡ [] → ⊥) (λ x q. cons_nil t [] q) v)
      (all-each (λ (e : Filter × X). t ∷ e.0 ≡ [] → ⊥) (λ e q. cons_nil t e.0 q) (held k))
      (held_path n)
    where
      cons_nil : (t : Level) (f : Filter) → t ∷ f ≡ [] → ⊥
      cons_nil t f q = let z : ◌≡◌ {A = ℕ} 0 1 = cc in omega arith

  -- '#' is only last in what a forest holds whose '#' have no children
  pub held-hash : (F : Forest X) → HashEnds F → All (λ (e : Filter × X). HashLast e.0) (held F)
  held-hash leaf h = held_leaf (λ (e : Filter × X). HashLast e.0)
  held-hash (fork t v k n) h =
      held_all (λ (e : Filter × X). HashLast e.0) t v k n
      (all-each (λ (x : X). HashLast (t ∷ [])) (λ x. ((λ q. refl), tt)) v)
      (below (is_only 35 t) refl (held-hash k h.1))
      (held-hash n h.2)
    where
      below : (b : Bool) → is_only 35 t ≡ b → All (λ (e : Filter × X). HashLast e.0) (held k) → All (λ (e : Filter × X). HashLast (t ∷ e.0)) (held k)
      below true q a = let z : k ≡ leaf = h.0 q in rw z (held_leaf (λ (e : Filter × X). HashLast (t ∷ e.0)))
      below false q a = all_with (λ (e : Filter × X). HashLast e.0) (λ (e : Filter × X). HashLast (t ∷ e.0)) (λ e p. ((λ r. absurd (true≢false (sym r ∙ q))), p)) (held k) a

  follows_over : (l : Level) (n : Forest X) → Follows l n → Rows n → Over l n
  follows_over l leaf f r = tt
  follows_over l (fork t v k n) f r = (f, over_mono (λ v. v) l t n f r.0)

  over-follows : (l : Level) (n : Forest X) → Over l n → Follows l n
  over-follows l leaf o = tt
  over-follows l (fork t v k n) o = o.0

  module _ (kind : Kind) (P : List X → Type 0) where
    pub fine-rows : (d room : ℕ) (F : Forest X) → Fine kind P d room F → Rows F
    fine-rows d room leaf w = tt
    fine-rows d room (fork t v k n) w =
        let r = fine-rows d room n w.2 in
        (follows_over t n w.0.next r, fine-rows (d + 1) (room - (length t + 1)) k w.1, r)

    pub fine_ends : (d room : ℕ) (F : Forest X) → Fine kind P d room F → HashEnds F
    fine_ends d room leaf w = tt
    fine_ends d room (fork t v k n) w = (w.0.ends, fine_ends (d + 1) (room - (length t + 1)) k w.1, fine_ends d room n w.2)

    pub fine_owns : (d room : ℕ) (F : Forest X) → Fine kind P d room F → Owns P F
    fine_owns d room leaf w = tt
    fine_owns d room (fork t v k n) w = (w.0.owns, fine_owns (d + 1) (room - (length t + 1)) k w.1, fine_owns d room n w.2)

    pub fine_full : (d room : ℕ) (F : Forest X) → Fine kind P d room F → Full F
    fine_full d room leaf w = tt
    fine_full d room (fork t v k n) w = (w.0.full, fine_full (d + 1) (room - (length t + 1)) k w.1, fine_full d room n w.2)

    pub fine_texts : (d room : ℕ) (F : Forest X) → Fine kind P d room F → All (λ (e : Filter × X). TextFine kind d room e.0) (held F)
    fine_texts d room leaf w = held_leaf (λ (e : Filter × X). TextFine kind d room e.0)
    fine_texts d room (fork t v k n) w =
        held_all (λ (e : Filter × X). TextFine kind d room e.0) t v k n
        (all-each (λ (x : X). TextFine kind d room (t ∷ [])) (λ x. (w.0.depth, w.0.level, w.0.wide, tt)) v)
        (all_with (λ (e : Filter × X). TextFine kind (d + 1) (room - (length t + 1)) e.0) (λ (e : Filter × X). TextFine kind d room (t ∷ e.0))
        (λ e p. (w.0.depth, w.0.level, w.0.wide, p)) (held k) (fine_texts (d + 1) (room - (length t + 1)) k w.1))
        (fine_texts d room n w.2)

    -- no held text is the empty one
    pub fine-starts : (d room : ℕ) (F : Forest X) → d ≡ 1 → Fine kind P d room F → All (λ (e : Filter × X). e.0 ≡ [] ∷ [] → ⊥) (held F)
    fine-starts d room leaf z w = held_leaf (λ (e : Filter × X). e.0 ≡ [] ∷ [] → ⊥)
    fine-starts d room (fork t v k n) z w =
        held_all (λ (e : Filter × X). e.0 ≡ [] ∷ [] → ⊥) t v k n
        (own v (w.0.begins z))
        (all_with (λ (e : Filter × X). e.0 ≡ [] → ⊥) (λ (e : Filter × X). t ∷ e.0 ≡ [] ∷ [] → ⊥) (λ e p q. p (cc)) (held k) (held_path k))
        (fine-starts d room n z w.2)
      where
        own : (v : List X) → (t ≡ [] → v ≡ []) → All (λ (x : X). t ∷ [] ≡ [] ∷ [] → ⊥) v
        own [] h = tt
        own (x ∷ v) h = all-each (λ (x : X). t ∷ [] ≡ [] ∷ [] → ⊥) (λ y q. never (h (cc))) (x ∷ v)
          where
            never : x ∷ v ≡ [] → ⊥
            never q = let z : ◌≡◌ {A = ℕ} 0 1 = cc in omega arith

    -- and the other way round: every node stands on the way to something held, so its level is a level of a fine text
    pub wells_fine : (d room : ℕ) (F : Forest X) → 0 < d → Rows F → HashEnds F → Owns P F → Full F
        → All (λ (e : Filter × X). TextFine kind d room e.0) (held F) → (d ≡ 1 → All (λ (e : Filter × X). e.0 ≡ [] ∷ [] → ⊥) (held F)) → Fine kind P d room F
    wells_fine d room leaf z r e o f a b = tt
    wells_fine d room (fork t v k n) z r e o f a b =
        let w = held_some (λ (x : Filter × X). TextFine kind d room x.0) t k v n f a in
        let p = w.has.has in (
          record {
            depth = p.0;
            level = p.1;
            wide = p.2;
            owns = o.0;
            full = f.0;
            ends = e.0;
            begins = λ q. start v (held_own (λ (x : Filter × X). x.0 ≡ [] ∷ [] → ⊥) t v k n (b q));
            next = over-follows t n r.0;
          },
          wells_fine (d + 1) (room - (length t + 1)) k (omega arith) r.1 e.1 o.1 f.1
              (all_with (λ (x : Filter × X). TextFine kind d room (t ∷ x.0)) (λ (x : Filter × X). TextFine kind (d + 1) (room - (length t + 1)) x.0) (λ x q. q.3) (held k)
              (held_kids (λ (x : Filter × X). TextFine kind d room x.0) t v k n a))
              (λ q. absurd (omega (arith, q))),
          wells_fine d room n z r.2 e.2 o.2 f.2
              (held_next (λ (x : Filter × X). TextFine kind d room x.0) t v k n a)
              (λ q. held_next (λ (x : Filter × X). x.0 ≡ [] ∷ [] → ⊥) t v k n (b q)),
        )
      where
        start : (v : List X) → All (λ (x : X). t ∷ [] ≡ [] ∷ [] → ⊥) v → t ≡ [] → v ≡ []
        start [] h q = refl
        start (x ∷ v) h q = absurd (h.0 (rw q))

  -- so the forest of names has no '#' with a child
  pub names_end : (d room : ℕ) (F : Forest X) → Full F → All (λ (e : Filter × X). TextFine Retained d room e.0) (held F) → HashEnds F
  names_end d room leaf f a = tt
  names_end d room (fork t v k n) f a =
      let w = held_some (λ (x : Filter × X). TextFine Retained d room x.0) t k v n f a in (
        (λ q. absurd (true≢false (sym q ∙ tame-hash t w.has.has.1))),
        names_end (d + 1) (room - (length t + 1)) k f.1
            (all_with (λ (x : Filter × X). TextFine Retained d room (t ∷ x.0)) (λ (x : Filter × X). TextFine Retained (d + 1) (room - (length t + 1)) x.0) (λ x q. q.3) (held k)
            (held_kids (λ (x : Filter × X). TextFine Retained d room x.0) t v k n a)),
        names_end d room n f.2 (held_next (λ (x : Filter × X). TextFine Retained d room x.0) t v k n a),
      )
