-- The turns of the search for the first node that goes. Assumes nothing.
use mathlib.Core.Path.{◌≡◌, refl, sym, ap, ◌∙◌}
use mathlib.Core.Bool.{Bool, true, false}
use mathlib.Core.List.{List, [], ◌∷◌}
use Prim.Native.Nat.{ℕ, zero, suc, ◌+◌, ◌-◌, ◌≤◌, ◌<◌}
use native.Mathlib.Omega.{arith}
use native.Mathlib.Numerals.{add-one}
use lib.Dec.{eqb}
use lib.ListN.{length, take, drop, get_or, length-take, drop_of_length-le}
use lib.Seq.{drop-cons, get_or-take}
use borrow.Author.Tests.{eq-eqb, ne_eqb}
use Rattle.forest.specs.declared.Row.{Row}
use Rattle.forest.specs.Places.{RowAt}
use Rattle.room.specs.Stay.{lone_at, above, staying}

module _ (base : ℕ) (s : List ℕ) (n : ℕ) where
  -- the tests of is_lone
  module _ (i k : ℕ) (a b : Row) (ra : RowAt base s i n a) (rb : RowAt base s k n b) where
    pub lone_own : (a.own ≡ 0 → ⊥) → false ≡ lone_at base s n i k
    lone_own h = rw (← ra.own_is, ne_eqb a.own 0 h)

    pub lone_end : a.own ≡ 0 → (a.end ≡ k → ⊥) → false ≡ lone_at base s n i k
    lone_end z h = rw (← ra.own_is, ← ra.end_is, eq-eqb a.own 0 z, ne_eqb a.end k h)

    pub lone_past : a.own ≡ 0 → a.end ≡ k → eqb a.past b.past ≡ lone_at base s n i k
    lone_past z h = rw (← ra.own_is, ← ra.end_is, ← ra.past_is, ← rb.past_is, eq-eqb a.own 0 z, eq-eqb a.end k h)

  stay-more : (i k : ℕ) (is : List ℕ) → staying base s n (i ∷ k ∷ is) ≡ above (lone_at base s n i k) (staying base s n (k ∷ is))
  unfolding staying
  stay-more i k is = refl

  stay_suc : (i k : ℕ) (is : List ℕ) (j : ℕ) → staying base s n (k ∷ is) ≡ suc j → staying base s n (i ∷ k ∷ is) ≡ suc (suc j)
  stay_suc i k is j h = stay-more i k is ∙ rw h (both (lone_at base s n i k))
    where
      both : (t : Bool) → above t (suc j) ≡ suc (suc j)
      both true = refl
      both false = refl

  stay_rest : (c j : ℕ) (ns : List ℕ) → c < length ns → staying base s n (drop c ns) ≡ suc j → staying base s n ns ≡ suc (c + j)
  stay_rest zero j ns h e = e ∙ omega arith
  stay_rest (suc c) j [] h e = absurd (omega arith)
  stay_rest (suc c) j (i ∷ []) h e = absurd (omega arith)
  stay_rest (suc c) j (i ∷ k ∷ is) h e = stay_suc i k is (c + j) (stay_rest c j (k ∷ is) (omega arith) e) ∙ omega arith

  -- two nodes of a path, one after the other
  two-on : (ns : List ℕ) (c : ℕ) → 0 < c → c < length ns → drop (c - 1) ns ≡ get_or ns (c - 1) 0 ∷ get_or ns c 0 ∷ drop (c + 1) ns
  two-on ns c p h =
      let z : suc (c - 1) ≡ c = omega arith in
      drop-cons ns (c - 1) 0 (omega arith)
      ∙ ap (λ (l : List ℕ). get_or ns (c - 1) 0 ∷ l) (rw z (drop-cons ns c 0 h ∙ rw add-one))

-- the turns of stay: c - 1 is the place of the first node that is known to go with all below it
module _ (base : ℕ) (s : List ℕ) (n : ℕ) (nodes : List ℕ) (depth : ℕ) (long : length nodes ≡ 128) (few : depth ≤ 128) where
  path_long : length (take depth nodes) ≡ depth
  path_long = rw length-take (omega (arith, long))

  pub stay_begin : 0 < depth → staying base s n (drop (depth - 1) (take depth nodes)) ≡ 0
  unfolding staying
  stay_begin p =
      let none : drop (suc (depth - 1)) (take depth nodes) ≡ [] = drop_of_length-le (take depth nodes) {i = suc (depth - 1)} (omega (arith, path_long)) in
      let one : drop (depth - 1) (take depth nodes) ≡ get_or (take depth nodes) (depth - 1) 0 ∷ [] =
      drop-cons (take depth nodes) (depth - 1) 0 (omega (arith, path_long)) ∙ ap (λ (l : List ℕ). get_or (take depth nodes) (depth - 1) 0 ∷ l) none in
      ap (staying base s n) one

  module _ (c : ℕ) (gone : staying base s n (drop (c - 1) (take depth nodes)) ≡ 0) (on : c ≤ depth) (some : 1 < c) where
    pair-on : drop (c - 1 - 1) (take depth nodes) ≡ get_or nodes (c - 1 - 1) 0 ∷ get_or nodes (c - 1) 0 ∷ drop (c - 1 + 1) (take depth nodes)
    pair-on =
        two-on base s n (take depth nodes) (c - 1) (omega arith) (omega (arith, path_long))
        ∙ rw (get_or-take depth nodes (c - 1 - 1) 0 (omega arith), get_or-take depth nodes (c - 1) 0 (omega arith))

    rest-on : drop (c - 1) (take depth nodes) ≡ get_or nodes (c - 1) 0 ∷ drop (c - 1 + 1) (take depth nodes)
    rest-on =
        drop-cons (take depth nodes) (c - 1) 0 (omega (arith, path_long)) ∙ rw (get_or-take depth nodes (c - 1) 0 (omega arith), add-one)

    before : {t : Bool} → t ≡ lone_at base s n (get_or nodes (c - 1 - 1) 0) (get_or nodes (c - 1) 0) → staying base s n (drop (c - 1 - 1) (take depth nodes)) ≡ above t 0
    before e =
        let g : staying base s n (get_or nodes (c - 1) 0 ∷ drop (c - 1 + 1) (take depth nodes)) ≡ 0 = ap (staying base s n) (sym rest-on) ∙ gone in
        ap (staying base s n) pair-on ∙ stay-more base s n (get_or nodes (c - 1 - 1) 0) (get_or nodes (c - 1) 0) (drop (c - 1 + 1) (take depth nodes)) ∙ rw (← e, g)

    pub stay_again : {t : Bool} → t ≡ lone_at base s n (get_or nodes (c - 1 - 1) 0) (get_or nodes (c - 1) 0) → t ≡ true → staying base s n (drop (c - 1 - 1) (take depth nodes)) ≡ 0
    stay_again e z = before e ∙ ap (λ (t : Bool). above t 0) z

    pub stay_stop : {t : Bool} → t ≡ lone_at base s n (get_or nodes (c - 1 - 1) 0) (get_or nodes (c - 1) 0) → t ≡ false → c - 1 ≡ staying base s n (take depth nodes)
    stay_stop e z =
        let o : staying base s n (drop (c - 1 - 1) (take depth nodes)) ≡ suc 0 = before e ∙ ap (λ (t : Bool). above t 0) z in
        omega (arith, stay_rest base s n (c - 1 - 1) 0 (take depth nodes) (omega (arith, path_long)) o)

  pub stay_end : (c : ℕ) → staying base s n (drop (c - 1) (take depth nodes)) ≡ 0 → c ≤ 1 → 0 ≡ staying base s n (take depth nodes)
  stay_end c gone h =
      let z : c - 1 ≡ 0 = omega arith in
      sym (rw z at gone)
