-- What the tests of the units that a node holds say: they are written as what is read from them, and that is in order. Assumes nothing.
use mathlib.Core.Path.{◌≡◌, refl, sym, ap, ◌∙◌}
use Prim.Native.Nat.{ℕ, zero, suc, ◌+◌, ◌*◌, ◌≤◌}
use mathlib.Core.Bool.{Bool, true, false, ◌&&◌, ◌||◌, true≢false, or-true}
use mathlib.Core.Logic.{◌⊎◌, inl, inr, ⊎_elim}
use mathlib.Core.List.{List, [], ◌∷◌, ◌++◌, append-nil}
use mathlib.Core.Option.{Option, none, some}
use native.Mathlib.Omega.{arith}
use lib.Dec.{eqb, ltb}
use lib.ListN.{length, take, drop, get_or, replicate, length-drop}
use lib.Seq.{take_at, drop_at, length-take-le, take-take, take-add, get_or-take, get_or-drop}
use borrow.Author.Tests.{eqb-true, eq-eqb}
use Rattle.lent.specs.Numbers.{be, bytes, AreBytes}
use Rattle.lent.specs.Parts.{part}
use Rattle.lent.proofs.Parts.{part_add, part-eq, part-part}
use Rattle.held.specs.Ascending.{Below}
use Rattle.held.specs.Bytes.{each}
use Rattle.held.specs.Retained.{Stored}
use Rattle.held.specs.Forest.{AscValues, Single}
use Rattle.held.proofs.Orders.{and_left, and_right, byte_order}
use Rattle.held.proofs.Stores.{below_mono}
use Rattle.region.specs.Units.{value_bytes, value_of, moment_bytes, stored_bytes, stored_of}
use Rattle.region.specs.Forms.{Form}
use Rattle.region.specs.Decode.{units_to}
use Rattle.region.specs.declared.Kind.{Kind}
use Rattle.region.specs.declared.Kind.TheVariants.{Subscriptions, Retained}
use Rattle.region.proofs.Instances.{values, records}
use Rattle.content.specs.Contents.{upward, values_fine, records_fine, own_fine}
use Rattle.content.proofs.PartLaws.{are-drop, bytes-part, part_number}

-- what the nodes of a kind of store hold, when it is in order, and that the test of its units tells
pub record Holding (X : Type 0) (k : Kind) : Type 1 where
  pub form : Form X
  pub Fit : List X → Type 0
  pub yes : (m : ℕ) (w : List ℕ) → AreBytes w → m * 16 ≤ length w → own_fine k m w ≡ true
      → (each form.write (units_to form.read m w) ≡ take (m * 16) w) × Fit (units_to form.read m w)
  pub no : (m : ℕ) (w : List ℕ) → m * 16 ≤ length w → each form.write (units_to form.read m w) ≡ take (m * 16) w
      → Fit (units_to form.read m w) → own_fine k m w ≡ true

-- a unit of 16 bytes, in its parts
module _ (w : List ℕ) (h : 16 ≤ length w) where
  unit_parts : take 16 w ≡ part 0 4 w ++ (part 4 4 w ++ part 8 8 w)
  unit_parts = sym (part-eq 0 16 w) ∙ part_add 0 4 12 w ∙ ap (λ (l : List ℕ). part 0 4 w ++ l) (part_add 4 4 8 w)

  unit-part : (q u : ℕ) → q + u ≤ 16 → part q u (take 16 w) ≡ part q u w
  unit-part q u e = ap (part q u) (sym (part-eq 0 16 w)) ∙ part-part q u 0 16 w e ∙ same
    where
      same : part (0 + q) u w ≡ part q u w
      same = let z : 0 + q ≡ q = omega arith in rw z

-- values
value-first : (w : List ℕ) → value_of (take 16 w) ≡ be (part 0 4 w)
unfolding value_of part
value-first w = ap be (take-take 4 16 w (omega arith))

value_second : (w : List ℕ) → value_of (take 16 (drop 16 w)) ≡ be (part 16 4 w)
unfolding value_of part
value_second w = ap be (take-take 4 16 (drop 16 w) (omega arith))

value_rest : (v : ℕ) → (be (part 4 4 (value_bytes v)) ≡ 0) × (be (part 8 8 (value_bytes v)) ≡ 0)
unfolding value_bytes bytes part be
value_rest v = (refl, refl)

module _ (w : List ℕ) (h : 16 ≤ length w) where
  value_yes : AreBytes w → be (part 4 4 w) ≡ 0 → be (part 8 8 w) ≡ 0 → value_bytes (value_of (take 16 w)) ≡ take 16 w
  unfolding value_bytes bytes
  value_yes o a b =
      ap (λ (x : ℕ). bytes 4 x ++ replicate 12 0) (value-first w)
      ∙ rw (unit_parts w h, part_number 4 4 0 w o (omega arith) a, part_number 8 8 0 w o (omega arith) b)
      (ap (λ (l : List ℕ). l ++ replicate 12 0) (bytes-part 0 4 w o (omega arith)))

  value_no : value_bytes (value_of (take 16 w)) ≡ take 16 w → (be (part 4 4 w) ≡ 0) × (be (part 8 8 w) ≡ 0)
  value_no e = (
    ap be (sym (unit-part w h 4 4 (omega arith)) ∙ ap (part 4 4) (sym e)) ∙ (value_rest (value_of (take 16 w))).0,
    ap be (sym (unit-part w h 8 8 (omega arith)) ∙ ap (part 8 8) (sym e)) ∙ (value_rest (value_of (take 16 w))).1,
  )

-- the test of a value's unit, as a whole
abbrev nought : List ℕ → Bool
nought w = eqb (be (part 4 4 w)) 0 && eqb (be (part 8 8 w)) 0

take_more : (m : ℕ) (w : List ℕ) → take (suc m * 16) w ≡ take 16 w ++ take (m * 16) (drop 16 w)
take_more m w = let e : suc m * 16 ≡ 16 + m * 16 = omega arith in rw e (take-add 16 (m * 16) w)

append_parts : (a b c d : List ℕ) → length a ≡ length c → a ++ b ≡ c ++ d → (a ≡ c) × (b ≡ d)
append_parts a b c d l e = (
  sym (take_at a b (length a) refl) ∙ ap (take (length a)) e ∙ take_at c d (length a) (sym l),
  sym (drop_at a b (length a) refl) ∙ ap (drop (length a)) e ∙ drop_at c d (length a) (sym l),
)

ascends : (m : ℕ) (w : List ℕ) → upward m w ≡ true → AscValues (units_to value_of m (drop 16 w)) → Below ltb (λ y. y) (value_of (take 16 w)) (units_to value_of m (drop 16 w))
unfolding units_to
ascends zero w u a = tt
ascends (suc m) w u a =
    let l : ltb (value_of (take 16 w)) (value_of (take 16 (drop 16 w))) ≡ true = rw (value-first w, value_second w) u in
    (l, below_mono (λ y. y) (λ y. y) byte_order (value_of (take 16 w)) (value_of (take 16 (drop 16 w))) (units_to value_of m (drop 16 (drop 16 w))) l a.0)

ascended : (m : ℕ) (w : List ℕ) → Below ltb (λ y. y) (value_of (take 16 w)) (units_to value_of m (drop 16 w)) → upward m w ≡ true
unfolding units_to
ascended zero w b = refl
ascended (suc m) w b = rw (value-first w, value_second w) at b.0

pub values_yes : (m : ℕ) (w : List ℕ) → AreBytes w → m * 16 ≤ length w → values_fine m w ≡ true
    → (each value_bytes (units_to value_of m w) ≡ take (m * 16) w) × AscValues (units_to value_of m w)
unfolding values_fine units_to
values_yes zero w o h e = (refl, tt)
values_yes (suc m) w o h e =
    let p = and_left (nought w) (upward m w && values_fine m (drop 16 w)) e in
    let q = and_right (nought w) (upward m w && values_fine m (drop 16 w)) e in
    let r = values_yes m (drop 16 w) (are-drop 16 w o) (rw length-drop (omega arith)) (and_right (upward m w) (values_fine m (drop 16 w)) q) in
    let a : be (part 4 4 w) ≡ 0 = eqb-true (be (part 4 4 w)) 0 (and_left (eqb (be (part 4 4 w)) 0) (eqb (be (part 8 8 w)) 0) p) in
    let b : be (part 8 8 w) ≡ 0 = eqb-true (be (part 8 8 w)) 0 (and_right (eqb (be (part 4 4 w)) 0) (eqb (be (part 8 8 w)) 0) p) in (
      rw (value_yes w (omega arith) o a b, r.0) (sym (take_more m w)),
      (ascends m w (and_left (upward m w) (values_fine m (drop 16 w)) q) r.1, r.1),
    )

pub values_no : (m : ℕ) (w : List ℕ) → m * 16 ≤ length w → each value_bytes (units_to value_of m w) ≡ take (m * 16) w → AscValues (units_to value_of m w) → values_fine m w ≡ true
unfolding values_fine units_to
values_no zero w h e a = refl
values_no (suc m) w h e a =
    let p = append_parts (value_bytes (value_of (take 16 w))) (each value_bytes (units_to value_of m (drop 16 w))) (take 16 w) (take (m * 16) (drop 16 w))
    (values.long (value_of (take 16 w)) ∙ sym (length-take-le 16 w (omega arith))) (e ∙ take_more m w) in
    let q = value_no w (omega arith) p.0 in
    rw (q.0, q.1, ascended m w a.0) (values_no m (drop 16 w) (rw length-drop (omega arith)) p.1 a.1)

abbrev pub held_values : Holding ℕ Subscriptions
held_values = record { form = values; Fit = AscValues; yes = values_yes; no = values_no }

-- records: the marker with the three bytes behind it is read as one number
marker_of : (w : List ℕ) → 16 ≤ length w → get_or (take 16 w) 4 0 ≡ get_or (part 4 4 w) 0 0
unfolding part
marker_of w h = get_or-take 16 w 4 0 (omega arith) ∙ sym (get_or-take 4 (drop 4 w) 0 0 (omega arith) ∙ get_or-drop 4 w 0 0)

bytes_one : bytes 4 0x1000000 ≡ 1 ∷ 0 ∷ 0 ∷ 0 ∷ []
unfolding bytes
bytes_one = refl

bytes_nought : bytes 4 0 ≡ 0 ∷ 0 ∷ 0 ∷ 0 ∷ []
unfolding bytes
bytes_nought = refl

module _ (w : List ℕ) (h : 16 ≤ length w) (o : AreBytes w) where
  stored_some : be (part 4 4 w) ≡ 0x1000000 → stored_bytes (stored_of (take 16 w)) ≡ take 16 w
  unfolding stored_bytes stored_of
  stored_some e =
      let p : part 4 4 w ≡ 1 ∷ 0 ∷ 0 ∷ 0 ∷ [] = part_number 4 4 0x1000000 w o (omega arith) e ∙ bytes_one in
      let g : get_or (take 16 w) 4 0 ≡ 1 = marker_of w h ∙ ap (λ (l : List ℕ). get_or l 0 0) p in
      rw (g, unit-part w h 0 4 (omega arith), unit-part w h 8 8 (omega arith), unit_parts w h, p)
      (rw (bytes-part 0 4 w o (omega arith)) (ap (λ (l : List ℕ). part 0 4 w ++ (1 ∷ 0 ∷ 0 ∷ 0 ∷ l)) (bytes-part 8 8 w o (omega arith))))

  stored-none : be (part 4 4 w) ≡ 0 → be (part 8 8 w) ≡ 0 → stored_bytes (stored_of (take 16 w)) ≡ take 16 w
  unfolding stored_bytes stored_of
  stored-none e f =
      let p : part 4 4 w ≡ 0 ∷ 0 ∷ 0 ∷ 0 ∷ [] = part_number 4 4 0 w o (omega arith) e ∙ bytes_nought in
      let q : part 8 8 w ≡ bytes 8 0 = part_number 8 8 0 w o (omega arith) f in
      let g : get_or (take 16 w) 4 0 ≡ 0 = marker_of w h ∙ ap (λ (l : List ℕ). get_or l 0 0) p in
      rw (g, unit-part w h 0 4 (omega arith), unit_parts w h, p, q)
      (ap (λ (l : List ℕ). l ++ (0 ∷ 0 ∷ 0 ∷ 0 ∷ bytes 8 0)) (bytes-part 0 4 w o (omega arith)))

-- and what a record is written as tells its marker
moment-of : (x : ℕ) (m : Option ℕ) → (be (part 4 4 (bytes 4 x ++ moment_bytes m)) ≡ 0x1000000) ⊎ ((be (part 4 4 (bytes 4 x ++ moment_bytes m)) ≡ 0) × (be (part 8 8 (bytes 4 x ++ moment_bytes m)) ≡ 0))
unfolding bytes part be
moment-of x none = inr (refl, refl)
moment-of x (some m) = inl refl

stored_marks : (s : Stored) → (be (part 4 4 (stored_bytes s)) ≡ 0x1000000) ⊎ ((be (part 4 4 (stored_bytes s)) ≡ 0) × (be (part 8 8 (stored_bytes s)) ≡ 0))
unfolding stored_bytes
stored_marks s = moment-of s.handle s.moment

or_cases : (a b : Bool) → (a || b) ≡ true → (a ≡ true) ⊎ (b ≡ true)
or_cases true b e = inl refl
or_cases false b e = inr e

pub records_yes : (m : ℕ) (w : List ℕ) → AreBytes w → m * 16 ≤ length w → records_fine m w ≡ true
    → (each stored_bytes (units_to stored_of m w) ≡ take (m * 16) w) × Single (units_to stored_of m w)
unfolding records_fine units_to
records_yes zero w o h e = (refl, tt)
records_yes (suc zero) w o h e = (
  append-nil (stored_bytes (stored_of (take 16 w)))
      ∙ ⊎_elim
      (λ (p : eqb (be (part 4 4 w)) 0x1000000 ≡ true). stored_some w h o (eqb-true (be (part 4 4 w)) 0x1000000 p))
      (λ (p : nought w ≡ true). stored-none w h o (eqb-true (be (part 4 4 w)) 0 (and_left (eqb (be (part 4 4 w)) 0) (eqb (be (part 8 8 w)) 0) p)) (eqb-true (be (part 8 8 w)) 0 (and_right (eqb (be (part 4 4 w)) 0) (eqb (be (part 8 8 w)) 0) p)))
      (or_cases (eqb (be (part 4 4 w)) 0x1000000) (nought w) e),
  tt,
)
records_yes (suc (suc m)) w o h e = absurd (true≢false (sym e))

pub records_no : (m : ℕ) (w : List ℕ) → m * 16 ≤ length w → each stored_bytes (units_to stored_of m w) ≡ take (m * 16) w → Single (units_to stored_of m w) → records_fine m w ≡ true
unfolding records_fine units_to
records_no zero w h e a = refl
records_no (suc zero) w h e a =
    let q : stored_bytes (stored_of (take 16 w)) ≡ take 16 w = sym (append-nil (stored_bytes (stored_of (take 16 w)))) ∙ e in
    let f : be (part 4 4 w) ≡ be (part 4 4 (stored_bytes (stored_of (take 16 w)))) = ap be (sym (unit-part w h 4 4 (omega arith)) ∙ ap (part 4 4) (sym q)) in
    let g : be (part 8 8 w) ≡ be (part 8 8 (stored_bytes (stored_of (take 16 w)))) = ap be (sym (unit-part w h 8 8 (omega arith)) ∙ ap (part 8 8) (sym q)) in
    ⊎_elim
    (λ p. rw (eq-eqb (be (part 4 4 w)) 0x1000000 (f ∙ p)))
    (λ p.
    let z : nought w ≡ true = rw (eq-eqb (be (part 4 4 w)) 0 (f ∙ p.0)) (eq-eqb (be (part 8 8 w)) 0 (g ∙ p.1)) in
    rw z (or-true (eqb (be (part 4 4 w)) 0x1000000)))
    (stored_marks (stored_of (take 16 w)))
records_no (suc (suc m)) w h e a = absurd a

abbrev pub held_records : Holding Stored Retained
held_records = record { form = records; Fit = Single; yes = records_yes; no = records_no }
