-- The tests of a row, as the code makes them. Assumes nothing.
use Rattle.std.specs.Prelude.{None, Some}
use mathlib.Core.Path.{◌≡◌, refl, sym, ap, ◌∙◌}
use Prim.Native.Nat.{ℕ, suc, ◌+◌, ◌-◌, ◌*◌, ◌/◌, ◌%◌, ◌≤◌, ◌<◌, min}
use mathlib.Core.Bool.{Bool, true, false, not, cond, ◌&&◌, ◌||◌, and-true}
use mathlib.Core.List.{List, [], ◌∷◌}
use native.Mathlib.Omega.{arith}
use native.Mathlib.Nat.{add-zero}
use lib.Dec.{eqb}
use lib.ListN.{length, take, drop, get_or}
use borrow.Author.Tests.{eq-eqb, ne_eqb, lt-ltb, le-ltb, le-leb, lt-leb, not-false, not-true}
use Rattle.level.specs.Kinds.{blank, is_only, same}
use Rattle.lent.specs.Parts.{part}
use Rattle.lent.specs.Total.{read}
use Rattle.lent.proofs.Parts.{part-eq, take_part, drop-part}
use Rattle.lent.proofs.Anywhere.{read_in, from-part}
use Rattle.held.specs.Order.{Level, level_lt}
use Rattle.held.specs.Room.{level_cells}
use Rattle.held.proofs.Orders.{level_order, eq_lower}
use Rattle.region.specs.declared.Kind.{Kind}
use Rattle.std.specs.Ordering.{is_lt}
use Rattle.std.specs.declared.cmp.Ordering.{Ordering}
use Rattle.std.specs.declared.cmp.Ordering.TheVariants.{Equal, Greater}
use Rattle.forest.specs.Compare.{order_of}
use Rattle.forest.specs.Places.{unit_at, len_at, own_at, below_at, level_in}
use Rattle.audit.specs.declared.Head.{Head}
use Rattle.audit.specs.declared.Left.{Left}
use Rattle.audit.specs.Tally.{taken}
use Rattle.audit.specs.Heads.{HeadAt}
use Rattle.content.specs.Contents.{every, level_fine, plain_to, own_fine}
use Rattle.audit.specs.Tests.{end_at, may_hold, shape_fine, follows, marks_fine, fill_fine, written_fine, text_fine, placed_fine, row_fine}
use Rattle.content.proofs.LevelLaws.{short_fine}

-- the head
pub head_is : (base i n : ℕ) (s : List ℕ) → i < n → unit_at base n ≤ length s → {a b c e : ℕ}
    → a ≡ read 2 0 (take (base + i * 16 + 8 - (base + i * 16)) (drop (base + i * 16) s)) → a < 65536
    → b ≡ read 2 2 (take (base + i * 16 + 8 - (base + i * 16)) (drop (base + i * 16) s)) → b < 65536
    → c ≡ read 2 4 (take (base + i * 16 + 8 - (base + i * 16)) (drop (base + i * 16) s)) → c < 65536
    → e ≡ read 2 6 (take (base + i * 16 + 8 - (base + i * 16)) (drop (base + i * 16) s))
    → HeadAt base s i (record { len = a; own = b; below = c; spare = e })
head_is base i n s h w ea la eb lb ec lc ee =
    record {
      len_is = ea ∙ from-part (base + i * 16) 8 0 2 s (omega arith) (omega arith) ∙ read_in 2 (base + i * 16 + 0) s (omega arith) ∙ rw add-zero;
      own_is = eb ∙ from-part (base + i * 16) 8 2 2 s (omega arith) (omega arith) ∙ read_in 2 (base + i * 16 + 2) s (omega arith);
      below_is = ec ∙ from-part (base + i * 16) 8 4 2 s (omega arith) (omega arith) ∙ read_in 2 (base + i * 16 + 4) s (omega arith);
      spare_is = ee ∙ from-part (base + i * 16) 8 6 2 s (omega arith) (omega arith) ∙ read_in 2 (base + i * 16 + 6) s (omega arith);
      len_small = la;
      own_small = lb;
      below_small = lc;
    }

-- the level of a row of which nothing is cut off
module _ (base : ℕ) (s : List ℕ) (i n : ℕ) {h : Head} (e : HeadAt base s i h) (fits : i + (h.len + 23) / 16 + h.own + h.below ≤ n) (within : unit_at base n ≤ length s) where
  level-part : level_in base s i n ≡ part (base + i * 16 + 8) h.len s
  unfolding level_in
  level-part = let m : min (len_at base s i) ((n - i) * 16 - 8) ≡ h.len = omega (arith, e.len_is) in rw m

  pub level_of_row : take (base + i * 16 + 8 + h.len - (base + i * 16 + 8)) (drop (base + i * 16 + 8) s) ≡ level_in base s i n
  level_of_row =
      let z : base + i * 16 + 8 + h.len - (base + i * 16 + 8) ≡ h.len = omega arith in
      rw z (sym (part-eq (base + i * 16 + 8) h.len s)) ∙ sym level-part

  -- and its fill
  module _ (k : Kind) where
    pub text-plain : h.len ≤ 8 → {t : Bool} → t ≡ plain_to h.len (take (base + i * 16 + 8 + 8 - (base + i * 16 + 8)) (drop (base + i * 16 + 8) s)) → t ≡ true → true ≡ text_fine k base s i n
    unfolding text_fine fill_fine
    text-plain short et q =
        let z : base + i * 16 + 8 + 8 - (base + i * 16 + 8) ≡ 8 = omega arith in
        let f = short_fine k h.len (take 8 (drop (base + i * 16 + 8) s)) (rw z at (sym et ∙ q)) in
        let m : min h.len 8 ≡ h.len = omega arith in
        let w : (h.len + 23) / 16 * 16 - 8 - h.len ≡ 8 - h.len = omega arith in
        let l : level_in base s i n ≡ take h.len (take 8 (drop (base + i * 16 + 8) s)) =
        level-part ∙ rw (← part-eq (base + i * 16 + 8) 8 s, take_part h.len (base + i * 16 + 8) 8 s, m) in
        let d : drop h.len (take 8 (drop (base + i * 16 + 8) s)) ≡ part (base + i * 16 + 8 + h.len) (8 - h.len) s =
        rw (← part-eq (base + i * 16 + 8) 8 s) (drop-part h.len (base + i * 16 + 8) 8 s) in
        let g : every 0 (part (base + i * 16 + 8 + h.len) ((h.len + 23) / 16 * 16 - 8 - h.len) s) ≡ true = rw (w, ← d) f.1 in
        sym (rw (l, f.0, ← e.len_is, g))

    module _ {f : Bool} (ef : f ≡ every 0 (part (base + i * 16 + 8 + h.len) (base + (i + (h.len + 23) / 16) * 16 - (base + i * 16 + 8 + h.len)) s)) where
      fill_is : f ≡ fill_fine base s i
      unfolding fill_fine
      fill_is =
          let w : base + (i + (len_at base s i + 23) / 16) * 16 - (base + i * 16 + 8 + len_at base s i) ≡ (len_at base s i + 23) / 16 * 16 - 8 - len_at base s i = omega arith in
          ef ∙ rw (e.len_is, w)

      pub text_fill : not f ≡ true → false ≡ text_fine k base s i n
      unfolding text_fine
      text_fill x = rw (← fill_is, not-true f x)

      pub text_last : not f ≡ false → {l : Level} → l ≡ level_in base s i n → {g : Bool} → g ≡ level_fine k l → g ≡ text_fine k base s i n
      unfolding text_fine
      text_last x el eg = rw (← fill_is, not-false f x) (eg ∙ ap (level_fine k) el)

-- the marks
module _ (s : List ℕ) (d i end : ℕ) {m : ℕ} (em : m ≡ get_or s (64 + i) 0) where
  pub mark_wrong : (m ≡ d → ⊥) → false ≡ marks_fine s d i end
  unfolding marks_fine
  mark_wrong x = rw (ap (λ (y : ℕ). eqb y d) (sym em) ∙ ne_eqb m d x)

  pub mark_right : m ≡ d → {t : Bool} → t ≡ every 255 (part (64 + i + 1) (64 + end - (64 + i + 1)) s) → t ≡ marks_fine s d i end
  unfolding marks_fine
  mark_right x et =
      let e : 64 + end - (64 + i + 1) ≡ end - (i + 1) = omega arith in
      rw (ap (λ (y : ℕ). eqb y d) (sym em) ∙ eq-eqb m d x, ← e) et

-- what a node has
module _ (l : Level) (d : ℕ) where
  pub first_level : d ≡ 1 → not (eqb (length l) 0) ≡ may_hold d l
  first_level e = rw (eq-eqb d 1 e) (go l)
    where
      go : (l : Level) → not (eqb (length l) 0) ≡ not (blank l)
      go [] = refl
      go (x ∷ l) = ap not (ne_eqb (suc (length l)) 0 (λ z. omega (arith, z)))

  pub later_level : (d ≡ 1 → ⊥) → true ≡ may_hold d l
  later_level e = rw (ne_eqb d 1 e)

  module _ (own below : ℕ) where
    pub shape_bare : below ≡ 0 → own ≡ 0 → false ≡ shape_fine d l own below
    unfolding shape_fine
    shape_bare b o = rw (eq-eqb own 0 o, eq-eqb below 0 b)

    pub shape_leaf : below ≡ 0 → (own ≡ 0 → ⊥) → {t : Bool} → t ≡ may_hold d l → t ≡ shape_fine d l own below
    unfolding shape_fine
    shape_leaf b o et = rw (ne_eqb own 0 o, eq-eqb below 0 b) (et ∙ sym (all (may_hold d l) (is_only 35 l)))
      where
        all : (a t : Bool) → (a && (not t || true)) ≡ a
        all true true = refl
        all true false = refl
        all false t = refl

    module _ (b : below ≡ 0 → ⊥) {t : Bool} (et : t ≡ is_only 35 l) where
      pub shape-hash : t ≡ true → false ≡ shape_fine d l own below
      unfolding shape_fine
      shape-hash h = rw (sym et ∙ h, ne_eqb below 0 b) (sym (none (cond (eqb own 0) true (may_hold d l))))
        where
          none : (a : Bool) → (a && false) ≡ false
          none true = refl
          none false = refl

      pub shape_way : t ≡ false → own ≡ 0 → true ≡ shape_fine d l own below
      unfolding shape_fine
      shape_way h o = rw (sym et ∙ h, ne_eqb below 0 b, eq-eqb own 0 o)

      pub shape_both : t ≡ false → (own ≡ 0 → ⊥) → {m : Bool} → m ≡ may_hold d l → m ≡ shape_fine d l own below
      unfolding shape_fine
      shape_both h o em = rw (sym et ∙ h, ne_eqb own 0 o) (em ∙ sym (and-true (may_hold d l)))

-- what follows it
less_is : (a b : Level) → is_lt (order_of a b) ≡ level_lt a b
less_is a b = go (level_lt a b) refl
  where
    go : (t : Bool) → level_lt a b ≡ t → is_lt (order_of a b) ≡ t
    go true e = rw (eq_lower level_order a b e, e)
    go false e = rw e (same_or (same a b))
      where
        same_or : (t : Bool) → is_lt (cond t Equal Greater) ≡ false
        same_or true = refl
        same_or false = refl

module _ (base : ℕ) (s : List ℕ) (l : Level) (past n : ℕ) where
  pub follows-none : n ≤ past → true ≡ follows base s l past n
  unfolding follows
  follows-none h = rw (le-ltb past n h)

  pub follows_some : past < n → {m : Level} → m ≡ level_in base s past n → {o : Ordering} → o ≡ order_of l m → {t : Bool} → t ≡ is_lt o → t ≡ follows base s l past n
  unfolding follows
  follows_some h {m} em eo et = rw (lt-ltb past n h) (et ∙ ap is_lt eo ∙ less_is l m ∙ ap (level_lt l) em)

-- a row that is written as it is read
module _ (k : Kind) (base : ℕ) (s : List ℕ) (d i : ℕ) {h : Head} (e : HeadAt base s i h) where
  pub written_spare : (h.spare ≡ 0 → ⊥) → false ≡ written_fine k base s d i
  unfolding written_fine
  written_spare x = rw (← e.spare_is, ne_eqb h.spare 0 x)

  module _ (za : h.spare ≡ 0) {m : Bool} (em : m ≡ marks_fine s d i (i + (h.len + 23) / 16 + h.own)) where
    marks_are : m ≡ marks_fine s d i (end_at base s i)
    marks_are = em ∙ rw (e.len_is, e.own_is)

    pub written_marks : not m ≡ true → false ≡ written_fine k base s d i
    unfolding written_fine
    written_marks x = rw (← e.spare_is, eq-eqb h.spare 0 za, ← marks_are, not-true m x)

    pub written_last : not m ≡ false → {g : Bool} → g ≡ own_fine k h.own (drop (base + (i + (h.len + 23) / 16) * 16) s) → g ≡ written_fine k base s d i
    unfolding written_fine
    written_last x eg = rw (← e.spare_is, eq-eqb h.spare 0 za, ← marks_are, not-false m x) (eg ∙ rw (e.len_is, e.own_is))

-- a node that may stand where it stands
module _ (base : ℕ) (s : List ℕ) (d i n : ℕ) {h : Head} (e : HeadAt base s i h) {l : Level} (el : l ≡ level_in base s i n) {m : Bool} (em : m ≡ shape_fine d l h.own h.below) where
  shape_is : m ≡ shape_fine d (level_in base s i n) (own_at base s i) (below_at base s i)
  shape_is = em ∙ rw (el, e.own_is, e.below_is)

  pub placed_shape : not m ≡ true → false ≡ placed_fine base s d i n
  unfolding placed_fine
  placed_shape x = rw (← shape_is, not-true m x)

  pub placed_last : not m ≡ false → {o : Bool} → o ≡ follows base s l (i + (h.len + 23) / 16 + h.own + h.below) n → o ≡ placed_fine base s d i n
  unfolding placed_fine
  placed_last x eo = rw (← shape_is, not-false m x) (eo ∙ rw (el, e.len_is, e.own_is, e.below_is))

-- a row by itself
module _ (k : Kind) (base : ℕ) (s : List ℕ) (d i n : ℕ) {w : Bool} (ew : w ≡ written_fine k base s d i) where
  pub row_written : not w ≡ true → false ≡ row_fine k base s d i n
  unfolding row_fine
  row_written x = rw (sym ew ∙ not-true w x)

  module _ (hw : not w ≡ false) {v : Bool} (ev : v ≡ text_fine k base s i n) where
    pub row_text : not v ≡ true → false ≡ row_fine k base s d i n
    unfolding row_fine
    row_text x = rw (sym ew ∙ not-false w hw, sym ev ∙ not-true v x)

    pub row_last : not v ≡ false → {p : Bool} → p ≡ placed_fine base s d i n → p ≡ row_fine k base s d i n
    unfolding row_fine
    row_last x ep = rw (sym ew ∙ not-false w hw, sym ev ∙ not-false v x) ep

-- what a node takes
module _ (a : Left) (l : Level) (own : ℕ) where
  pub take_nodes : a.nodes < 1 → None ≡ taken a l own
  unfolding taken
  take_nodes h = rw (lt-leb 1 a.nodes h)

  module _ (hn : 1 ≤ a.nodes) where
    pub take_pairs : a.pairs < own → None ≡ taken a l own
    unfolding taken
    take_pairs h = rw (le-leb 1 a.nodes hn, lt-leb own a.pairs h)

    module _ (hp : own ≤ a.pairs) {c : ℕ} (ec : c ≡ level_cells l) where
      pub take_cells : a.cells < c → None ≡ taken a l own
      unfolding taken
      take_cells h = rw (le-leb 1 a.nodes hn, le-leb own a.pairs hp, lt-leb (level_cells l) a.cells (rw ec at h))

      pub take_all : c ≤ a.cells → Some (record { nodes = a.nodes - 1; pairs = a.pairs - own; cells = a.cells - c }) ≡ taken a l own
      unfolding taken
      take_all h = rw (le-leb 1 a.nodes hn, le-leb own a.pairs hp, le-leb (level_cells l) a.cells (rw ec at h), ec)
