-- A listing from few units is short: no number of it goes past 64 bits, so what `measure` answers is exact. Assumes nothing.
use mathlib.Core.Path.{◌≡◌, refl, sym, ap, ◌∙◌}
use mathlib.Core.Bool.{Bool, true, false, cond, true≢false}
use mathlib.Core.List.{List, [], ◌∷◌, ◌++◌}
use Prim.Native.Nat.{ℕ, ◌+◌, ◌-◌, ◌*◌, ◌≤◌}
use native.Mathlib.Omega.{arith}
use lib.ListN.{length, length-append}
use Rattle.level.specs.Kinds.{is_only, same}
use Rattle.level.specs.Levels.{split, join, width}
use Rattle.level.proofs.Join.{join-split}
use Rattle.topic.specs.Match.{lead_dollar}
use Rattle.held.specs.Order.{Level, Filter}
use Rattle.held.specs.Forest.{Forest, leaf, fork}
use Rattle.held.specs.Walks.{Hit, miss, hit, hash, plus, kid}
use Rattle.held.specs.Edit.{Plain}
use Rattle.held.specs.Stream.{one_of, record_at, hash_bytes, hash_count, walk_bytes, walk_count, literal_bytes, literal_count, list_bytes, list_count}
use Rattle.held.proofs.Equations.{walk_miss, walk_end, walk-on}
use Rattle.held.proofs.Orders.{level_order}
use Rattle.region.specs.Layout.{units_f}
use Rattle.forest.proofs.StandsLaws.{fork_units}
use Rattle.walk.specs.declared.Measured.{Measured}
use Rattle.walk.specs.Nodes.{values_in, Listed}
use Rattle.walk.specs.Sizes.{nothing, Sized}
use Rattle.walk.proofs.Widths.{width_next, length-join, length-join_next, length_record}
use Rattle.walk.proofs.SizeLaws.{count_miss, count_end, count-on}

-- the units of what a node holds and of all below it
abbrev units_h : Hit ℕ → ℕ
units_h miss = 0
units_h (hit v k) = length v + units_f k

-- three children with different levels have their own units
module _ (a b c : Level) (ab : a ≡ b → ⊥) (ac : a ≡ c → ⊥) (bc : b ≡ c → ⊥) where
  pub three_kids : (F : Forest ℕ) → units_h (kid a F) + units_h (kid b F) + units_h (kid c F) ≤ units_f F
  unfolding kid
  three_kids leaf = omega arith
  three_kids (fork t v k n) = go (same a t) refl (same b t) refl (same c t) refl (three_kids n)
    where
      is : (g : Level) → same g t ≡ true → g ≡ t
      is g e = level_order.eq_true g t e

      go : (x : Bool) → same a t ≡ x → (y : Bool) → same b t ≡ y → (z : Bool) → same c t ≡ z
          → units_h (kid a n) + units_h (kid b n) + units_h (kid c n) ≤ units_f n
          → units_h (cond x (hit v k) (kid a n)) + units_h (cond y (hit v k) (kid b n)) + units_h (cond z (hit v k) (kid c n)) ≤ units_f (fork t v k n)
      go true p true q z r h = absurd (ab (is a p ∙ sym (is b q)))
      go true p false q true r h = absurd (ac (is a p ∙ sym (is c r)))
      go false p true q true r h = absurd (bc (is b q ∙ sym (is c r)))
      go true p false q false r h = omega (arith, fork_units t v k n, h)
      go false p true q false r h = omega (arith, fork_units t v k n, h)
      go false p false q true r h = omega (arith, fork_units t v k n, h)
      go false p false q false r h = omega (arith, fork_units t v k n, h)

one-kid : (g : Level) (F : Forest ℕ) → units_h (kid g F) ≤ units_f F
unfolding kid
one-kid g leaf = omega arith
one-kid g (fork t v k n) = go (same g t) (one-kid g n)
  where
    go : (x : Bool) → units_h (kid g n) ≤ units_f n → units_h (cond x (hit v k) (kid g n)) ≤ units_f (fork t v k n)
    go true h = omega (arith, fork_units t v k n)
    go false h = omega (arith, fork_units t v k n, h)

-- a name's level is no '#' and no '+'
no-hash : (n : Level) → is_only 35 n ≡ false → hash ≡ n → ⊥
no-hash n e q = true≢false (rw (← q) at e)

no_plus : (n : Level) → is_only 43 n ≡ false → plus ≡ n → ⊥
no_plus n e q = true≢false (rw (← q) at e)

hash_no-plus : hash ≡ plus → ⊥
hash_no-plus q = true≢false (ap (is_only 35) q)

-- a record, where its text and its 6 bytes are at most `most` bytes
record_small : (most : ℕ) (p : Filter) (v : List ℕ) → 6 + length (join p) ≤ most → length (record_at p v) ≤ most * one_of v + 4 * length v
record_small most p [] l = omega arith
record_small most p (x ∷ v) l = omega (arith, length_record p (x ∷ v), l)

hash_small : (most : ℕ) (p : Filter) (h : Hit ℕ) → width p + 7 ≤ most → length (hash_bytes p h) ≤ most * hash_count h + 4 * units_h h
hash_small most p miss l = omega arith
hash_small most p (hit v k) l = omega (arith, record_small most (p ++ hash ∷ []) v (omega (arith, length-join_next p hash, l)))

one_few : (v : List ℕ) → one_of v ≤ length v
one_few [] = omega arith
one_few (x ∷ v) = omega arith

hash_few : (h : Hit ℕ) → hash_count h ≤ units_h h
hash_few miss = omega arith
hash_few (hit v k) = omega (arith, one_few v)

-- a walk
walk_small : (most : ℕ) (ns : Filter) → Plain ns → (p : Filter) → width p + 2 * width ns + 7 ≤ most → (h : Hit ℕ) → length (walk_bytes p ns h) ≤ most * walk_count ns h + 4 * units_h h
walk_small most [] q p l miss = rw walk_miss (omega arith)
walk_small most [] q p l (hit v k) =
    rw (walk_end, count_end, length-append)
    (omega (arith, record_small most p v (omega (arith, length-join p, l)), hash_small most p (kid hash k) (omega (arith, l)), one-kid hash k))
walk_small most (n ∷ ns) q p l miss = rw walk_miss (omega arith)
walk_small most (n ∷ ns) q p l (hit v k) =
    let t = three_kids hash plus n hash_no-plus (no-hash n q.0) (no_plus n q.1) k in
    rw (walk-on, count-on, length-append, length-append)
    (omega (
      arith,
      t,
      hash_small most p (kid hash k) (omega (arith, l)),
      walk_small most ns q.2 (p ++ plus ∷ []) (omega (arith, l, width_next p plus)) (kid plus k),
      walk_small most ns q.2 (p ++ n ∷ []) (omega (arith, l, width_next p n)) (kid n k),
    ))

walk_few : (ns : Filter) → Plain ns → (h : Hit ℕ) → walk_count ns h ≤ units_h h
walk_few [] q miss = rw count_miss (omega arith)
walk_few [] q (hit v k) = rw count_end (omega (arith, one_few v, hash_few (kid hash k), one-kid hash k))
walk_few (n ∷ ns) q miss = rw count_miss (omega arith)
walk_few (n ∷ ns) q (hit v k) =
    let t = three_kids hash plus n hash_no-plus (no-hash n q.0) (no_plus n q.1) k in
    rw count-on (omega (arith, t, hash_few (kid hash k), walk_few ns q.2 (kid plus k), walk_few ns q.2 (kid n k)))

-- a listing
pub list_small : (most : ℕ) (ls : Filter) → Plain ls → 2 * width ls + 7 ≤ most → (F : Forest ℕ) → length (list_bytes ls F) ≤ most * list_count ls F + 4 * units_f F
unfolding list_bytes literal_bytes list_count literal_count
list_small most ls q l F = go ls q l (lead_dollar ls)
  where
    go : (ls : Filter) → Plain ls → 2 * width ls + 7 ≤ most → (t : Bool)
        → length (cond t (literal_bytes ls F) (walk_bytes [] ls (hit [] F))) ≤ most * cond t (literal_count ls F) (walk_count ls (hit [] F)) + 4 * units_f F
    go [] q l true = omega arith
    go (g ∷ gs) q l true = omega (arith, walk_small most gs q.2 (g ∷ []) (omega (arith, l)) (kid g F), one-kid g F)
    go ls q l false = omega (arith, walk_small most ls q [] (omega (arith, l)) (hit [] F))

pub list_few : (ls : Filter) → Plain ls → (F : Forest ℕ) → list_count ls F ≤ units_f F
unfolding list_count literal_count
list_few ls q F = go ls q (lead_dollar ls)
  where
    go : (ls : Filter) → Plain ls → (t : Bool) → cond t (literal_count ls F) (walk_count ls (hit [] F)) ≤ units_f F
    go [] q true = omega arith
    go (g ∷ gs) q true = omega (arith, walk_few gs q.2 (kid g F), one-kid g F)
    go ls q false = omega (arith, walk_few ls q (hit [] F))

pub name-width : (name : List ℕ) → width (split name) ≤ length name + 1
name-width name =
    let w : length name ≡ width (split name) - 1 = sym (ap length (join-split name)) ∙ length-join (split name) in
    omega (arith, w)

-- so it is measured as it is
pub record Exact (bytes records : ℕ) (m : Measured) : Type 0 where
  pub bytes_are : m.bytes ≡ bytes
  pub records_are : m.records ≡ records

pub measured : (base n : ℕ) (s name : List ℕ) (m : Measured) → Listed base s n → n ≤ 65535 → length name ≤ 65535 → Plain (split name)
    → Sized nothing (length (list_bytes (split name) (values_in base s n))) (list_count (split name) (values_in base s n)) m
    → Exact (length (list_bytes (split name) (values_in base s n))) (list_count (split name) (values_in base s n)) m
measured base n s name m l few short q z =
    let F : Forest ℕ = values_in base s n in
    let a = list_small 131086 (split name) q (omega (arith, name-width name, short)) F in
    let b = list_few (split name) q F in
    record {
      bytes_are = z.bytes_are (omega (arith, a, b, l.stands.size, few)) ∙ omega arith;
      records_are = z.records_are (omega (arith, b, l.stands.size, few)) ∙ omega arith;
    }
