-- The pass over the rows finds them sound exactly when the forest in them is written down there and fine, and takes its
-- counts from what was left. Assumes nothing.
use Rattle.std.specs.Prelude.{None, Option, Some}
use mathlib.Core.Path.{◌≡◌, refl, sym, ap, subst, ◌∙◌}
use Prim.Native.Nat.{ℕ, zero, suc, ◌+◌, ◌-◌, ◌≤◌, ◌<◌}
use mathlib.Core.Bool.{Bool, true, false, cond}
use mathlib.Core.Logic.{⊎_elim}
use mathlib.Core.List.{List}
use native.Mathlib.Omega.{arith}
use lib.ListN.{length}
use Rattle.lent.specs.Parts.{part}
use Rattle.lent.proofs.Anywhere.{lt-or_ge}
use Rattle.held.specs.Order.{Level}
use Rattle.held.specs.Room.{level_cells}
use Rattle.held.specs.Forest.{Forest, leaf, fork, held}
use Rattle.held.specs.Edit.{weigh_f, size_f, cells_f}
use Rattle.region.specs.Layout.{row_units, units_f, unit_bytes, marks_of}
use Rattle.region.specs.declared.Kind.{Kind}
use Rattle.forest.specs.Places.{unit_at, forest_in, len_at, own_at, below_at, row_end, kids_end, level_in, own_in}
use Rattle.forest.proofs.FirstRow.{forest-none, forest_some}
use Rattle.audit.specs.declared.Left.{Left}
use Rattle.audit.specs.Tests.{end_at, past_at, node_fine}
use Rattle.audit.specs.Tally.{on_sound, taken, tally}
use Rattle.audit.specs.Fine.{Follows, Audited}
use Rattle.lent.specs.Numbers.{AreBytes}
use Rattle.content.proofs.Holdings.{Holding}
use Rattle.audit.proofs.Down.{WrittenAt, RowHere, fork_yes, fork_no}
use Rattle.audit.proofs.Turns.{tally-none, tally_some, Took, took, takes, sound_is, unsound-not}
use Rattle.audit.proofs.RowTests.{Tested, tested, passed}
use Rattle.audit.proofs.RowBytes.{own-length, level-length, end_is, past_is, row_here, below_back, spare_back, past_back, fill_back, holds_back, marks_back}
use Rattle.audit.proofs.Shapes.{shape_yes, shape_no, order_yes, order_no}
use Rattle.held.proofs.Lengths.{length-held}

-- the counts of a forest by its first node
module _ {X : Type 0} where
  units_fork : (l : Level) (v : List X) (k n : Forest X) → units_f (fork l v k n) ≡ row_units l v + (units_f k + units_f n)
  unfolding units_f
  units_fork l v k n = refl

  size_fork : (l : Level) (v : List X) (k n : Forest X) → size_f (fork l v k n) ≡ 1 + (size_f k + size_f n)
  unfolding weigh_f
  size_fork l v k n = refl

  cells_fork : (l : Level) (v : List X) (k n : Forest X) → cells_f (fork l v k n) ≡ level_cells l + (cells_f k + cells_f n)
  unfolding weigh_f
  cells_fork l v k n = refl

-- what is left, count by count
pub same_left : (a b : Left) → a.nodes ≡ b.nodes → a.pairs ≡ b.pairs → a.cells ≡ b.cells → a ≡ b
same_left a b p q r =
    ap {B = Left} (λ (x : ℕ). record { nodes = x; pairs = a.pairs; cells = a.cells }) p
    ∙ ap {B = Left} (λ (x : ℕ). record { nodes = b.nodes; pairs = x; cells = a.cells }) q
    ∙ ap {B = Left} (λ (x : ℕ). record { nodes = b.nodes; pairs = b.pairs; cells = x }) r

module _ {X : Type 0} {kind : Kind} (u : Holding X kind) (base : ℕ) (s : List ℕ) (o : AreBytes s) where
  abbrev It : (d room i n : ℕ) → Left → Left → Forest X → Type 0
  It d room i n a b F = Audited kind u.Fit u.form.write base s d room i n a b F

  abbrev In : (i n : ℕ) → Forest X
  In i n = forest_in u.form.read base s i n

  -- no row
  leaf_yes : (d room i n : ℕ) (a : Left) → i ≡ n → It d room i n a a leaf
  unfolding units_f unit_bytes marks_of part weigh_f held
  leaf_yes d room i n a e = record { size = omega arith; units = refl; marks = refl; fine = tt; nodes = omega arith; pairs = omega arith; cells = omega arith }

  leaf_is : {d room i n : ℕ} {a b : Left} → It d room i n a b leaf → a ≡ b
  unfolding weigh_f held
  leaf_is {a = a} {b} x =
      let e0 : a.nodes ≡ b.nodes = omega (arith, x.nodes) in
      let e1 : a.pairs ≡ b.pairs = omega (arith, x.pairs) in
      let e2 : a.cells ≡ b.cells = omega (arith, x.cells) in
      same_left a b e0 e1 e2

  -- a row, and what is below and behind it
  module _ (d room i n : ℕ) (some : i < n) (within : unit_at base n ≤ length s) (marked : 64 + n ≤ base) where
    abbrev L : Level
    L = level_in base s i n

    abbrev W : List X
    W = own_in u.form.read base s i n

    abbrev K : Forest X
    K = In (row_end base s i n) (kids_end base s i n)

    abbrev N : Forest X
    N = In (kids_end base s i n) n

    fork_sound : {a b c e : Left} → Tested kind base s d room i n → Took a b L (own_at base s i)
        → It (d + 1) (room - (len_at base s i + 1)) (row_end base s i n) (kids_end base s i n) b c K → It d room (kids_end base s i n) n c e N → It d room i n a e (fork L W K N)
    fork_sound {a} {b} {c} {e} t k x y =
        let fits : past_at base s i ≤ n = t.past in
        let le : length L ≡ len_at base s i = level-length u base s o i n some within marked fits in
        let lo : length W ≡ own_at base s i = own-length u base s o i n some within marked in
        let ee : row_end base s i n ≡ end_at base s i = end_is u base s o i n some within marked fits in
        let ep : kids_end base s i n ≡ past_at base s i = past_is u base s o i n some within marked fits in
        let eb : below_at base s i ≡ units_f K = omega (arith, ee, ep, x.size) in
        let er : row_end base s i n ≡ i + row_units L W = rw (le, lo) (omega (arith, ee)) in
        let r = row_here u base s o i n some within marked fits d t.spare t.marks t.fill t.holds in
        let h : RowHere u.form base s d i L W (units_f K) = subst (λ (z : ℕ). RowHere u.form base s d i L W z) eb r.0 in
        let w = fork_yes u.form base s d i L W K N {e = row_end base s i n} {p = kids_end base s i n} er x.size h (record { units = x.units; marks = x.marks }) (record { units = y.units; marks = y.marks }) in
        let g = shape_yes d L W K (sym lo) eb t.shape in
        let f : Follows L N = subst (λ (z : ℕ). Follows L (In z n)) (sym ep) (order_yes u.form.read base s i n within t.order) in
        record {
          size = omega (arith, units_fork L W K N, er, x.size, y.size);
          units = w.units;
          marks = w.marks;
          fine = (
            record { depth = t.depth; level = t.level; wide = rw le t.wide; owns = r.1; full = g.0; ends = g.1; begins = g.2; next = f },
            rw le x.fine,
            y.fine,
          );
          nodes = omega (arith, size_fork L W K N, k.nodes, x.nodes, y.nodes);
          pairs = omega (arith, length-held L W K N, lo, k.pairs, x.pairs, y.pairs);
          cells = omega (arith, cells_fork L W K N, k.cells, x.cells, y.cells);
        }

    -- and the other way round: what is left after the node, and after all below it
    after_node : Left → Left
    after_node a = record { nodes = a.nodes - 1; pairs = a.pairs - length W; cells = a.cells - level_cells L }

    after_kids : Left → Left
    after_kids a = record { nodes = a.nodes - 1 - size_f K; pairs = a.pairs - length W - length (held K); cells = a.cells - level_cells L - cells_f K }

    module _ {a e : Left} (x : It d room i n a e (fork L W K N)) (short : n < 65536) where
      parts : RowHere u.form base s d i L W (units_f K) × WrittenAt u.form base s (d + 1) (i + row_units L W) K × WrittenAt u.form base s d (i + row_units L W + units_f K) N
      parts = fork_no u.form base s d i L W K N {e = i + row_units L W} {p = i + row_units L W + units_f K} refl refl (record { units = x.units; marks = x.marks })

      few : units_f K < 65536
      few = omega (arith, x.size, units_fork L W K N)

      past-eq : i + row_units L W + units_f K ≡ past_at base s i
      past-eq = past_back u base s o i n some within marked d (units_f K) few parts.0

      fits : past_at base s i ≤ n
      fits = omega (arith, past-eq, x.size, units_fork L W K N)

      below_eq : below_at base s i ≡ units_f K
      below_eq = below_back u base s o i n some within marked d (units_f K) few parts.0

      ends_at : row_end base s i n ≡ i + row_units L W
      ends_at = omega (arith, end_is u base s o i n some within marked fits, past-eq, below_eq)

      past-at : kids_end base s i n ≡ i + row_units L W + units_f K
      past-at = past_is u base s o i n some within marked fits ∙ sym past-eq

      level-eq : length L ≡ len_at base s i
      level-eq = level-length u base s o i n some within marked fits

      own_eq : length W ≡ own_at base s i
      own_eq = own-length u base s o i n some within marked

      back_tested : Tested kind base s d room i n
      back_tested =
          let f = x.fine.0 in
          record {
            past = fits;
            depth = f.depth;
            wide = rw level-eq at f.wide;
            spare = spare_back u base s o i n some within marked d (units_f K) few parts.0;
            marks = marks_back u base s o i n some within marked d (units_f K) few parts.0 fits;
            fill = fill_back u base s o i n some within marked d (units_f K) few parts.0 fits;
            level = f.level;
            holds = holds_back u base s o i n some within marked d (units_f K) few parts.0 fits f.owns;
            shape = shape_no d L W K (sym own_eq) below_eq f.full f.ends f.begins;
            order = order_no u.form.read base s i n within (subst (λ (z : ℕ). Follows L (In z n)) (past_is u base s o i n some within marked fits) f.next);
          }

      back_took : Took a (after_node a) L (own_at base s i)
      unfolding after_node
      back_took =
          record {
            nodes = omega (arith, x.nodes, size_fork L W K N);
            pairs = omega (arith, x.pairs, length-held L W K N, own_eq);
            cells = omega (arith, x.cells, cells_fork L W K N);
          }

      back_kids : It (d + 1) (room - (len_at base s i + 1)) (row_end base s i n) (kids_end base s i n) (after_node a) (after_kids a) K
      unfolding after_node after_kids
      back_kids =
          record {
            size = omega (arith, ends_at, past-at);
            units = rw (← ends_at) at parts.1.units;
            marks = rw (← ends_at) at parts.1.marks;
            fine = rw level-eq at x.fine.1;
            nodes = omega (arith, x.nodes, size_fork L W K N);
            pairs = omega (arith, x.pairs, length-held L W K N);
            cells = omega (arith, x.cells, cells_fork L W K N);
          }

      back_next : It d room (kids_end base s i n) n (after_kids a) e N
      unfolding after_kids
      back_next =
          record {
            size = omega (arith, past-at, x.size, units_fork L W K N);
            units = rw (← past-at) at parts.2.units;
            marks = rw (← past-at) at parts.2.marks;
            fine = x.fine.2;
            nodes = omega (arith, x.nodes, size_fork L W K N);
            pairs = omega (arith, x.pairs, length-held L W K N);
            cells = omega (arith, x.cells, cells_fork L W K N);
          }

  -- the theorem one way, by the number of units
  abbrev Finds : ℕ → Type 0
  Finds m = (d room i n : ℕ) (a b : Left) → n - i ≤ m → i ≤ n → unit_at base n ≤ length s → 64 + n ≤ base → tally kind base s d room i n a ≡ Some b → It d room i n a b (In i n)

  module _ (d room i n : ℕ) where
    abbrev below : Left → Option Left
    below b = tally kind base s (d + 1) (room - (len_at base s i + 1)) (row_end base s i n) (kids_end base s i n) b

    abbrev behind : Left → Option Left
    behind c = tally kind base s d room (kids_end base s i n) n c

  row_found : (m d room i n : ℕ) (a b : Left) → Finds m → n - i ≤ suc m → i < n → unit_at base n ≤ length s → 64 + n ≤ base → tally kind base s d room i n a ≡ Some b → It d room i n a b (In i n)
  row_found m d room i n a b ih f h within marked e =
      rw (forest_some u.form.read base s i n h within) (node (node_fine kind base s d room i n) refl (sym (tally_some kind base s d room i n a h within) ∙ e))
    where
      kids : (c : Left) → Tested kind base s d room i n → Took a c (level_in base s i n) (own_at base s i) → (y : Option Left) → below d room i n c ≡ y → on_sound y (behind d room i n) ≡ Some b
          → It d room i n a b (fork (L d room i n h within marked) (W d room i n h within marked) (K d room i n h within marked) (N d room i n h within marked))
      kids c t k None q e = absurd (unsound-not b e)
      kids c t k (Some g) q e =
          let fits : past_at base s i ≤ n = t.past in
          let ee : row_end base s i n ≡ end_at base s i = end_is u base s o i n h within marked fits in
          let ep : kids_end base s i n ≡ past_at base s i = past_is u base s o i n h within marked fits in
          fork_sound d room i n h within marked t k
          (ih (d + 1) (room - (len_at base s i + 1)) (row_end base s i n) (kids_end base s i n) c g (omega (arith, ee, ep)) (omega (arith, ee, ep)) (omega (arith, ep)) (omega (arith, ep)) q)
          (ih d room (kids_end base s i n) n g b (omega (arith, ep)) (omega (arith, ep)) within marked e)

      took-all : Tested kind base s d room i n → (x : Option Left) → taken a (level_in base s i n) (own_at base s i) ≡ x → on_sound x (λ c. on_sound (below d room i n c) (behind d room i n)) ≡ Some b
          → It d room i n a b (fork (L d room i n h within marked) (W d room i n h within marked) (K d room i n h within marked) (N d room i n h within marked))
      took-all t None q e = absurd (unsound-not b e)
      took-all t (Some c) q e = kids c t (took a c (level_in base s i n) (own_at base s i) q) (below d room i n c) refl e

      node : (t : Bool) → node_fine kind base s d room i n ≡ t
          → cond t (on_sound (taken a (level_in base s i n) (own_at base s i)) (λ c. on_sound (below d room i n c) (behind d room i n))) None ≡ Some b
          → It d room i n a b (fork (L d room i n h within marked) (W d room i n h within marked) (K d room i n h within marked) (N d room i n h within marked))
      node true q e = took-all (tested kind base s d room i n q) (taken a (level_in base s i n) (own_at base s i)) refl e
      node false q e = absurd (unsound-not b e)

  none_found : (d room i n : ℕ) (a b : Left) → n ≤ i → i ≤ n → tally kind base s d room i n a ≡ Some b → It d room i n a b (In i n)
  none_found d room i n a b h up e =
      let q : a ≡ b = sound_is a b (sym (tally-none kind base s d room i n a h) ∙ e) in
      subst (λ (F : Forest X). It d room i n a b F) (sym (forest-none u.form.read base s i n h))
      (subst (λ (c : Left). It d room i n a c leaf) q (leaf_yes d room i n a (omega arith)))

  pub audit_sound : (m : ℕ) → Finds m
  audit_sound zero d room i n a b fuel up within marked e = none_found d room i n a b (omega arith) up e
  audit_sound (suc m) d room i n a b fuel up within marked e =
      ⊎_elim
      (λ (h : i < n). row_found m d room i n a b (audit_sound m) fuel h within marked e)
      (λ (h : n ≤ i). none_found d room i n a b h up e)
      (lt-or_ge i n)

  -- and the other way
  abbrev Passes : ℕ → Type 0
  Passes m = (d room i n : ℕ) (a b : Left) → n - i ≤ m → i ≤ n → unit_at base n ≤ length s → 64 + n ≤ base → n < 65536 → It d room i n a b (In i n) → tally kind base s d room i n a ≡ Some b

  row_passes : (m d room i n : ℕ) (a b : Left) → Passes m → n - i ≤ suc m → i < n → unit_at base n ≤ length s → 64 + n ≤ base → n < 65536 → It d room i n a b (In i n) → tally kind base s d room i n a ≡ Some b
  row_passes m d room i n a b ih f h within marked short x =
      let y = subst (λ (F : Forest X). It d room i n a b F) (forest_some u.form.read base s i n h within) x in
      let t = back_tested d room i n h within marked y short in
      let fits : past_at base s i ≤ n = t.past in
      let ee : row_end base s i n ≡ end_at base s i = end_is u base s o i n h within marked fits in
      let ep : kids_end base s i n ≡ past_at base s i = past_is u base s o i n h within marked fits in
      let c : Left = after_node d room i n h within marked a in
      let g : Left = after_kids d room i n h within marked a in
      tally_some kind base s d room i n a h within
      ∙ rw (
        passed kind base s d room i n t,
        takes a c (level_in base s i n) (own_at base s i) (back_took d room i n h within marked y short),
        ih (d + 1) (room - (len_at base s i + 1)) (row_end base s i n) (kids_end base s i n) c g (omega (arith, ee, ep)) (omega (arith, ee, ep)) (omega (arith, ep)) (omega (arith, ep)) (omega (arith, ep))
            (back_kids d room i n h within marked y short),
      )
      (ih d room (kids_end base s i n) n g b (omega (arith, ep)) (omega (arith, ep)) within marked short (back_next d room i n h within marked y short))

  none_passes : (d room i n : ℕ) (a b : Left) → n ≤ i → It d room i n a b (In i n) → tally kind base s d room i n a ≡ Some b
  none_passes d room i n a b h x =
      let y = subst (λ (F : Forest X). It d room i n a b F) (forest-none u.form.read base s i n h) x in
      tally-none kind base s d room i n a h ∙ ap (λ (z : Left). Some z) (leaf_is y)

  pub audit_passes : (m : ℕ) → Passes m
  audit_passes zero d room i n a b fuel up within marked short x = none_passes d room i n a b (omega arith) x
  audit_passes (suc m) d room i n a b fuel up within marked short x =
      ⊎_elim
      (λ (h : i < n). row_passes m d room i n a b (audit_passes m) fuel h within marked short x)
      (λ (h : n ≤ i). none_passes d room i n a b h x)
      (lt-or_ge i n)
