-- The last node of a path that is there in a store: where the code finds it, and what it reads there. Assumes nothing.
use mathlib.Core.Path.{◌≡◌, refl, sym, ap, ◌∙◌}
use mathlib.Core.Bool.{true}
use mathlib.Core.List.{List, [], ◌∷◌, ◌++◌}
use Prim.Native.Nat.{ℕ, zero, suc, ◌+◌, ◌-◌, ◌*◌, ◌≤◌}
use native.Mathlib.Omega.{arith}
use native.Mathlib.Nat.{zero-add}
use lib.ListN.{length, take, get_or, length-append, length-take}
use lib.Seq.{take_at, take-take, get_or-take}
use Rattle.lent.specs.Parts.{part}
use Rattle.held.specs.Order.{Level, Filter, level_lt}
use Rattle.held.specs.Ascending.{All}
use Rattle.held.specs.Bytes.{each}
use Rattle.held.specs.Forest.{Forest, fork, Owns}
use Rattle.held.specs.Walks.{hit, kid, values_at}
use Rattle.held.proofs.Orders.{level_order, eq_higher}
use Rattle.held.proofs.Equations.{kid_here, kid_next}
use Rattle.region.specs.Layout.{level_units, units_f}
use Rattle.region.specs.Forms.{Form}
use Rattle.forest.specs.Places.{unit_at, own_at, level_units_at, row_end, kids_end}
use Rattle.forest.specs.Stands.{Stands}
use Rattle.forest.specs.Paths.{nodes_at}
use Rattle.forest.proofs.StandsLaws.{fork_units, fits_fork, stands_len, stands_own, stands_end, stands_past}
use Rattle.seek.proofs.Holds.{stands_holds}
use Rattle.change.specs.Ways.{past, down, Way, plug, ahead, downs, deep}
use Rattle.change.specs.Reach.{Reach, ended, before, there, pass, into}
use Rattle.change.proofs.ReachLaws.{no_cons, reach_plug, reach_nodes}
use Rattle.change.proofs.FoundLaws.{stands_at}
use Rattle.change.proofs.WayLaws.{units_plug, wide_ahead}
use Rattle.seek.proofs.PathNodes.{values_end, values_hit}

-- the last node of a path, and the way to it
pub record Last {X : Type 0} (F : Forest X) (p : Filter) : Type 0 where
  pub way : Way X
  pub level : Level
  pub own : List X
  pub kids : Forest X
  pub next : Forest X
  pub is : Reach p F way (fork level own kids next) []

module _ {X : Type 0} where
  last_pass : {g t : Level} {gs : Filter} (v : List X) (k n : Forest X) → level_lt t g ≡ true → Last n (g ∷ gs) → Last (fork t v k n) (g ∷ gs)
  last_pass {t = t} v k n q r = record { way = past t v k ∷ r.way; level = r.level; own = r.own; kids = r.kids; next = r.next; is = pass q r.is }

  last_into : (g h : Level) (hs : Filter) (v : List X) (k n : Forest X) → Last k (h ∷ hs) → Last (fork g v k n) (g ∷ h ∷ hs)
  last_into g h hs v k n r = record { way = down g v n ∷ r.way; level = r.level; own = r.own; kids = r.kids; next = r.next; is = into r.is }

  pub reach_last : {p m : Filter} {F G : Forest X} {w : Way X} → Reach p F w G m → m ≡ [] → Last F p
  reach_last (ended {g = g} {gs = gs}) e = absurd (no_cons g gs (sym e))
  reach_last (before {g = g} {gs = gs} q) e = absurd (no_cons g gs (sym e))
  reach_last (there {g = g} {v = v} {k = k} {n = n}) e = record { way = []; level = g; own = v; kids = k; next = n; is = there }
  reach_last (pass {v = v} {k = k} {n = n} q r) e = last_pass v k n q (reach_last r e)
  reach_last (into {g = g} {h = h} {hs = hs} {v = v} {k = k} {n = n} r) e = last_into g h hs v k n (reach_last r e)

  values_along : (g : Level) (gs : Filter) (o q : List X) (F G : Forest X) → kid g F ≡ kid g G → values_at (g ∷ gs) (hit o F) ≡ values_at (g ∷ gs) (hit q G)
  unfolding values_at
  values_along g gs o q F G e = ap (values_at gs) e

  -- what it holds is what the path has
  pub last_values : {p m : Filter} {F G : Forest X} {w : Way X} (o : List X) → Reach p F w G m → {t : Level} {v : List X} {k n : Forest X} → G ≡ fork t v k n → m ≡ [] → values_at p (hit o F) ≡ v
  last_values o (ended {g = g} {gs = gs}) e z = absurd (no_cons g gs (sym z))
  last_values o (before {g = g} {gs = gs} q) e z = absurd (no_cons g gs (sym z))
  last_values o (there {g = g} {v = v} {k = k} {n = n}) e z =
      values_hit g [] o v (fork g v k n) k (kid_here g g v k n (level_order.eq_refl g)) ∙ values_end v k ∙ own_same e
    where
      own_same : {a b : Level} {v w : List X} {k l m n : Forest X} → fork a v k m ≡ fork b w l n → v ≡ w
      own_same e = cc
  last_values o (pass {g = g} {t = t} {gs = gs} {v = v} {k = k} {n = n} q r) e z =
      values_along g gs o o (fork t v k n) n (kid_next g t v k n (eq_higher level_order g t q)) ∙ last_values o r e z
  last_values o (into {g = g} {h = h} {hs = hs} {v = v} {k = k} {n = n} r) e z =
      values_hit g (h ∷ hs) o v (fork g v k n) k (kid_here g g v k n (level_order.eq_refl g)) ∙ last_values v r e z

-- what the node at a place holds is as what every node holds
owns_at : {X : Type 0} (P : List X → Type 0) (w : Way X) (t : Level) (v : List X) (k n : Forest X) → Owns P (plug w (fork t v k n)) → P v
unfolding plug
owns_at P [] t v k n o = o.0
owns_at P (past a b c ∷ w) t v k n o = owns_at P w t v k n o.2
owns_at P (down a b c ∷ w) t v k n o = owns_at P w t v k n o.1

-- the last of a list's first d
module _ (l xs : List ℕ) (y d : ℕ) (e : take d l ≡ xs ++ (y ∷ [])) (few : d ≤ length l) where
  long : d ≡ length xs + 1
  long = sym (rw length-take (omega arith)) ∙ ap length e ∙ rw length-append

  pub all_but_last : take (d - 1) l ≡ xs
  all_but_last =
      sym (take-take (d - 1) d l (omega arith)) ∙ ap (take (d - 1)) e ∙ take_at xs (y ∷ []) (d - 1) (omega (arith, long))

  pub last_one : get_or l (d - 1) 0 ≡ y
  last_one = sym (get_or-take d l (d - 1) 0 (omega (arith, long))) ∙ ap (λ (m : List ℕ). get_or m (d - 1) 0) e ∙ at_end xs (d - 1) (omega (arith, long))
    where
      at_end : (xs : List ℕ) (i : ℕ) → i ≡ length xs → get_or (xs ++ (y ∷ [])) i 0 ≡ y
      at_end [] zero h = refl
      at_end [] (suc i) h = absurd (omega (arith, h))
      at_end (x ∷ xs) zero h = absurd (omega (arith, h))
      at_end (x ∷ xs) (suc i) h = at_end xs i (omega (arith, h))

-- what the code reads at the last node of a path
module _ {X : Type 0} (u : Form X) (base : ℕ) (s : List ℕ) (n : ℕ) (F : Forest X) (st : Stands u.write u.Small base s 1 0 n F) (p : Filter) (r : Last F p) where
  abbrev node : Forest X
  node = fork r.level r.own r.kids r.next

  placed : plug r.way node ≡ F
  placed = reach_plug r.is

  here : Stands u.write u.Small base s (deep 1 r.way) (ahead r.way) (ahead r.way + units_f node) node
  here = rw zero-add at (stands_at u base s 1 0 n r.way node (rw placed st))

  inside : ahead r.way + units_f node ≤ n
  inside = omega (arith, st.size, ap units_f (sym placed), units_plug r.way node, wide_ahead r.way (units_f node))

  pub last-own : values_at p (hit [] F) ≡ r.own
  last-own = last_values [] r.is refl refl

  pub last_nodes : nodes_at p 0 F ≡ downs 0 r.way ++ (ahead r.way ∷ [])
  last_nodes = reach_nodes 0 st.rows r.is ∙ rw zero-add

  pub last_units : level_units_at base s (ahead r.way) ≡ level_units r.level
  last_units = rw (stands_len u base s (deep 1 r.way) (ahead r.way) (ahead r.way + units_f node) r.level r.own r.kids r.next here)

  pub last_end : row_end base s (ahead r.way) n ≡ ahead r.way + level_units r.level + length r.own
  last_end =
      stands_end u base s (deep 1 r.way) (ahead r.way) (ahead r.way + units_f node) r.level r.own r.kids r.next here n
      (omega (arith, inside, fork_units r.level r.own r.kids r.next)) ∙ omega arith

  pub last_past : kids_end base s (ahead r.way) n ≡ ahead r.way + level_units r.level + length r.own + units_f r.kids
  last_past =
      stands_past u base s (deep 1 r.way) (ahead r.way) (ahead r.way + units_f node) r.level r.own r.kids r.next here n
      (omega (arith, inside, fork_units r.level r.own r.kids r.next)) ∙ omega arith

  pub last_count : own_at base s (ahead r.way) ≡ length r.own
  last_count = stands_own u base s (deep 1 r.way) (ahead r.way) (ahead r.way + units_f node) r.level r.own r.kids r.next here

  pub last_inside : ahead r.way + level_units r.level + length r.own ≤ n
  last_inside = omega (arith, inside, fork_units r.level r.own r.kids r.next)

  -- what it holds is as what every node holds
  pub last_owns : (P : List X → Type 0) → Owns P F → P r.own
  last_owns P o = owns_at P r.way r.level r.own r.kids r.next (rw placed o)

  -- and it stands behind its level
  pub last_holds : part (unit_at base (ahead r.way + level_units r.level)) (length r.own * 16) s ≡ each u.write r.own
  last_holds = stands_holds u base s (deep 1 r.way) (ahead r.way) (ahead r.way + units_f node) r.level r.own r.kids r.next here

  pub last_small : All u.Small r.own
  last_small = (fits_fork r.level r.own r.kids r.next here.fits).small
