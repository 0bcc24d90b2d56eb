-- Where the code finds the nodes of a path: what stands at a place, and which nodes stay when the last thing goes. Assumes nothing.
use mathlib.Core.Path.{◌≡◌, refl, sym, ap, ◌∙◌}
use mathlib.Core.Bool.{Bool, true, false, ◌&&◌, true≢false}
use mathlib.Core.List.{List, [], ◌∷◌}
use Prim.Native.Nat.{ℕ, zero, suc, ◌+◌, ◌≤◌, ◌<◌}
use native.Mathlib.Omega.{arith}
use native.Mathlib.Nat.{add-zero}
use lib.Dec.{eqb}
use lib.ListN.{length, take, drop, get_or}
use borrow.Author.Tests.{eq-eqb, eqb-true}
use Rattle.held.specs.Order.{Level, Filter, level_lt}
use Rattle.held.specs.Forest.{Forest, leaf, fork, Rows}
use Rattle.held.proofs.Orders.{and_left, and_right}
use Rattle.region.specs.Layout.{row_units, units_f}
use Rattle.region.specs.Forms.{Form}
use Rattle.forest.specs.Places.{own_at, row_end, kids_end}
use Rattle.forest.specs.Stands.{Stands}
use Rattle.forest.specs.Paths.{nodes_at}
use Rattle.forest.proofs.StandsLaws.{fork_units, stands_own, stands_end, stands_past, stands_kids, stands_next}
use Rattle.change.specs.Ways.{Frame, past, down, Way, plug, wide, ahead, downs, deep}
use Rattle.change.specs.Reach.{Reach, ended, before, there, pass as reach_pass, into as reach_into}
use Rattle.room.specs.Stay.{lone_at, above, staying}
use Rattle.change.specs.Cut.{Alone, last, only, CutAt, here, pass, into}
use Rattle.change.proofs.ReachLaws.{reach_nodes, no_fork, no_cons}
use Rattle.change.proofs.CutLaws.{cut_plug}
use Rattle.change.proofs.WayLaws.{units_plug, wide_ahead}

-- what stands at a place
module _ {X : Type 0} (u : Form X) (base : ℕ) (s : List ℕ) where
  pub stands_at : (d lo hi : ℕ) (w : Way X) (G : Forest X) → Stands u.write u.Small base s d lo hi (plug w G)
      → Stands u.write u.Small base s (deep d w) (lo + ahead w) (lo + ahead w + units_f G) G
  unfolding plug deep ahead
  stands_at d lo hi [] G h = rw (add-zero, ← h.size) h
  stands_at d lo hi (past t v k ∷ w) G h =
      let z : lo + (row_units t v + units_f k + ahead w) ≡ lo + row_units t v + units_f k + ahead w = omega arith in
      rw z (stands_at d (lo + row_units t v + units_f k) hi w G (stands_next u base s d lo hi t v k (plug w G) h))
  stands_at d lo hi (down t v n ∷ w) G h =
      let z : lo + (row_units t v + ahead w) ≡ lo + row_units t v + ahead w = omega arith in
      rw z (stands_at (d + 1) (lo + row_units t v) (lo + row_units t v + units_f (plug w G)) w G (stands_kids u base s d lo hi t v (plug w G) n h))

-- a way that passes and goes down from nothing, and what is plugged in there
module _ {X : Type 0} where
  no_frame : {f : Frame X} {w : Way X} → f ∷ w ≡ [] → ⊥
  no_frame e = let z : true ≡ false = cc in true≢false z

  wide-none : (w : Way X) → w ≡ [] → (c : ℕ) → wide w c ≡ c
  unfolding wide
  wide-none [] z c = refl
  wide-none (f ∷ w) z c = absurd (no_frame z)

  ahead_none : (w : Way X) → w ≡ [] → ahead w ≡ 0
  unfolding ahead
  ahead_none [] z = refl
  ahead_none (f ∷ w) z = absurd (no_frame z)

  downs-none : (w : Way X) → w ≡ [] → (at : ℕ) → length (downs at w) ≡ 0
  unfolding downs
  downs-none [] z at = refl
  downs-none (f ∷ w) z at = absurd (no_frame z)

  pub leaf_units : (F : Forest X) → F ≡ leaf → units_f F ≡ 0
  unfolding units_f
  leaf_units leaf z = refl
  leaf_units (fork t v k n) z = absurd (no_fork t v k n z)

  pub no_own : (v : List X) → length v ≡ 0 → v ≡ []
  no_own [] z = refl
  no_own (x ∷ v) z = absurd (omega (arith, z))

  none_ahead : (w : Way X) → ahead w ≡ 0 → w ≡ []
  unfolding ahead
  none_ahead [] e = refl
  none_ahead (past t v k ∷ w) e = absurd (omega (arith, e))
  none_ahead (down t v n ∷ w) e = absurd (omega (arith, e))

  pub none_units : (F : Forest X) → units_f F ≡ 0 → F ≡ leaf
  none_units leaf e = refl
  none_units (fork t v k n) e = absurd (omega (arith, e, fork_units t v k n))

  plug_leaf : (w : Way X) (G : Forest X) → plug w G ≡ leaf → (w ≡ []) × (G ≡ leaf)
  unfolding plug
  plug_leaf [] G e = (refl, e)
  plug_leaf (past t v k ∷ w) G e = absurd (no_fork t v k (plug w G) e)
  plug_leaf (down t v n ∷ w) G e = absurd (no_fork t v (plug w G) n e)

-- the first node that goes, and where it stands
pub record Cuts {X : Type 0} (e : List X → List X) (p : Filter) (F : Forest X) (lo : ℕ) (nodes : List ℕ) (stay : ℕ) : Type 0 where
  pub way : Way X
  pub level : Level
  pub own : List X
  pub kids : Forest X
  pub next : Forest X
  pub rest : Filter
  pub is : CutAt e p F way level own kids next rest
  pub ups : downs lo way ≡ take stay nodes
  pub at : get_or nodes stay 0 ≡ lo + ahead way
  pub levels : rest ≡ drop stay p
  pub on : stay < length nodes

module _ {X : Type 0} (u : Form X) (base : ℕ) (s : List ℕ) (m : ℕ) (e : List X → List X) where
  -- a row whose first node holds one thing that goes, and has no child
  pub data Goes : Level → Forest X → Type 0 where
    goes : {g : Level} {y : X} {n : Forest X} → e (y ∷ []) ≡ [] → Goes g (fork g (y ∷ []) leaf n)

  abbrev pub GoesHere : Forest X → Type 0
  GoesHere leaf = ⊥
  GoesHere (fork g v k n) = Goes g (fork g v k n)

  -- one further down
  deeper : (lo : ℕ) (g h : Level) (hs : Filter) (b : List X) (c n : Forest X) (ks : List ℕ) (j : ℕ) (r : Cuts e (h ∷ hs) c (lo + row_units g b) ks j)
      → (b ≡ [] → plug r.way r.next ≡ leaf → ⊥) → Cuts e (g ∷ h ∷ hs) (fork g b c n) lo (lo ∷ ks) (suc j)
  unfolding downs ahead
  deeper lo g h hs b c n ks j r stays =
      record {
        way = down g b n ∷ r.way;
        level = r.level;
        own = r.own;
        kids = r.kids;
        next = r.next;
        rest = r.rest;
        is = into stays r.is;
        ups = ap (λ (l : List ℕ). lo ∷ l) r.ups;
        at = r.at ∙ omega arith;
        levels = r.levels;
        on = omega (arith, r.on);
      }

  -- the first node of a row that goes with its whole path
  top : {h : Level} {hs q : Filter} {F : Forest X} {w : Way X} {t : Level} {v : List X} {k n : Forest X} → CutAt e (h ∷ hs) F w t v k n q → w ≡ []
      → Alone e (h ∷ hs) h v k × (F ≡ fork h v k n)
  top (here a) z = (a, refl)
  top (pass y r) z = absurd (no_frame z)
  top (into y r) z = absurd (no_frame z)

  -- a node that goes with its only child
  upper : (lo : ℕ) (g h : Level) (hs : Filter) (v : List X) (k n : Forest X) (ks : List ℕ) → Alone e (h ∷ hs) h v k
      → Cuts e (g ∷ h ∷ hs) (fork g [] (fork h v k leaf) n) lo (lo ∷ ks) 0
  unfolding downs ahead
  upper lo g h hs v k n ks a =
      record {
        way = [];
        level = g;
        own = [];
        kids = fork h v k leaf;
        next = n;
        rest = g ∷ h ∷ hs;
        is = here (only a);
        ups = refl;
        at = sym (add-zero lo);
        levels = refl;
        on = omega arith;
      }

  module _ (d lo hi : ℕ) (g h : Level) (hs : Filter) (b : List X) (c n : Forest X) (w : Stands u.write u.Small base s d lo hi (fork g b c n)) (under : hi ≤ m) (is : List ℕ) where
    -- what the rows of a node and of its child on the path say
    module _ (k : ℕ) (r : Cuts e (h ∷ hs) c (lo + row_units g b) (k ∷ is) 0) where
      abbrev first : Forest X
      first = fork r.level r.own r.kids r.next

      child : Stands u.write u.Small base s (deep (d + 1) r.way) (lo + row_units g b + ahead r.way) (lo + row_units g b + ahead r.way + units_f first) first
      child =
          stands_at u base s (d + 1) (lo + row_units g b) (lo + row_units g b + units_f c) r.way first
          (rw (cut_plug e r.is) (stands_kids u base s d lo hi g b c n w))

      total : units_f c ≡ wide r.way (units_f first)
      total = ap units_f (sym (cut_plug e r.is)) ∙ units_plug r.way first

      fits : lo + row_units g b + units_f c ≤ m
      fits = omega (arith, w.size, under, fork_units g b c n)

      own_is : own_at base s lo ≡ length b
      own_is = stands_own u base s d lo hi g b c n w

      end_is : row_end base s lo m ≡ lo + row_units g b
      end_is = stands_end u base s d lo hi g b c n w m (omega (arith, fits))

      past_is : kids_end base s lo m ≡ lo + row_units g b + units_f c
      past_is = stands_past u base s d lo hi g b c n w m fits

      child_past : kids_end base s (lo + row_units g b + ahead r.way) m ≡ lo + row_units g b + ahead r.way + row_units r.level r.own + units_f r.kids
      child_past =
          stands_past u base s (deep (d + 1) r.way) (lo + row_units g b + ahead r.way) (lo + row_units g b + ahead r.way + units_f first) r.level r.own r.kids r.next child m
          (omega (arith, fits, total, wide_ahead r.way (units_f first), fork_units r.level r.own r.kids r.next))

      -- all go
      lone_up : lone_at base s m lo k ≡ true → Cuts e (g ∷ h ∷ hs) (fork g b c n) lo (lo ∷ k ∷ is) 0
      lone_up z =
          let x = and_left (eqb (own_at base s lo) 0) (eqb (row_end base s lo m) k && eqb (kids_end base s lo m) (kids_end base s k m)) z in
          let y = and_right (eqb (own_at base s lo) 0) (eqb (row_end base s lo m) k && eqb (kids_end base s lo m) (kids_end base s k m)) z in
          let o : own_at base s lo ≡ 0 = eqb-true (own_at base s lo) 0 x in
          let f : row_end base s lo m ≡ k = eqb-true (row_end base s lo m) k (and_left (eqb (row_end base s lo m) k) (eqb (kids_end base s lo m) (kids_end base s k m)) y) in
          let q : kids_end base s lo m ≡ kids_end base s k m = eqb-true (kids_end base s lo m) (kids_end base s k m) (and_right (eqb (row_end base s lo m) k) (eqb (kids_end base s lo m) (kids_end base s k m)) y) in
          let i : ahead r.way ≡ 0 = omega (arith, f, end_is, r.at) in
          let wn : r.way ≡ [] = none_ahead r.way i in
          let a = top r.is wn in
          let cp : kids_end base s k m ≡ lo + row_units g b + ahead r.way + row_units r.level r.own + units_f r.kids = ap (λ (j : ℕ). kids_end base s j m) r.at ∙ child_past in
          let wt : units_f c ≡ units_f first = total ∙ wide-none r.way wn (units_f first) in
          let nn : r.next ≡ leaf = none_units r.next (omega (arith, q, past_is, cp, i, wt, fork_units r.level r.own r.kids r.next)) in
          let bn : b ≡ [] = no_own b (omega (arith, o, own_is)) in
          let ce : c ≡ fork h r.own r.kids leaf = a.1 ∙ ap (fork h r.own r.kids) nn in
          rw (bn, ce) (upper lo g h hs r.own r.kids n (k ∷ is) a.0)

      -- the child goes, and the node stays
      lone-not : lone_at base s m lo k ≡ false → b ≡ [] → plug r.way r.next ≡ leaf → ⊥
      lone-not z bn pl =
          let wn = plug_leaf r.way r.next pl in
          let i : ahead r.way ≡ 0 = ahead_none r.way wn.0 in
          let x : eqb (own_at base s lo) 0 ≡ true = eq-eqb (own_at base s lo) 0 (own_is ∙ ap length bn) in
          let y : eqb (row_end base s lo m) k ≡ true = eq-eqb (row_end base s lo m) k (omega (arith, end_is, r.at, i)) in
          let cp : kids_end base s k m ≡ lo + row_units g b + ahead r.way + row_units r.level r.own + units_f r.kids = ap (λ (j : ℕ). kids_end base s j m) r.at ∙ child_past in
          let wt : units_f c ≡ units_f first = total ∙ wide-none r.way wn.0 (units_f first) in
          let nu : units_f r.next ≡ 0 = leaf_units r.next wn.1 in
          let q : eqb (kids_end base s lo m) (kids_end base s k m) ≡ true =
          eq-eqb (kids_end base s lo m) (kids_end base s k m) (omega (arith, past_is, cp, i, wt, nu, fork_units r.level r.own r.kids r.next)) in
          true≢false (sym (rw (x, y, q)) ∙ z)

    step : (k j : ℕ) (r : Cuts e (h ∷ hs) c (lo + row_units g b) (k ∷ is) j) (t : Bool) → lone_at base s m lo k ≡ t → Cuts e (g ∷ h ∷ hs) (fork g b c n) lo (lo ∷ k ∷ is) (above t j)
    step k zero r true z = lone_up k r z
    step k zero r false z = deeper lo g h hs b c n (k ∷ is) 0 r (lone-not k r z)
    step k (suc j) r t z = deeper lo g h hs b c n (k ∷ is) (suc j) r (λ (bn : b ≡ []) (pl : plug r.way r.next ≡ leaf). no_downs k j r (plug_leaf r.way r.next pl).0)
      where
        no_downs : (k j : ℕ) (r : Cuts e (h ∷ hs) c (lo + row_units g b) (k ∷ is) (suc j)) → r.way ≡ [] → ⊥
        no_downs k j r q = let z : length (downs (lo + row_units g b) r.way) ≡ suc (length (take j is)) = ap length r.ups in omega (arith, z, downs-none r.way q (lo + row_units g b))

  -- the nodes of a path of which the last holds one thing and has no child
  stay-more : (i k : ℕ) (is : List ℕ) → staying base s m (i ∷ k ∷ is) ≡ above (lone_at base s m i k) (staying base s m (k ∷ is))
  unfolding staying
  stay-more i k is = refl

  stay_one : (i : ℕ) → staying base s m (i ∷ []) ≡ 0
  unfolding staying
  stay_one i = refl

  further : (lo : ℕ) (g a : Level) (gs : Filter) (b : List X) (c n : Forest X) (ns : List ℕ) (j : ℕ) → level_lt a g ≡ true → Cuts e (g ∷ gs) n (lo + (row_units a b + units_f c)) ns j → Cuts e (g ∷ gs) (fork a b c n) lo ns j
  unfolding downs ahead
  further lo g a gs b c n ns j q r =
      record {
        way = past a b c ∷ r.way;
        level = r.level;
        own = r.own;
        kids = r.kids;
        next = r.next;
        rest = r.rest;
        is = pass q r.is;
        ups = r.ups;
        at = r.at ∙ omega arith;
        levels = r.levels;
        on = r.on;
      }

  final : (lo : ℕ) (g : Level) (y : X) (n : Forest X) → e (y ∷ []) ≡ [] → Cuts e (g ∷ []) (fork g (y ∷ []) leaf n) lo (lo ∷ []) 0
  unfolding downs ahead
  final lo g y n z =
      record { way = []; level = g; own = y ∷ []; kids = leaf; next = n; rest = g ∷ []; is = here (last z); ups = refl; at = sym (add-zero lo); levels = refl; on = omega arith }

  nodes_pass : (g a : Level) (gs : Filter) (b : List X) (c n : Forest X) {G : Forest X} {w : Way X} {l : Filter} (lo : ℕ) → Rows (fork a b c n) → (q : level_lt a g ≡ true) (r : Reach (g ∷ gs) n w G l)
      → nodes_at (g ∷ gs) lo (fork a b c n) ≡ nodes_at (g ∷ gs) (lo + (row_units a b + units_f c)) n
  unfolding downs ahead
  nodes_pass g a gs b c n {w = w} lo o q r =
      let z : lo + (row_units a b + units_f c + ahead w) ≡ lo + (row_units a b + units_f c) + ahead w = omega arith in
      reach_nodes lo o (reach_pass q r) ∙ rw z (sym (reach_nodes (lo + (row_units a b + units_f c)) o.2 r))

  nodes_into : (g h : Level) (hs : Filter) (b : List X) (c n : Forest X) {G : Forest X} {w : Way X} {l : Filter} (lo : ℕ) → Rows (fork g b c n) → (r : Reach (h ∷ hs) c w G l)
      → nodes_at (g ∷ h ∷ hs) lo (fork g b c n) ≡ lo ∷ nodes_at (h ∷ hs) (lo + row_units g b) c
  unfolding downs ahead
  nodes_into g h hs b c n {w = w} lo o r =
      let z : lo + (row_units g b + ahead w) ≡ lo + row_units g b + ahead w = omega arith in
      reach_nodes lo o (reach_into {g = g} {v = b} {n = n} r) ∙ rw z (ap (λ (l : List ℕ). lo ∷ l) (sym (reach_nodes (lo + row_units g b) o.1 r)))

  nodes_there : (g : Level) (b : List X) (c n : Forest X) (lo : ℕ) → Rows (fork g b c n) → nodes_at (g ∷ []) lo (fork g b c n) ≡ lo ∷ []
  unfolding downs ahead
  nodes_there g b c n lo o = reach_nodes lo o (there {g = g} {v = b} {k = c} {n = n}) ∙ rw add-zero

  into_step : (d lo hi : ℕ) (g h : Level) (hs : Filter) (b : List X) (c n : Forest X) → Stands u.write u.Small base s d lo hi (fork g b c n) → hi ≤ m
      → (ns : List ℕ) → Cuts e (h ∷ hs) c (lo + row_units g b) ns (staying base s m ns) → Cuts e (g ∷ h ∷ hs) (fork g b c n) lo (lo ∷ ns) (staying base s m (lo ∷ ns))
  into_step d lo hi g h hs b c n w q [] r = absurd (omega (arith, r.on))
  into_step d lo hi g h hs b c n w q (k ∷ is) r = rw (stay-more lo k is) (step d lo hi g h hs b c n w q is k (staying base s m (k ∷ is)) r (lone_at base s m lo k) refl)

  -- the code finds the first node that goes
  Found : Filter → ℕ → Forest X → Type 0
  Found p lo F = Cuts e p F lo (nodes_at p lo F) (staying base s m (nodes_at p lo F))

  last_step : (lo : ℕ) (g : Level) (G : Forest X) → Rows G → Goes g G → Found (g ∷ []) lo G
  unfolding Found
  last_step lo g G o (goes {y = y} {n = n} z) = rw (nodes_there g (y ∷ []) leaf n lo o, stay_one lo) (final lo g y n z)

  pass_step : (lo : ℕ) (g a : Level) (gs : Filter) (b : List X) (c n : Forest X) {G : Forest X} {w : Way X} {l : Filter} → Rows (fork a b c n) → level_lt a g ≡ true → Reach (g ∷ gs) n w G l
      → Found (g ∷ gs) (lo + row_units a b + units_f c) n → Found (g ∷ gs) lo (fork a b c n)
  unfolding Found
  pass_step lo g a gs b c n o l r i =
      let z : lo + row_units a b + units_f c ≡ lo + (row_units a b + units_f c) = omega arith in
      rw (nodes_pass g a gs b c n lo o l r)
      (further lo g a gs b c n (nodes_at (g ∷ gs) (lo + (row_units a b + units_f c)) n) (staying base s m (nodes_at (g ∷ gs) (lo + (row_units a b + units_f c)) n)) l (rw z at i))

  down_step : (d lo hi : ℕ) (g h : Level) (hs : Filter) (b : List X) (c n : Forest X) {G : Forest X} {w : Way X} {l : Filter} → Stands u.write u.Small base s d lo hi (fork g b c n) → hi ≤ m
      → Reach (h ∷ hs) c w G l → Found (h ∷ hs) (lo + row_units g b) c → Found (g ∷ h ∷ hs) lo (fork g b c n)
  unfolding Found
  down_step d lo hi g h hs b c n st q r i =
      rw (nodes_into g h hs b c n lo st.rows r) (into_step d lo hi g h hs b c n st q (nodes_at (h ∷ hs) (lo + row_units g b) c) i)

  kids_under : (d lo hi : ℕ) (g : Level) (b : List X) (c n : Forest X) → Stands u.write u.Small base s d lo hi (fork g b c n) → hi ≤ m → lo + row_units g b + units_f c ≤ m
  kids_under d lo hi g b c n st q = omega (arith, st.size, q, fork_units g b c n)

  found : {p : Filter} {F : Forest X} {w : Way X} {G : Forest X} {l : Filter} (d lo hi : ℕ) → Stands u.write u.Small base s d lo hi F → hi ≤ m
      → Reach p F w G l → l ≡ [] → GoesHere G → Found p lo F
  found d lo hi st q (ended {g = g} {gs = gs}) e₀ z = absurd (no_cons g gs (sym e₀))
  found d lo hi st q (before {g = g} {gs = gs} x) e₀ z = absurd (no_cons g gs (sym e₀))
  found d lo hi st q (there {g = g} {v = v} {k = k} {n = n}) e₀ z = last_step lo g (fork g v k n) st.rows z
  found d lo hi st q (reach_pass {g = g} {t = a} {gs = gs} {v = b} {k = c} {n = f} l r) e₀ z =
      pass_step lo g a gs b c f st.rows l r (found d (lo + row_units a b + units_f c) hi (stands_next u base s d lo hi a b c f st) q r e₀ z)
  found d lo hi st q (reach_into {g = g} {h = h} {hs = hs} {v = b} {k = c} {n = f} r) e₀ z =
      down_step d lo hi g h hs b c f st q r
      (found (d + 1) (lo + row_units g b) (lo + row_units g b + units_f c) (stands_kids u base s d lo hi g b c f st) (kids_under d lo hi g b c f st q) r e₀ z)

  pub cuts : {p : Filter} {F : Forest X} {w : Way X} {G : Forest X} (d lo hi : ℕ) → Stands u.write u.Small base s d lo hi F → hi ≤ m
      → Reach p F w G [] → GoesHere G → Cuts e p F lo (nodes_at p lo F) (staying base s m (nodes_at p lo F))
  unfolding Found
  cuts d lo hi st q r z = found d lo hi st q r refl z
