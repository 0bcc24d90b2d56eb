-- The changes along a path of a forest that a region holds: the region then holds the changed forest. Assumes nothing.
use mathlib.Core.Path.{◌≡◌, refl, sym, ap, ◌∙◌}
use mathlib.Core.List.{List, [], ◌∷◌, ◌++◌, append-nil}
use Prim.Native.Nat.{ℕ, ◌+◌, ◌≤◌, ◌<◌}
use native.Mathlib.Omega.{arith}
use native.Mathlib.Nat.{zero-add}
use lib.ListN.{length, length-append}
use Rattle.lent.specs.Total.{Framed}
use Rattle.held.specs.Order.{Level, Filter}
use Rattle.held.specs.Ascending.{All}
use Rattle.held.specs.Room.{level_cells}
use Rattle.held.specs.Forest.{Forest, leaf, fork, held, Rows, Full}
use Rattle.held.specs.Edit.{edit_own, chain, grow_f, cut_f, weigh_f, weigh}
use Rattle.held.proofs.RoomLaws.{Within}
use Rattle.region.specs.Layout.{unit_room, needed_bytes, level_units, row_units, units_f}
use Rattle.region.specs.Forms.{Form, Fits, leaf_fits, fork_fits}
use Rattle.region.specs.Store.{room_at}
use Rattle.region.proofs.Stores.{units_fit}
use Rattle.forest.specs.Paths.{nodes_at, spot_at}
use Rattle.forest.proofs.StandsLaws.{ForkFits, fits_fork, fork_units}
use Rattle.room.specs.declared.Load.{Load}
use Rattle.change.specs.Ways.{past, down, Way, plug, wide, ahead, downs, deep}
use Rattle.change.specs.Reach.{Reach, grow_here}
use Rattle.room.specs.Runs.{run_units, WantedFor}
use Rattle.room.specs.Changes.{counts_moved, made_run, no_load, one_load, made_chain, put_unit, made_unit, taken_run, taken_chain, cut_unit, taken_unit}
use Rattle.change.specs.Holds.{Holds}
use Rattle.change.proofs.WayLaws.{units_plug, wide_add, wide_ahead}
use Rattle.change.proofs.ReachLaws.{reach_grow, reach_cut, reach_nodes, reach_spot}
use Rattle.change.proofs.ChainLaws.{weigh_one, units-split, before_units}
use Rattle.change.proofs.HoldsLaws.{Changes, holds_view, room_small, units-within, change-held, change_room, change_framed}
use Rattle.change.proofs.PlaceLaws.{chain_view, chain_framed, unit_view, unit_framed, less_view, less_framed, taken_view, taken_framed}
use Rattle.held.proofs.Lengths.{length-held}

-- how deep a place is
pub deep_downs : {X : Type 0} (d at : ℕ) (w : Way X) → deep d w ≡ length (downs at w) + d
unfolding deep downs
deep_downs d at [] = omega arith
deep_downs d at (past t v k ∷ w) = deep_downs d (at + (row_units t v + units_f k)) w
deep_downs d at (down t v n ∷ w) = omega (arith, deep_downs (d + 1) (at + row_units t v) w)

-- levels that fit their two bytes
abbrev pub Short : Filter → Type 0
Short gs = All (λ (l : Level). length l < 65536) gs

module _ {X : Type 0} (u : Form X) where
  pub fits_at : (w : Way X) (G : Forest X) → Fits u.Small (plug w G) → Fits u.Small G
  unfolding plug
  fits_at [] G f = f
  fits_at (past t v k ∷ w) G f = fits_at w G (fits_fork t v k (plug w G) f).next
  fits_at (down t v n ∷ w) G f = fits_at w G (fits_fork t v (plug w G) n f).kids

  -- new nodes fit
  module _ (e : List X → List X) (y : X) (one : e [] ≡ y ∷ []) (small : u.Small y) where
    own_small : (gs : Filter) → All u.Small (edit_own e gs [])
    own_small [] = rw one (small, tt)
    own_small (h ∷ hs) = tt

    own_few : (gs : Filter) → length (edit_own e gs []) < 65536
    own_few [] = rw one (omega arith)
    own_few (h ∷ hs) = omega arith

    fits-chain : (gs : Filter) → Short gs → units_f (chain e gs) < 65536 → Fits u.Small (chain e gs)
    unfolding chain
    fits-chain [] a h = leaf_fits
    fits-chain (g ∷ gs) a h =
        let b = fork_units g (edit_own e gs []) (chain e gs) leaf in
        fork_fits {k = chain e gs} a.0 (own_few gs) (omega (arith, h, b)) (own_small gs) (fits-chain gs a.1 (omega (arith, h, b))) leaf_fits

    fits_here : (g : Level) (gs : Filter) (G : Forest X) → Short (g ∷ gs) → units_f (grow_here e (g ∷ gs) G) < 65536 → Fits u.Small G → Fits u.Small (grow_here e (g ∷ gs) G)
    unfolding grow_here
    fits_here g gs G a h f =
        let b = fork_units g (edit_own e gs []) (chain e gs) G in
        fork_fits {k = chain e gs} a.0 (own_few gs) (omega (arith, h, b)) (own_small gs) (fits-chain gs a.1 (omega (arith, h, b))) f

    -- and are counted
    weigh-chain : (c : Level → ℕ) (gs : Filter) → weigh_f c (chain e gs) ≡ weigh c gs
    unfolding chain weigh_f
    weigh-chain c [] = refl
    weigh-chain c (g ∷ gs) = omega (arith, weigh-chain c gs)

    weigh_here : (c : Level → ℕ) (g : Level) (gs : Filter) (G : Forest X) → weigh_f c (grow_here e (g ∷ gs) G) ≡ weigh c (g ∷ gs) + weigh_f c G
    unfolding grow_here weigh_f
    weigh_here c g gs G = omega (arith, weigh-chain c gs)

    held_own : (gs : Filter) → length (edit_own e gs []) + length (held (chain e gs)) ≡ 1
    unfolding chain held
    held_own [] = rw one
    held_own (h ∷ hs) = omega (arith, length-held h (edit_own e hs []) (chain e hs) leaf, held_own hs)

    held_here : (g : Level) (gs : Filter) (G : Forest X) → length (held (grow_here e (g ∷ gs) G)) ≡ 1 + length (held G)
    unfolding grow_here
    held_here g gs G = omega (arith, length-held g (edit_own e gs []) (chain e gs) G, held_own gs)

    pub chain_changes : (g : Level) (gs : Filter) (G : Forest X) (load : Load) → WantedFor (g ∷ gs) load → Changes G (grow_here e (g ∷ gs) G) load no_load
    chain_changes g gs G load l =
        record {
          nodes_change = omega (arith, l.nodes_are, weigh_here (λ l. 1) g gs G, weigh_one (g ∷ gs));
          pairs_change = omega (arith, l.pairs_are, held_here g gs G);
          cells_change = omega (arith, l.cells_are, weigh_here level_cells g gs G);
          units_change = omega (arith, l.units_are, before_units e y one g gs G);
        }

-- a region that a change leaves: it holds the changed forest, has the capacities that it had, and is changed only within its needed bytes
pub record Becomes {X : Type 0} (u : Form X) (kind : ℕ) (s t : List ℕ) (F : Forest X) : Type 0 where
  pub holds : Holds u kind t F
  pub room : room_at t ≡ room_at s
  pub framed : Framed 0 (needed_bytes (room_at s)) s t

-- new nodes for the levels of a path that are missing
module _ {X : Type 0} (u : Form X) (kind : ℕ) (s : List ℕ) (w : Way X) (G : Forest X) (h : Holds u kind s (plug w G))
    (e : List X → List X) (y : X) (one : e [] ≡ y ∷ []) (small : u.Small y) (p : Filter) (g : Level) (gs : Filter) (r : Reach p (plug w G) w G (g ∷ gs))
    (short : Short (g ∷ gs)) (load : Load) (wanted : WantedFor (g ∷ gs) load)
    (rows : Rows (grow_f e p (plug w G))) (full : Full (grow_f e p (plug w G))) (within : Within (room_at s) (held (grow_f e p (plug w G)))) where
  abbrev H : Forest X
  H = grow_here e (g ∷ gs) G

  grown : grow_f e p (plug w G) ≡ plug w H
  grown = reach_grow e r

  rows-H : Rows (plug w H)
  rows-H = rw grown at rows

  full-H : Full (plug w H)
  full-H = rw grown at full

  within-H : Within (room_at s) (held (plug w H))
  within-H = rw grown at within

  enough : wide w (units_f G) + run_units (g ∷ gs) ≤ unit_room (room_at s)
  enough =
      let a = units_fit (plug w H) rows-H full-H in
      let k : units_f H ≡ units_f G + run_units (g ∷ gs) = before_units e y one g gs G ∙ omega arith in
      omega (arith, a, within-H.nodes, within-H.pairs, within-H.cells, units_plug w H, ap (wide w) k, wide_add w (units_f G) (run_units (g ∷ gs)))

  few : wide w (units_f G) < 65536
  few = omega (arith, enough, room_small u kind s (plug w G) h)

  abbrev t : List ℕ
  t = made_run (64 + unit_room (room_at s)) (wide w (units_f G)) (downs 0 w) (ahead w) (deep 1 w) (u.write y) (g ∷ gs) (run_units (g ∷ gs)) s

  made_is : made_chain (64 + unit_room (room_at s)) (units_f (plug w G)) (nodes_at p 0 (plug w G)) (spot_at p 0 (plug w G)) (length (nodes_at p 0 (plug w G)) + 1) (u.write y) (g ∷ gs) load s
      ≡ counts_moved load no_load t
  unfolding made_chain
  made_is =
      let a : nodes_at p 0 (plug w G) ≡ downs 0 w = reach_nodes 0 h.rows r ∙ append-nil (downs 0 w) in
      let b : spot_at p 0 (plug w G) ≡ ahead w = reach_spot 0 h.rows r g gs refl ∙ zero-add (ahead w) in
      let d : length (downs 0 w) + 1 ≡ deep 1 w = sym (deep_downs 1 0 w) in
      rw (a, b, d, units_plug w G, wanted.units_are)

  units_small : units_f H < 65536
  units_small = omega (arith, enough, room_small u kind s (plug w G) h, before_units e y one g gs G, wide_ahead w (units_f G))

  pub chain_becomes : Becomes u kind s
      (made_chain (64 + unit_room (room_at s)) (units_f (plug w G)) (nodes_at p 0 (plug w G)) (spot_at p 0 (plug w G)) (length (nodes_at p 0 (plug w G)) + 1) (u.write y) (g ∷ gs) load s)
      (grow_f e p (plug w G))
  chain_becomes =
      let f = fits_here u e y one small g gs G short units_small (fits_at u w G h.fits) in
      let c = chain_changes u e y one small g gs G load wanted in
      let v = chain_view u (unit_room (room_at s)) w s G (holds_view u kind s (plug w G) h) few e y one g gs enough in
      let q = chain_framed u (unit_room (room_at s)) w s G (holds_view u kind s (plug w G) h) few e y one g gs enough in
      rw (made_is, grown) (record {
        holds = change-held u kind s w G H h rows-H full-H within-H f load no_load c t v q;
        room = change_room u kind s w G H h rows-H full-H within-H f load no_load c t v q;
        framed = change_framed u kind s w G H h rows-H full-H within-H f load no_load c t v q;
      })

-- a unit more: x between the a and b that the last node of a path holds
module _ {X : Type 0} (u : Form X) (kind : ℕ) (s : List ℕ) (w : Way X) (l : Level) (a b : List X) (k n : Forest X) (h : Holds u kind s (plug w (fork l (a ++ b) k n)))
    (e : List X → List X) (x : X) (put : e (a ++ b) ≡ a ++ (x ∷ b)) (small : u.Small x) (p : Filter) (r : Reach p (plug w (fork l (a ++ b) k n)) w (fork l (a ++ b) k n) [])
    (rows : Rows (grow_f e p (plug w (fork l (a ++ b) k n)))) (full : Full (grow_f e p (plug w (fork l (a ++ b) k n))))
    (within : Within (room_at s) (held (grow_f e p (plug w (fork l (a ++ b) k n))))) where
  abbrev old : Forest X
  old = fork l (a ++ b) k n

  abbrev new : Forest X
  new = fork l (a ++ (x ∷ b)) k n

  grown_unit : grow_f e p (plug w old) ≡ plug w new
  unfolding grow_here
  grown_unit = reach_grow e r ∙ rw put

  rows_new : Rows (plug w new)
  rows_new = rw grown_unit at rows

  full_new : Full (plug w new)
  full_new = rw grown_unit at full

  within_new : Within (room_at s) (held (plug w new))
  within_new = rw grown_unit at within

  one_more : units_f new ≡ units_f old + 1
  one_more = omega (arith, fork_units l (a ++ (x ∷ b)) k n, fork_units l (a ++ b) k n, length-append a (x ∷ b), length-append a b)

  room_one : wide w (units_f old) + 1 ≤ unit_room (room_at s)
  room_one =
      omega (arith, units_fit (plug w new) rows_new full_new, within_new.nodes, within_new.pairs, within_new.cells, units_plug w new, ap (wide w) one_more, wide_add w (units_f old) 1)

  old-fits : ForkFits u.Small l (a ++ b) k n
  old-fits = fits_fork l (a ++ b) k n (fits_at u w old h.fits)

  small_with : (c d : List X) → All u.Small (c ++ d) → All u.Small (c ++ (x ∷ d))
  small_with [] d q = (small, q)
  small_with (y ∷ c) d q = (q.0, small_with c d q.1)

  units_few : wide w (units_f old) < 65536
  units_few = omega (arith, room_one, room_small u kind s (plug w old) h)

  new-fits : Fits u.Small new
  new-fits =
      fork_fits {v = a ++ (x ∷ b)} old-fits.text
      (omega (arith, length-append a (x ∷ b), length-append a b, fork_units l (a ++ b) k n, wide_ahead w (units_f old), room_one, room_small u kind s (plug w old) h))
      old-fits.below (small_with a b old-fits.small) old-fits.kids old-fits.next

  unit_changes : Changes old new one_load no_load
  unfolding weigh_f
  unit_changes =
      record {
        nodes_change = omega arith;
        pairs_change = omega (arith, length-held l (a ++ b) k n, length-held l (a ++ (x ∷ b)) k n, length-append a (x ∷ b), length-append a b);
        cells_change = omega arith;
        units_change = omega (arith, one_more);
      }

  abbrev unit_done : List ℕ
  unit_done = put_unit (64 + unit_room (room_at s)) (wide w (units_f old)) (downs 0 w) (ahead w) (ahead w + level_units l + length a) (u.write x) s

  pub unit_becomes : Becomes u kind s (made_unit (64 + unit_room (room_at s)) (units_f (plug w old)) (downs 0 w) (ahead w) (ahead w + level_units l + length a) (u.write x) s) (grow_f e p (plug w old))
  unfolding made_unit
  unit_becomes =
      let v = unit_view u (unit_room (room_at s)) w l a b k n s (holds_view u kind s (plug w old) h) units_few old-fits.own x room_one in
      let f = unit_framed u (unit_room (room_at s)) w l a b k n s (holds_view u kind s (plug w old) h) units_few old-fits.own x room_one in
      rw (units_plug w old, grown_unit) (record {
        holds = change-held u kind s w old new h rows_new full_new within_new new-fits one_load no_load unit_changes unit_done v f;
        room = change_room u kind s w old new h rows_new full_new within_new new-fits one_load no_load unit_changes unit_done v f;
        framed = change_framed u kind s w old new h rows_new full_new within_new new-fits one_load no_load unit_changes unit_done v f;
      })

-- a unit less: x from between the a and b that the last node of a path holds, where that node stays
module _ {X : Type 0} (u : Form X) (kind : ℕ) (s : List ℕ) (w : Way X) (l : Level) (a : List X) (x : X) (b : List X) (k n : Forest X)
    (h : Holds u kind s (plug w (fork l (a ++ (x ∷ b)) k n))) (e : List X → List X) (cut : e (a ++ (x ∷ b)) ≡ a ++ b) (stays : a ++ b ≡ [] → k ≡ leaf → ⊥)
    (p : Filter) (r : Reach p (plug w (fork l (a ++ (x ∷ b)) k n)) w (fork l (a ++ (x ∷ b)) k n) [])
    (rows : Rows (cut_f e p (plug w (fork l (a ++ (x ∷ b)) k n)))) (full : Full (cut_f e p (plug w (fork l (a ++ (x ∷ b)) k n))))
    (within : Within (room_at s) (held (cut_f e p (plug w (fork l (a ++ (x ∷ b)) k n))))) where
  abbrev was : Forest X
  was = fork l (a ++ (x ∷ b)) k n

  abbrev left : Forest X
  left = fork l (a ++ b) k n

  cut-unit : cut_f e p (plug w was) ≡ plug w left
  cut-unit = reach_cut e r (λ (q : e (a ++ (x ∷ b)) ≡ []) (z : k ≡ leaf). stays (sym cut ∙ q) z) ∙ ap (λ (v : List X). plug w (fork l v k n)) cut

  rows_left : Rows (plug w left)
  rows_left = rw cut-unit at rows

  full-left : Full (plug w left)
  full-left = rw cut-unit at full

  within-left : Within (room_at s) (held (plug w left))
  within-left = rw cut-unit at within

  was-fits : ForkFits u.Small l (a ++ (x ∷ b)) k n
  was-fits = fits_fork l (a ++ (x ∷ b)) k n (fits_at u w was h.fits)

  small_without : (c d : List X) → All u.Small (c ++ (x ∷ d)) → All u.Small (c ++ d)
  small_without [] d q = q.1
  small_without (y ∷ c) d q = (q.0, small_without c d q.1)

  was_few : wide w (units_f was) < 65536
  was_few = omega (arith, units-within u kind s (plug w was) h, units_plug w was, room_small u kind s (plug w was) h)

  left-fits : Fits u.Small left
  left-fits =
      fork_fits {v = a ++ b} was-fits.text (omega (arith, length-append a (x ∷ b), length-append a b, was-fits.own))
      was-fits.below (small_without a b was-fits.small) was-fits.kids was-fits.next

  less_changes : Changes was left no_load one_load
  unfolding weigh_f
  less_changes =
      record {
        nodes_change = omega arith;
        pairs_change = omega (arith, length-held l (a ++ b) k n, length-held l (a ++ (x ∷ b)) k n, length-append a (x ∷ b), length-append a b);
        cells_change = omega arith;
        units_change = omega (arith, fork_units l (a ++ (x ∷ b)) k n, fork_units l (a ++ b) k n, length-append a (x ∷ b), length-append a b);
      }

  abbrev less_done : List ℕ
  less_done = cut_unit (64 + unit_room (room_at s)) (wide w (units_f was)) (downs 0 w) (ahead w) (ahead w + level_units l + length a) s

  pub less_becomes : Becomes u kind s (taken_unit (64 + unit_room (room_at s)) (units_f (plug w was)) (downs 0 w) (ahead w) (ahead w + level_units l + length a) s) (cut_f e p (plug w was))
  unfolding taken_unit
  less_becomes =
      let v = less_view u (unit_room (room_at s)) w l a x b k n s (holds_view u kind s (plug w was) h) was_few was-fits.own in
      let f = less_framed u (unit_room (room_at s)) w l a x b k n s (holds_view u kind s (plug w was) h) was_few was-fits.own in
      rw (units_plug w was, cut-unit) (record {
        holds = change-held u kind s w was left h rows_left full-left within-left left-fits no_load one_load less_changes less_done v f;
        room = change_room u kind s w was left h rows_left full-left within-left left-fits no_load one_load less_changes less_done v f;
        framed = change_framed u kind s w was left h rows_left full-left within-left left-fits no_load one_load less_changes less_done v f;
      })

-- nodes taken away: a node with all below it
module _ {X : Type 0} (u : Form X) (kind : ℕ) (s : List ℕ) (w : Way X) (l : Level) (o : List X) (k n : Forest X) (h : Holds u kind s (plug w (fork l o k n)))
    (load : Load) (takes : Changes (fork l o k n) n no_load load)
    (rows : Rows (plug w n)) (full : Full (plug w n)) (within : Within (room_at s) (held (plug w n))) where
  abbrev node : Forest X
  node = fork l o k n

  node_few : wide w (units_f node) < 65536
  node_few = omega (arith, units-within u kind s (plug w node) h, units_plug w node, room_small u kind s (plug w node) h)

  units-taken : load.units ≡ units_f (fork l o k leaf)
  units-taken = omega (arith, takes.units_change, units-split l o k n)

  abbrev taken : List ℕ
  taken = taken_run (64 + unit_room (room_at s)) (wide w (units_f node)) (downs 0 w) (ahead w) (units_f (fork l o k leaf)) s

  taken_is : taken_chain (64 + unit_room (room_at s)) (units_f (plug w node)) (downs 0 w) (ahead w) load s ≡ counts_moved no_load load taken
  unfolding taken_chain
  taken_is =
      ap (counts_moved no_load load)
      (ap (λ (m : ℕ). taken_run (64 + unit_room (room_at s)) m (downs 0 w) (ahead w) load.units s) (units_plug w node)
      ∙ ap (λ (m : ℕ). taken_run (64 + unit_room (room_at s)) (wide w (units_f node)) (downs 0 w) (ahead w) m s) units-taken)

  pub taken_becomes : Becomes u kind s (taken_chain (64 + unit_room (room_at s)) (units_f (plug w node)) (downs 0 w) (ahead w) load s) (plug w n)
  taken_becomes =
      let v = taken_view u (unit_room (room_at s)) w s l o k n (holds_view u kind s (plug w node) h) node_few in
      let f = taken_framed u (unit_room (room_at s)) w s l o k n (holds_view u kind s (plug w node) h) node_few in
      let g = (fits_fork l o k n (fits_at u w node h.fits)).next in
      rw taken_is (record {
        holds = change-held u kind s w node n h rows full within g no_load load takes taken v f;
        room = change_room u kind s w node n h rows full within g no_load load takes taken v f;
        framed = change_framed u kind s w node n h rows full within g no_load load takes taken v f;
      })
