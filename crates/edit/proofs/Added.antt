-- What is held once a unit was added to a node, or nodes with one: the change that the code makes, in the words of the forest.
-- Assumes nothing.
use mathlib.Core.Path.{◌≡◌, sym, ap, subst, ◌∙◌}
use mathlib.Core.Bool.{Bool, true, false}
use mathlib.Core.List.{List, [], ◌∷◌, ◌++◌}
use Prim.Native.Nat.{ℕ, zero, suc, ◌+◌, ◌-◌, ◌≤◌, ◌<◌}
use native.Mathlib.Omega.{arith}
use lib.Dec.{eqb}
use lib.ListN.{length, take, drop, length-append, length-take}
use Rattle.lent.specs.Parts.{patch}
use Rattle.level.specs.Levels.{push, split}
use Rattle.level.specs.Places.{first, levels_at, end_of}
use Rattle.level.proofs.Split.{split_cons, after}
use Rattle.held.specs.Order.{Level, Filter}
use Rattle.held.specs.Ascending.{All}
use Rattle.held.specs.Room.{level_cells}
use Rattle.held.specs.Forest.{Forest, held, Full}
use Rattle.held.specs.Edit.{grow_f, missing, weigh}
use Rattle.held.proofs.Entries.{all_with}
use Rattle.held.proofs.RoomLaws.{Within}
use Rattle.region.specs.Layout.{unit_room, level_units, units_f}
use Rattle.region.specs.Forms.{Form}
use Rattle.region.specs.Store.{room_at}
use Rattle.region.specs.Shapes.{UnitsOf}
use Rattle.forest.specs.Places.{unit_at}
use Rattle.forest.specs.Paths.{nodes_at, spot_at}
use Rattle.seek.specs.declared.Path.{Path}
use Rattle.seek.specs.PathFound.{PathFound}
use Rattle.seek.proofs.PathLaws.{all_there, one-missing}
use Rattle.room.specs.declared.Load.{Load}
use Rattle.room.specs.Runs.{WantedFor}
use Rattle.room.specs.Changes.{made_unit, made_chain}
use Rattle.change.specs.Holds.{Holds}
use Rattle.change.specs.Ways.{ahead}
use Rattle.change.specs.Reach.{Reach}
use Rattle.change.proofs.ReachLaws.{Reached, reach, reach-missing}
use Rattle.change.proofs.EditLaws.{Becomes, Short}
use Rattle.change.proofs.PathEdits.{unit_reached, unit_units, chain_reached, chain_units}
use Rattle.change.proofs.SwapLaws.{swap_reached}
use Rattle.edit.specs.Adding.{fitting}
use Rattle.edit.proofs.LastLaws.{Last}
use Rattle.edit.proofs.KnownPath.{base_is, all_is, stands, path, last, downs_are}

-- no level is longer than its text
UpTo : ℕ → List (List ℕ) → Type 0
UpTo n ls = All (λ (l : List ℕ). length l ≤ n) ls

more_up : (n : ℕ) (ls : List (List ℕ)) → UpTo n ls → UpTo (suc n) ls
unfolding UpTo
more_up n ls a = all_with (λ (l : List ℕ). length l ≤ n) (λ (l : List ℕ). length l ≤ suc n) (λ (l : List ℕ) (h : length l ≤ n). omega arith) ls a

push_up : (t : Bool) (b n : ℕ) (ls : List (List ℕ)) → UpTo n ls → UpTo (suc n) (push t b ls)
unfolding UpTo
push_up true b n ls a = (omega arith, more_up n ls a)
push_up false b n [] a = (omega arith, tt)
push_up false b n (l ∷ ls) a = (omega (arith, a.0), more_up n ls a.1)

levels_up : (s : List ℕ) (i : ℕ) → UpTo (length s) (levels_at s i)
unfolding UpTo
levels_up [] zero = (omega arith, tt)
levels_up (b ∷ s) zero = push_up (eqb b 47) b (length s) (split s) (levels_up s 0)
levels_up [] (suc n) = tt
levels_up (b ∷ s) (suc n) = more_up (length s) (levels_at s n) (levels_up s n)

levels_short : (s : List ℕ) → length s ≤ 65535 → (i : ℕ) → Short (levels_at s i)
unfolding UpTo
levels_short s h i = all_with (λ (l : List ℕ). length l ≤ length s) (λ (l : List ℕ). length l < 65536) (λ (l : List ℕ) (q : length l ≤ length s). omega arith) (levels_at s i) (levels_up s i)

-- the same change in other words
same_made : {a b m n i j : ℕ} {v w : List ℕ} → a ≡ b → m ≡ n → v ≡ w → i ≡ j → (at : ℕ) (x s : List ℕ) → made_unit a m v i at x s ≡ made_unit b n w j at x s
same_made e f g h at x s = rw (e, f, g, h)

same-chain : {a b m n p q d k : ℕ} {v w : List ℕ} {g h : Filter} → a ≡ b → m ≡ n → v ≡ w → p ≡ q → d ≡ k → g ≡ h → (x : List ℕ) (load : Load) (s : List ℕ)
    → made_chain a m v p d x g load s ≡ made_chain b n w q k x h load s
same-chain ea em ev ep ed eg x load s = rw (ea, em, ev, ep, ed, eg)

module _ {X : Type 0} (u : Form X) (kind : ℕ) (s : List ℕ) {base n room : ℕ} (units : UnitsOf s base n room) (F : Forest X) (h : Holds u kind s F) (f : List ℕ) (few : length (split f) ≤ 128) {p : Path}
    (pf : PathFound base s n f p) (full : length p.nodes ≡ 128) (e : List X → List X) where
  -- the nodes are there: one unit more, between those of a and those of b
  module _ (q : length f < p.from) (x : X) (a b : List X) (all : (last u kind s units F h f few pf q).own ≡ a ++ b) (with : e (last u kind s units F h f few pf q).own ≡ a ++ (x ∷ b)) where
    abbrev l : Last F (split f)
    l = last u kind s units F h f few pf q

    pub none-missing : missing (split f) F ≡ []
    none-missing = all_there base s n f p pf u F (stands u kind s units F h) few q

    pub unit-more : units_f (grow_f e (split f) F) ≡ n + 1
    unit-more =
        let g : length (e l.own) ≡ length l.own + 1 = omega (arith, ap length with, ap length all, length-append a (x ∷ b), length-append a b) in
        omega (arith, unit_units e l.is g, all_is u kind s units F h)

    pub unit-held : u.Small x → Full (grow_f e (split f) F) → Within (room_at s) (held (grow_f e (split f) F)) → {node : ℕ} → node ≡ ahead l.way
        → Becomes u kind s (made_unit base n (take (p.depth - 1) p.nodes) node (ahead l.way + level_units l.level + length a) (u.write x) s) (grow_f e (split f) F)
    unit-held small ok within z =
        subst (λ (t : List ℕ). Becomes u kind s t (grow_f e (split f) F))
        (sym (same_made (base_is u kind s units F h) (all_is u kind s units F h) (downs_are u kind s units F h f few pf q full) z (ahead l.way + level_units l.level + length a) (u.write x) s))
        (unit_reached u kind s e (split f) x small l.way l.level l.kids l.next a b l.own F all h l.is with ok within)

  -- a unit written over
  module _ (q : length f < p.from) (y x : X) (a b : List X) (all : (last u kind s units F h f few pf q).own ≡ a ++ (y ∷ b)) (with : e (last u kind s units F h f few pf q).own ≡ a ++ (x ∷ b)) where
    abbrev m : Last F (split f)
    m = last u kind s units F h f few pf q

    pub unit_swapped : u.Small x → Full (grow_f e (split f) F) → {at : ℕ} → at ≡ ahead m.way + level_units m.level + length a
        → Becomes u kind s (patch (unit_at base at) (u.write x) s) (grow_f e (split f) F)
    unit_swapped small ok z =
        rw (base_is u kind s units F h, z)
        (swap_reached u kind s e (split f) x small m.way m.level m.kids m.next a y b m.own F all h m.is with ok)

  -- some nodes are missing
  module _ (q : p.from ≤ length f) (y : X) (one : e [] ≡ y ∷ []) (load : Load) (w : WantedFor (levels_at f p.from) load) where
    abbrev g : Level
    g = first (drop p.from f)

    abbrev gs : Filter
    gs = levels_at f (suc (end_of f p.from))

    pub miss : missing (split f) F ≡ g ∷ gs
    miss = one-missing base s n f p pf u F (stands u kind s units F h) few q

    rest : levels_at f p.from ≡ g ∷ gs
    rest = (path u kind s units F h f few pf).rest_is ∙ miss

    wanted : WantedFor (g ∷ gs) load
    wanted = rw rest at w

    pub load_fits : fitting s (length (missing (split f) F)) (weigh level_cells (missing (split f) F)) ≡ fitting s load.nodes load.cells
    load_fits = ap (λ (m : Filter). fitting s (length m) (weigh level_cells m)) miss ∙ rw (wanted.nodes_are, wanted.cells_are)

    found : Reached (split f) F
    found = rw (split_cons f) (reach (first f) (after f) F)

    along : Reach (split f) F found.way found.row (g ∷ gs)
    along =
        let m : found.missed ≡ g ∷ gs = sym (reach-missing h.rows found.is) ∙ miss in
        rw m at found.is

    pub chain_more : units_f (grow_f e (split f) F) ≡ n + load.units
    chain_more = omega (arith, chain_units e y one along, all_is u kind s units F h, wanted.units_are)

    made_as : made_chain base n (take p.depth p.nodes) p.place (p.depth + 1) (u.write y) (levels_at f p.from) load s
        ≡ made_chain (64 + unit_room (room_at s)) (units_f F) (nodes_at (split f) 0 F) (spot_at (split f) 0 F) (length (nodes_at (split f) 0 F) + 1) (u.write y) (g ∷ gs) load s
    made_as =
        let pa = path u kind s units F h f few pf in
        let d : length (take p.depth p.nodes) ≡ p.depth = rw length-take (omega (arith, pf.few, full)) in
        let z : p.depth + 1 ≡ length (nodes_at (split f) 0 F) + 1 = omega (arith, d, ap length pa.nodes_are) in
        same-chain (base_is u kind s units F h) (all_is u kind s units F h) pa.nodes_are pa.place_is z rest (u.write y) load s

    pub chain_held : u.Small y → length f ≤ 65535 → Full (grow_f e (split f) F) → Within (room_at s) (held (grow_f e (split f) F))
        → Becomes u kind s (made_chain base n (take p.depth p.nodes) p.place (p.depth + 1) (u.write y) (levels_at f p.from) load s) (grow_f e (split f) F)
    chain_held small size ok within =
        subst (λ (t : List ℕ). Becomes u kind s t (grow_f e (split f) F)) (sym made_as)
        (chain_reached u kind s e y one small (split f) g gs (rw rest at (levels_short f size p.from)) load wanted along h ok within)
