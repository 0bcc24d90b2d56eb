-- A forest that stands in a region, whatever its nodes hold, stands there as the raw one too; and a search, a path and what is
-- missing of it are the same in both. Assumes nothing.
use Rattle.std.specs.Prelude.{Result, Ok, Err}
use mathlib.Core.Path.{◌≡◌, refl, sym, ap, ◌∙◌}
use mathlib.Core.Bool.{Bool, true, false, cond}
use mathlib.Core.List.{List, [], ◌∷◌, map}
use Prim.Native.Nat.{ℕ, ◌+◌, ◌*◌, ◌<◌}
use native.Mathlib.Nat.{zero-add}
use native.Mathlib.Omega.{arith}
use lib.ListN.{length, length-map}
use Rattle.level.specs.Kinds.{same}
use Rattle.held.specs.Order.{Level, Filter}
use Rattle.held.specs.Ascending.{All}
use Rattle.held.specs.Bytes.{each}
use Rattle.held.specs.Forest.{Forest, leaf, fork, Over, Rows}
use Rattle.held.specs.Walks.{Hit, miss, hit, kid}
use Rattle.held.specs.Edit.{kids_or, missing}
use Rattle.region.specs.Layout.{unit_room, row_units, units_f, row_bytes, unit_bytes, marks_of}
use Rattle.region.specs.Forms.{Form, Fits, leaf_fits, fork_fits, whole, Whole}
use Rattle.region.specs.Store.{room_at, WrittenIn}
use Rattle.region.proofs.Instances.{wholes, whole_back}
use Rattle.forest.specs.Stands.{Stands, raw_in, RawStands, map_f}
use Rattle.forest.specs.Paths.{seek_at, on_hit, nodes_at, spot_at}
use Rattle.forest.proofs.StandsLaws.{stands_read}
use Rattle.seek.specs.declared.Child.{Child}
use Rattle.seek.specs.Child.{child_at, child_of}

-- a node with a function done to all that it holds and all below it
abbrev map_hit : {X Y : Type 0} → (X → Y) → Hit X → Hit Y
map_hit f miss = miss
map_hit f (hit v k) = hit (map f v) (map_f f k)

module _ {X Y : Type 0} (f : X → Y) where
  row-map : (t : Level) (v : List X) → row_units t (map f v) ≡ row_units t v
  row-map t v = rw length-map

  units-map : (F : Forest X) → units_f (map_f f F) ≡ units_f F
  unfolding map_f units_f
  units-map leaf = refl
  units-map (fork t v k n) = rw (row-map t v, units-map k, units-map n)

  marks-map : (d : ℕ) (F : Forest X) → marks_of d (map_f f F) ≡ marks_of d F
  unfolding map_f marks_of
  marks-map d leaf = refl
  marks-map d (fork t v k n) = rw (row-map t v, marks-map (d + 1) k, marks-map d n)

  over-map : (t : Level) (F : Forest X) → Over t F → Over t (map_f f F)
  unfolding map_f
  over-map t leaf o = tt
  over-map t (fork u v k n) o = (o.0, over-map t n o.1)

  rows-map : (F : Forest X) → Rows F → Rows (map_f f F)
  unfolding map_f
  rows-map leaf r = tt
  rows-map (fork t v k n) r = (over-map t n r.0, rows-map k r.1, rows-map n r.2)

  -- the search
  kid-map : (g : Level) (F : Forest X) → kid g (map_f f F) ≡ map_hit f (kid g F)
  unfolding map_f kid
  kid-map g leaf = refl
  kid-map g (fork t v k n) = go (same g t) (kid-map g n)
    where
      go : (b : Bool) → kid g (map_f f n) ≡ map_hit f (kid g n) → cond b (hit (map f v) (map_f f k)) (kid g (map_f f n)) ≡ map_hit f (cond b (hit v k) (kid g n))
      go true e = refl
      go false e = e

  seek-map : (g : Level) (at : ℕ) (F : Forest X) → seek_at g at (map_f f F) ≡ seek_at g at F
  unfolding map_f seek_at
  seek-map g at leaf = refl
  seek-map g at (fork t v k n) = rw (row-map t v, units-map k, seek-map g (at + (row_units t v + units_f k)) n)

  -- what is done with a node
  on-map : {A : Type 0} (h : Hit X) (a : A) (p : List Y → Forest Y → A) (q : List X → Forest X → A) → ((v : List X) (k : Forest X) → p (map f v) (map_f f k) ≡ q v k)
      → on_hit (map_hit f h) a p ≡ on_hit h a q
  on-map miss a p q e = refl
  on-map (hit v k) a p q e = e v k

  pub child-map : (g : Level) (at : ℕ) (F : Forest X) → child_of g at (map_f f F) ≡ child_of g at F
  unfolding child_of
  child-map g at F = rw (seek-map g at F, kid-map g F) (on-map (kid g F) _ _ _ (λ v k. rw (row-map g v, units-map k)))

  -- a path
  pub nodes-map : (gs : Filter) (at : ℕ) (F : Forest X) → nodes_at gs at (map_f f F) ≡ nodes_at gs at F
  unfolding nodes_at
  nodes-map [] at F = refl
  nodes-map (g ∷ gs) at F =
      rw (seek-map g at F, kid-map g F)
      (on-map (kid g F) _ _ _ (λ v k. rw (row-map g v) (ap (λ (l : List ℕ). seek_at g at F ∷ l) (nodes-map gs (seek_at g at F + row_units g v) k))))

  pub spot-map : (gs : Filter) (at : ℕ) (F : Forest X) → spot_at gs at (map_f f F) ≡ spot_at gs at F
  unfolding spot_at
  spot-map [] at F = refl
  spot-map (g ∷ gs) at F = rw (seek-map g at F, kid-map g F) (on-map (kid g F) _ _ _ (λ v k. rw (row-map g v) (spot-map gs (seek_at g at F + row_units g v) k)))

  pub missing-map : (gs : Filter) (F : Forest X) → missing gs (map_f f F) ≡ missing gs F
  unfolding missing
  missing-map [] F = refl
  missing-map (g ∷ gs) F = rw (kid-map g F) (go (kid g F) (missing-map gs))
    where
      go : (h : Hit X) → ((k : Forest X) → missing gs (map_f f k) ≡ missing gs k) → kids_or (map_hit f h) (missing gs) (g ∷ gs) ≡ kids_or h (missing gs) (g ∷ gs)
      go miss e = refl
      go (hit v k) e = e k

-- written down raw it is the same
module _ {X : Type 0} (u : Form X) where
  each_raw : (v : List X) → each whole (map u.write v) ≡ each u.write v
  each_raw [] = refl
  each_raw (x ∷ v) = rw (whole_back (u.write x) (u.long x), each_raw v)

  bytes_raw : (F : Forest X) → unit_bytes whole (map_f u.write F) ≡ unit_bytes u.write F
  unfolding map_f unit_bytes row_bytes
  bytes_raw leaf = refl
  bytes_raw (fork t v k n) = rw (length-map, each_raw v, units-map u.write k, bytes_raw k, bytes_raw n)

  whole_raw : (v : List X) → All Whole (map u.write v)
  whole_raw [] = tt
  whole_raw (x ∷ v) = (u.long x, whole_raw v)

  fits_raw : (F : Forest X) → Fits u.Small F → Fits Whole (map_f u.write F)
  unfolding map_f
  fits_raw leaf f = leaf_fits
  fits_raw (fork t v k n) (fork_fits a b c e f g) =
      let p : length (map u.write v) < 65536 = rw length-map b in
      let q : units_f (map_f u.write k) < 65536 = rw (units-map u.write k) c in
      fork_fits a p q (whole_raw v) (fits_raw k f) (fits_raw n g)

  module _ (base : ℕ) (s : List ℕ) (d lo hi : ℕ) (F : Forest X) (w : Stands u.write u.Small base s d lo hi F) where
    map_stands : Stands whole Whole base s d lo hi (map_f u.write F)
    map_stands =
        record {
          size = rw (units-map u.write F) w.size;
          units = rw (units-map u.write F, bytes_raw F) w.units;
          marks = rw (units-map u.write F, marks-map u.write d F) w.marks;
          rows = rows-map u.write F w.rows;
          fits = fits_raw F w.fits;
        }

    pub raw_is : raw_in base s lo hi ≡ map_f u.write F
    raw_is = stands_read wholes base s d lo hi (map_f u.write F) map_stands

    pub raw_stands : RawStands base s d lo hi
    raw_stands = rw raw_is map_stands

    -- what `find_child` answers
    pub child_stands : (g : Level) (v : Result Child ℕ) → (RawStands base s d lo hi → v ≡ child_of g lo (raw_in base s lo hi)) → v ≡ child_of g lo F
    child_stands g v e = e raw_stands ∙ ap (child_of g lo) raw_is ∙ child-map u.write g lo F

  -- what is written down in a region stands there
  pub written_stands : (kind : ℕ) (s : List ℕ) (F : Forest X) → WrittenIn kind u.write F s → Rows F → Fits u.Small F
      → Stands u.write u.Small (64 + unit_room (room_at s)) s 1 0 (units_f F) F
  written_stands kind s F w r f =
      let e : 64 + unit_room (room_at s) + 0 * 16 ≡ 64 + unit_room (room_at s) = omega arith in
      record { size = sym (zero-add (units_f F)); units = rw e w.units; marks = w.marks; rows = r; fits = f }
