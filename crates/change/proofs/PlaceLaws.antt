-- The four changes at a place, in the units and marks of a region: new nodes, a unit more, a unit less, nodes taken away.
-- Assumes nothing.
use mathlib.Core.Path.{◌≡◌, refl, sym, ap, ◌∙◌}
use mathlib.Core.List.{List, [], ◌∷◌, ◌++◌, append_assoc}
use Prim.Native.Nat.{ℕ, zero, suc, ◌+◌, ◌-◌, ◌*◌, ◌≤◌, ◌<◌}
use native.Mathlib.Omega.{arith}
use native.Mathlib.Nat.{add_comm, zero-add}
use lib.ListN.{length, replicate, length-append, length-replicate}
use Rattle.lent.specs.Total.{Framed}
use Rattle.lent.proofs.Parts.{framed_trans}
use Rattle.held.specs.Order.{Level, Filter}
use Rattle.held.specs.Bytes.{each}
use Rattle.held.specs.Forest.{Forest, leaf, fork}
use Rattle.region.specs.Layout.{level_units, units_f, head_bytes, level_bytes, row_bytes, unit_bytes, marks_of}
use Rattle.region.specs.Forms.{Form}
use Rattle.region.proofs.Decoded.{length_head, length_level, length-each, length_units}
use Rattle.forest.specs.Places.{unit_at}
use Rattle.forest.proofs.StandsLaws.{fork_units, length_marks}
use Rattle.change.specs.Ways.{Way, plug, wide, ahead, downs, front, behind, deep, mark_front, mark_behind}
use Rattle.change.specs.Reach.{grow_here}
use Rattle.room.specs.Runs.{run_units, run_bytes, run_marks}
use Rattle.room.specs.Changes.{moved, counted, belows, made_run, between, put_unit, taken_run, cut_unit}
use Rattle.change.specs.View.{View}
use Rattle.change.proofs.WayLaws.{units_plug, wide_add, length_front, bytes_plug, length_mark_front, marks_plug}
use Rattle.room.proofs.RunLaws.{length_run, length-run_marks}
use Rattle.change.proofs.ChainLaws.{fork-bytes, fork_marks, fork-split, marks-split, units-split, before_units, before-bytes, before_marks}
use Rattle.change.proofs.ViewLaws.{view_below, framed_below, view-put, framed-put, view_cut, framed_cut, view_own, framed_own}

-- the same region, with its units and marks in other words
pub view_as : {R n m : ℕ} {s a b x y : List ℕ} → n ≡ m → a ≡ b → x ≡ y → View R s n a x → View R s m b y
view_as p q r v = record {
  fits = rw (← p) v.fits;
  long = v.long;
  marks_are = rw (← p, ← q) v.marks_are;
  units_are = rw (← p, ← r) v.units_are;
}

-- a forest in a region, seen from a place
module _ {X : Type 0} (u : Form X) (R : ℕ) (w : Way X) where
  pub view_from : (s : List ℕ) (G : Forest X) → View R s (units_f (plug w G)) (marks_of 1 (plug w G)) (unit_bytes u.write (plug w G))
      → View R s (wide w (units_f G)) (mark_front 1 w ++ (marks_of (deep 1 w) G ++ mark_behind 1 w)) (front u.write w (units_f G) ++ (unit_bytes u.write G ++ behind u.write w))
  view_from s G v = view_as (units_plug w G) (marks_plug 1 w G) (bytes_plug u w G) v

  pub view_to : (s : List ℕ) (G : Forest X) → View R s (wide w (units_f G)) (mark_front 1 w ++ (marks_of (deep 1 w) G ++ mark_behind 1 w)) (front u.write w (units_f G) ++ (unit_bytes u.write G ++ behind u.write w))
      → View R s (units_f (plug w G)) (marks_of 1 (plug w G)) (unit_bytes u.write (plug w G))
  view_to s G v = view_as (sym (units_plug w G)) (sym (marks_plug 1 w G)) (sym (bytes_plug u w G)) v

-- new nodes
module _ {X : Type 0} (u : Form X) (R : ℕ) (w : Way X) (s : List ℕ) (G : Forest X) (v : View R s (units_f (plug w G)) (marks_of 1 (plug w G)) (unit_bytes u.write (plug w G)))
    (small : wide w (units_f G) < 65536) (e : List X → List X) (y : X) (one : e [] ≡ y ∷ []) (g : Level) (gs : Filter)
    (room : wide w (units_f G) + run_units (g ∷ gs) ≤ R) where
  abbrev run_added : List ℕ
  run_added = made_run (64 + R) (wide w (units_f G)) (downs 0 w) (ahead w) (deep 1 w) (u.write y) (g ∷ gs) (run_units (g ∷ gs)) s

  first : View R (belows (run_units (g ∷ gs)) 0 (64 + R) (downs 0 w) s) (wide w (units_f G)) (mark_front 1 w ++ (marks_of (deep 1 w) G ++ mark_behind 1 w))
      (front u.write w (units_f G + run_units (g ∷ gs)) ++ (unit_bytes u.write G ++ behind u.write w))
  first =
      view_below u R (wide w (units_f G)) (run_units (g ∷ gs)) 0 (units_f G) (units_f G + run_units (g ∷ gs)) (omega arith) w s
      (unit_bytes u.write G ++ behind u.write w) (mark_front 1 w ++ (marks_of (deep 1 w) G ++ mark_behind 1 w)) (view_from u R w s G v) small

  second : View R run_added (wide w (units_f G) + run_units (g ∷ gs))
      (mark_front 1 w ++ (run_marks (deep 1 w) (g ∷ gs) ++ (marks_of (deep 1 w) G ++ mark_behind 1 w)))
      (front u.write w (units_f G + run_units (g ∷ gs)) ++ (run_bytes (u.write y) (g ∷ gs) ++ (unit_bytes u.write G ++ behind u.write w)))
  unfolding made_run
  second =
      view-put R (wide w (units_f G)) (ahead w) (run_units (g ∷ gs)) (belows (run_units (g ∷ gs)) 0 (64 + R) (downs 0 w) s)
      (mark_front 1 w) (marks_of (deep 1 w) G ++ mark_behind 1 w) (front u.write w (units_f G + run_units (g ∷ gs))) (unit_bytes u.write G ++ behind u.write w)
      (run_marks (deep 1 w) (g ∷ gs)) (run_bytes (u.write y) (g ∷ gs)) first (length_mark_front 1 w)
      (length_front u w (units_f G + run_units (g ∷ gs))) (length-run_marks (deep 1 w) (g ∷ gs)) (length_run (u.write y) (g ∷ gs) (u.long y)) room

  pub chain_view : View R run_added (units_f (plug w (grow_here e (g ∷ gs) G))) (marks_of 1 (plug w (grow_here e (g ∷ gs) G))) (unit_bytes u.write (plug w (grow_here e (g ∷ gs) G)))
  chain_view =
      let k : units_f (grow_here e (g ∷ gs) G) ≡ units_f G + run_units (g ∷ gs) = before_units e y one g gs G ∙ omega arith in
      view_to u R w run_added (grow_here e (g ∷ gs) G)
      (view_as (sym (rw k (wide_add w (units_f G) (run_units (g ∷ gs)))))
      (rw (before_marks e y one g gs G (deep 1 w)) (simp append_assoc))
      (rw (k, before-bytes e y one g gs G u.write) (simp append_assoc))
      second)

  pub chain_framed : Framed 64 (64 + 17 * R) s run_added
  unfolding made_run
  chain_framed =
      framed_trans 64 (64 + 17 * R) s (belows (run_units (g ∷ gs)) 0 (64 + R) (downs 0 w) s) run_added
      (framed_below u R (wide w (units_f G)) (run_units (g ∷ gs)) 0 (units_f G) (units_f G + run_units (g ∷ gs)) (omega arith) w s
      (unit_bytes u.write G ++ behind u.write w) (mark_front 1 w ++ (marks_of (deep 1 w) G ++ mark_behind 1 w)) (view_from u R w s G v) small)
      (framed-put R (wide w (units_f G)) (ahead w) (run_units (g ∷ gs)) (belows (run_units (g ∷ gs)) 0 (64 + R) (downs 0 w) s)
      (mark_front 1 w) (marks_of (deep 1 w) G ++ mark_behind 1 w) (front u.write w (units_f G + run_units (g ∷ gs))) (unit_bytes u.write G ++ behind u.write w)
      (run_marks (deep 1 w) (g ∷ gs)) (run_bytes (u.write y) (g ∷ gs)) first (length_mark_front 1 w)
      (length_front u w (units_f G + run_units (g ∷ gs))) (length-run_marks (deep 1 w) (g ∷ gs)) (length_run (u.write y) (g ∷ gs) (u.long y)) room)

-- nodes taken away: a node with all below it, in front of the rest of its row
module _ {X : Type 0} (u : Form X) (R : ℕ) (w : Way X) (s : List ℕ) (t : Level) (o : List X) (k n : Forest X)
    (v : View R s (units_f (plug w (fork t o k n))) (marks_of 1 (plug w (fork t o k n))) (unit_bytes u.write (plug w (fork t o k n))))
    (small : wide w (units_f (fork t o k n)) < 65536) where
  abbrev gone : ℕ
  gone = units_f (fork t o k leaf)

  abbrev run-gone : List ℕ
  run-gone = taken_run (64 + R) (wide w (units_f (fork t o k n))) (downs 0 w) (ahead w) gone s

  lowered : View R (belows 0 gone (64 + R) (downs 0 w) s) (wide w (units_f (fork t o k n)))
      (mark_front 1 w ++ (marks_of (deep 1 w) (fork t o k n) ++ mark_behind 1 w))
      (front u.write w (units_f n) ++ (unit_bytes u.write (fork t o k n) ++ behind u.write w))
  lowered =
      view_below u R (wide w (units_f (fork t o k n))) 0 gone (units_f (fork t o k n)) (units_f n) (omega (arith, units-split t o k n)) w s
      (unit_bytes u.write (fork t o k n) ++ behind u.write w) (mark_front 1 w ++ (marks_of (deep 1 w) (fork t o k n) ++ mark_behind 1 w)) (view_from u R w s (fork t o k n) v) small

  parted : View R (belows 0 gone (64 + R) (downs 0 w) s) (wide w (units_f (fork t o k n)))
      (mark_front 1 w ++ (marks_of (deep 1 w) (fork t o k leaf) ++ (marks_of (deep 1 w) n ++ mark_behind 1 w)))
      (front u.write w (units_f n) ++ (unit_bytes u.write (fork t o k leaf) ++ (unit_bytes u.write n ++ behind u.write w)))
  parted =
      view_as refl
      (ap (λ (x : List ℕ). mark_front 1 w ++ x) (rw (marks-split (deep 1 w) t o k n) (append_assoc (marks_of (deep 1 w) (fork t o k leaf)) (marks_of (deep 1 w) n) (mark_behind 1 w))))
      (ap (λ (x : List ℕ). front u.write w (units_f n) ++ x) (rw (fork-split u.write t o k n) (append_assoc (unit_bytes u.write (fork t o k leaf)) (unit_bytes u.write n) (behind u.write w))))
      lowered

  pub taken_view : View R run-gone (units_f (plug w n)) (marks_of 1 (plug w n)) (unit_bytes u.write (plug w n))
  unfolding taken_run
  taken_view =
      let d : wide w (units_f (fork t o k n)) - gone ≡ wide w (units_f n) =
      omega (arith, ap (wide w) (units-split t o k n), ap (wide w) (add_comm gone (units_f n)), wide_add w (units_f n) gone) in
      view_to u R w run-gone n
      (view_as d refl refl
      (view_cut R (wide w (units_f (fork t o k n))) (ahead w) gone (belows 0 gone (64 + R) (downs 0 w) s)
      (mark_front 1 w) (marks_of (deep 1 w) (fork t o k leaf)) (marks_of (deep 1 w) n ++ mark_behind 1 w)
      (front u.write w (units_f n)) (unit_bytes u.write (fork t o k leaf)) (unit_bytes u.write n ++ behind u.write w) parted
      (length_mark_front 1 w) (length_front u w (units_f n)) (length_marks (deep 1 w) (fork t o k leaf)) (length_units u (fork t o k leaf))))

  pub taken_framed : Framed 64 (64 + 17 * R) s run-gone
  unfolding taken_run
  taken_framed =
      framed_trans 64 (64 + 17 * R) s (belows 0 gone (64 + R) (downs 0 w) s) run-gone
      (framed_below u R (wide w (units_f (fork t o k n))) 0 gone (units_f (fork t o k n)) (units_f n) (omega (arith, units-split t o k n)) w s
      (unit_bytes u.write (fork t o k n) ++ behind u.write w) (mark_front 1 w ++ (marks_of (deep 1 w) (fork t o k n) ++ mark_behind 1 w)) (view_from u R w s (fork t o k n) v) small)
      (framed_cut R (wide w (units_f (fork t o k n))) (ahead w) gone (belows 0 gone (64 + R) (downs 0 w) s)
      (mark_front 1 w) (marks_of (deep 1 w) (fork t o k leaf)) (marks_of (deep 1 w) n ++ mark_behind 1 w)
      (front u.write w (units_f n)) (unit_bytes u.write (fork t o k leaf)) (unit_bytes u.write n ++ behind u.write w) parted
      (length_mark_front 1 w) (length_front u w (units_f n)) (length_marks (deep 1 w) (fork t o k leaf)) (length_units u (fork t o k leaf)))

-- the row of a node that holds a and then b
each_append : {X : Type 0} (f : X → List ℕ) (a b : List X) → each f (a ++ b) ≡ each f a ++ each f b
each_append f [] b = refl
each_append f (x ∷ a) b = rw (each_append f a b) (sym (append_assoc (f x) (each f a) (each f b)))

replicate_add : (m n x : ℕ) → replicate (m + n) x ≡ replicate m x ++ replicate n x
replicate_add zero n x = rw zero-add
replicate_add (suc m) n x =
    let z : suc m + n ≡ suc (m + n) = omega arith in
    rw z (ap (λ (l : List ℕ). x ∷ l) (replicate_add m n x))

module _ {X : Type 0} (u : Form X) (w : Way X) (t : Level) (a b : List X) (k n : Forest X) where
  abbrev pub lead : ℕ → ℕ → List ℕ
  lead c own = front u.write w c ++ (head_bytes t own (units_f k) ++ (level_bytes t ++ each u.write a))

  abbrev pub trail : List ℕ
  trail = each u.write b ++ ((unit_bytes u.write k ++ unit_bytes u.write n) ++ behind u.write w)

  abbrev mark_lead : List ℕ
  mark_lead = mark_front 1 w ++ (deep 1 w ∷ replicate (level_units t - 1 + length a) 255)

  abbrev mark_trail : List ℕ
  mark_trail = replicate (length b) 255 ++ ((marks_of (deep 1 w + 1) k ++ marks_of (deep 1 w) n) ++ mark_behind 1 w)

  -- with nothing, or one unit x, between a and b
  pub row-units : (c : ℕ) → front u.write w c ++ (unit_bytes u.write (fork t (a ++ b) k n) ++ behind u.write w) ≡ lead c (length (a ++ b)) ++ trail
  unfolding row_bytes
  row-units c = rw (fork-bytes u.write t (a ++ b) k n, each_append u.write a b) (simp append_assoc)

  pub row_units_with : (c : ℕ) (x : X) → front u.write w c ++ (unit_bytes u.write (fork t (a ++ (x ∷ b)) k n) ++ behind u.write w) ≡ lead c (length (a ++ (x ∷ b))) ++ (u.write x ++ trail)
  unfolding row_bytes
  row_units_with c x = rw (fork-bytes u.write t (a ++ (x ∷ b)) k n, each_append u.write a (x ∷ b)) (simp append_assoc)

  pub row-marks : mark_front 1 w ++ (marks_of (deep 1 w) (fork t (a ++ b) k n) ++ mark_behind 1 w) ≡ mark_lead ++ mark_trail
  row-marks =
      let z : level_units t + length (a ++ b) - 1 ≡ level_units t - 1 + length a + length b = rw length-append (omega arith) in
      rw (fork_marks (deep 1 w) t (a ++ b) k n, z, replicate_add (level_units t - 1 + length a) (length b) 255) (simp append_assoc)

  pub row_marks_with : (x : X) → mark_front 1 w ++ (marks_of (deep 1 w) (fork t (a ++ (x ∷ b)) k n) ++ mark_behind 1 w) ≡ mark_lead ++ ((255 ∷ []) ++ mark_trail)
  row_marks_with x =
      let z : level_units t + length (a ++ (x ∷ b)) - 1 ≡ level_units t - 1 + length a + suc (length b) = rw length-append (omega arith) in
      rw (fork_marks (deep 1 w) t (a ++ (x ∷ b)) k n, z, replicate_add (level_units t - 1 + length a) (suc (length b)) 255) (simp append_assoc)

  pub lead_long : (c own : ℕ) → length (lead c own) ≡ (ahead w + level_units t + length a) * 16
  lead_long c own = rw (length-append, length-append, length-append, length_front u w c, length_head, length-each u a) (omega (arith, length_level t))

  pub mark_long : length mark_lead ≡ ahead w + level_units t + length a
  mark_long = rw (length-append, length_mark_front 1 w, length-replicate) (omega arith)

-- one unit more: x between a and b
module _ {X : Type 0} (u : Form X) (R : ℕ) (w : Way X) (t : Level) (a b : List X) (k n : Forest X) (s : List ℕ)
    (v : View R s (units_f (plug w (fork t (a ++ b) k n))) (marks_of 1 (plug w (fork t (a ++ b) k n))) (unit_bytes u.write (plug w (fork t (a ++ b) k n))))
    (small : wide w (units_f (fork t (a ++ b) k n)) < 65536) (few : length (a ++ b) < 65536) (x : X) (room : wide w (units_f (fork t (a ++ b) k n)) + 1 ≤ R) where
  abbrev old : ℕ
  old = units_f (fork t (a ++ b) k n)

  abbrev all : ℕ
  all = wide w old

  abbrev marks : List ℕ
  marks = mark_lead u w t a b k n ++ mark_trail u w t a b k n

  abbrev at : ℕ
  at = ahead w + level_units t + length a

  abbrev s₁ : List ℕ
  s₁ = belows 1 0 (64 + R) (downs 0 w) s

  abbrev s₂ : List ℕ
  s₂ = counted (unit_at (64 + R) (ahead w) + 2) 1 0 s₁

  abbrev unit_added : List ℕ
  unit_added = put_unit (64 + R) all (downs 0 w) (ahead w) at (u.write x) s

  more-first : View R s₁ all marks (front u.write w (old + 1) ++ (head_bytes t (length (a ++ b)) (units_f k) ++ ((level_bytes t ++ each u.write a) ++ trail u w t a b k n)))
  more-first =
      view_as refl (row-marks u w t a b k n) (row-units u w t a b k n (old + 1) ∙ simp append_assoc)
      (view_below u R all 1 0 old (old + 1) (omega arith) w s
      (unit_bytes u.write (fork t (a ++ b) k n) ++ behind u.write w) (mark_front 1 w ++ (marks_of (deep 1 w) (fork t (a ++ b) k n) ++ mark_behind 1 w)) (view_from u R w s (fork t (a ++ b) k n) v) small)

  more_own : View R s₂ all marks (lead u w t a b k n (old + 1) (length (a ++ (x ∷ b))) ++ trail u w t a b k n)
  more_own =
      let z : moved 1 0 (length (a ++ b)) ≡ length (a ++ (x ∷ b)) = rw (length-append, length-append) (omega arith) in
      view_as refl refl (rw z (simp append_assoc))
      (view_own u R all 1 0 (length (a ++ b)) s₁ marks (front u.write w (old + 1)) ((level_bytes t ++ each u.write a) ++ trail u w t a b k n) t (units_f k) (ahead w)
      more-first (length_front u w (old + 1)) few)

  new_units : units_f (fork t (a ++ (x ∷ b)) k n) ≡ old + 1
  new_units = omega (arith, fork_units t (a ++ (x ∷ b)) k n, fork_units t (a ++ b) k n, length-append a (x ∷ b), length-append a b)

  pub unit_view : View R unit_added (units_f (plug w (fork t (a ++ (x ∷ b)) k n))) (marks_of 1 (plug w (fork t (a ++ (x ∷ b)) k n))) (unit_bytes u.write (plug w (fork t (a ++ (x ∷ b)) k n)))
  unfolding put_unit between
  unit_view =
      view_to u R w unit_added (fork t (a ++ (x ∷ b)) k n)
      (view_as (sym (ap (wide w) new_units ∙ wide_add w old 1)) (sym (row_marks_with u w t a b k n x))
      (sym (ap (λ (c : ℕ). front u.write w c ++ (unit_bytes u.write (fork t (a ++ (x ∷ b)) k n) ++ behind u.write w)) new_units ∙ row_units_with u w t a b k n (old + 1) x))
      (view-put R all at 1 s₂ (mark_lead u w t a b k n) (mark_trail u w t a b k n) (lead u w t a b k n (old + 1) (length (a ++ (x ∷ b)))) (trail u w t a b k n) (255 ∷ []) (u.write x) more_own
      (mark_long u w t a b k n) (lead_long u w t a b k n (old + 1) (length (a ++ (x ∷ b)))) refl (u.long x) room))

  pub unit_framed : Framed 64 (64 + 17 * R) s unit_added
  unfolding put_unit between
  unit_framed =
      framed_trans 64 (64 + 17 * R) s s₁ unit_added
      (framed_below u R all 1 0 old (old + 1) (omega arith) w s
      (unit_bytes u.write (fork t (a ++ b) k n) ++ behind u.write w) (mark_front 1 w ++ (marks_of (deep 1 w) (fork t (a ++ b) k n) ++ mark_behind 1 w)) (view_from u R w s (fork t (a ++ b) k n) v) small)
      (framed_trans 64 (64 + 17 * R) s₁ s₂ unit_added
      (framed_own u R all 1 0 (length (a ++ b)) s₁ marks (front u.write w (old + 1)) ((level_bytes t ++ each u.write a) ++ trail u w t a b k n) t (units_f k) (ahead w)
      more-first (length_front u w (old + 1)) few)
      (framed-put R all at 1 s₂ (mark_lead u w t a b k n) (mark_trail u w t a b k n) (lead u w t a b k n (old + 1) (length (a ++ (x ∷ b)))) (trail u w t a b k n) (255 ∷ []) (u.write x) more_own
      (mark_long u w t a b k n) (lead_long u w t a b k n (old + 1) (length (a ++ (x ∷ b)))) refl (u.long x) room))

-- one unit less: x from between a and b
module _ {X : Type 0} (u : Form X) (R : ℕ) (w : Way X) (t : Level) (a : List X) (x : X) (b : List X) (k n : Forest X) (s : List ℕ)
    (v : View R s (units_f (plug w (fork t (a ++ (x ∷ b)) k n))) (marks_of 1 (plug w (fork t (a ++ (x ∷ b)) k n))) (unit_bytes u.write (plug w (fork t (a ++ (x ∷ b)) k n))))
    (small : wide w (units_f (fork t (a ++ (x ∷ b)) k n)) < 65536) (few : length (a ++ (x ∷ b)) < 65536) where
  abbrev had : ℕ
  had = units_f (fork t (a ++ (x ∷ b)) k n)

  abbrev left : ℕ
  left = units_f (fork t (a ++ b) k n)

  abbrev spot : ℕ
  spot = ahead w + level_units t + length a

  abbrev seen : List ℕ
  seen = mark_lead u w t a b k n ++ ((255 ∷ []) ++ mark_trail u w t a b k n)

  abbrev u₁ : List ℕ
  u₁ = counted (unit_at (64 + R) (ahead w) + 2) 0 1 s

  abbrev u₂ : List ℕ
  u₂ = belows 0 1 (64 + R) (downs 0 w) u₁

  abbrev unit_cut : List ℕ
  unit_cut = cut_unit (64 + R) (wide w had) (downs 0 w) (ahead w) spot s

  abbrev rest : List ℕ
  rest = (level_bytes t ++ each u.write a) ++ (u.write x ++ trail u w t a b k n)

  fewer : had ≡ left + 1
  fewer = omega (arith, fork_units t (a ++ (x ∷ b)) k n, fork_units t (a ++ b) k n, length-append a (x ∷ b), length-append a b)

  less_start : View R s (wide w had) seen (front u.write w had ++ (head_bytes t (length (a ++ (x ∷ b))) (units_f k) ++ rest))
  less_start =
      view_as refl (row_marks_with u w t a b k n x) (row_units_with u w t a b k n had x ∙ simp append_assoc)
      (view_from u R w s (fork t (a ++ (x ∷ b)) k n) v)

  less_own : View R u₁ (wide w had) seen (front u.write w had ++ (head_bytes t (length (a ++ b)) (units_f k) ++ rest))
  less_own =
      let z : moved 0 1 (length (a ++ (x ∷ b))) ≡ length (a ++ b) = rw (length-append, length-append) (omega arith) in
      view_as refl refl (rw z)
      (view_own u R (wide w had) 0 1 (length (a ++ (x ∷ b))) s seen (front u.write w had) rest t (units_f k) (ahead w) less_start (length_front u w had) few)

  less_below : View R u₂ (wide w had) seen (lead u w t a b k n left (length (a ++ b)) ++ (u.write x ++ trail u w t a b k n))
  less_below =
      view_as refl refl (simp append_assoc)
      (view_below u R (wide w had) 0 1 had left (omega (arith, fewer)) w u₁ (head_bytes t (length (a ++ b)) (units_f k) ++ rest) seen less_own small)

  pub less_view : View R unit_cut (units_f (plug w (fork t (a ++ b) k n))) (marks_of 1 (plug w (fork t (a ++ b) k n))) (unit_bytes u.write (plug w (fork t (a ++ b) k n)))
  unfolding cut_unit taken_run
  less_view =
      let d : wide w had - 1 ≡ wide w left = omega (arith, ap (wide w) fewer, wide_add w left 1) in
      view_to u R w unit_cut (fork t (a ++ b) k n)
      (view_as d (sym (row-marks u w t a b k n)) (sym (row-units u w t a b k n left))
      (view_cut R (wide w had) spot 1 u₂ (mark_lead u w t a b k n) (255 ∷ []) (mark_trail u w t a b k n) (lead u w t a b k n left (length (a ++ b))) (u.write x) (trail u w t a b k n) less_below
      (mark_long u w t a b k n) (lead_long u w t a b k n left (length (a ++ b))) refl (u.long x)))

  pub less_framed : Framed 64 (64 + 17 * R) s unit_cut
  unfolding cut_unit taken_run
  less_framed =
      framed_trans 64 (64 + 17 * R) s u₁ unit_cut
      (framed_own u R (wide w had) 0 1 (length (a ++ (x ∷ b))) s seen (front u.write w had) rest t (units_f k) (ahead w) less_start (length_front u w had) few)
      (framed_trans 64 (64 + 17 * R) u₁ u₂ unit_cut
      (framed_below u R (wide w had) 0 1 had left (omega (arith, fewer)) w u₁ (head_bytes t (length (a ++ b)) (units_f k) ++ rest) seen less_own small)
      (framed_cut R (wide w had) spot 1 u₂ (mark_lead u w t a b k n) (255 ∷ []) (mark_trail u w t a b k n) (lead u w t a b k n left (length (a ++ b))) (u.write x) (trail u w t a b k n) less_below
      (mark_long u w t a b k n) (lead_long u w t a b k n left (length (a ++ b))) refl (u.long x)))
