-- What the steps of a change do to the units and marks of a region, and that they change nothing else. Assumes nothing.
use mathlib.Core.Path.{◌≡◌, sym, ap, ◌∙◌}
use mathlib.Core.List.{List, ◌++◌, append_assoc}
use Prim.Native.Nat.{ℕ, ◌+◌, ◌-◌, ◌*◌, ◌≤◌, ◌<◌}
use native.Mathlib.Omega.{arith}
use lib.ListN.{length, take, drop, length-append, length-take, length-drop, take-append-drop}
use lib.Seq.{take_at, drop_at, drop-drop}
use Rattle.lent.specs.Numbers.{bytes}
use Rattle.lent.specs.Parts.{part, patch}
use Rattle.lent.specs.Total.{Framed, opened, closed}
use Rattle.lent.proofs.Parts.{part-eq, length_part, framed_trans, framed_before, framed_after, framed_wider}
use Rattle.lent.proofs.Digits.{length-bytes}
use Rattle.held.specs.Order.{Level}
use Rattle.region.specs.Layout.{head_bytes}
use Rattle.region.proofs.Decoded.{length_head}
use Rattle.region.specs.Forms.{Form}
use Rattle.forest.specs.Places.{unit_at}
use Rattle.change.specs.Ways.{Way, wide, downs, front}
use Rattle.room.specs.Changes.{moved, counted, belows}
use Rattle.change.specs.View.{View}
use Rattle.room.proofs.Middle.{part_mid, counted_mid}
use Rattle.change.proofs.Gaps.{inserted, inserted_framed, removed, removed_framed}
use Rattle.change.proofs.BelowLaws.{belows_front}
use Rattle.change.proofs.WayLaws.{length_front}

-- a part in the middle of a list, and that the rest stays where another as long stands in its place
module _ (b e : ℕ) (s : List ℕ) (h : b + e ≤ length s) where
  pub split_at : s ≡ take b s ++ (part b e s ++ drop (b + e) s)
  split_at =
      let p : part b e s ++ drop (b + e) s ≡ drop b s = rw (part-eq, ← drop-drop) (take-append-drop e (drop b s)) in
      sym (rw p (take-append-drop b s))

  pub replaced : (v t : List ℕ) → length v ≡ e → t ≡ take b s ++ (v ++ drop (b + e) s) → (part b e t ≡ v) × Framed b (b + e) s t
  replaced v t l f =
      let lb : length (take b s) ≡ b = rw length-take (omega arith) in
      let lv : length (take b s ++ v) ≡ b + e = rw (length-append, lb, l) in (
        rw f (part_mid (take b s) v (drop (b + e) s) b e lb l),
        record {
          front = rw f (take_at (take b s) (v ++ drop (b + e) s) b lb);
          back = rw (f, ← append_assoc (take b s) v (drop (b + e) s)) (drop_at (take b s ++ v) (drop (b + e) s) (b + e) lv);
          long = rw (f, length-append, lb, length-append, l, length-drop) (omega arith);
        },
      )

-- the units below the nodes of a way
module _ {X : Type 0} (u : Form X) (R n more less b c : ℕ) (change : b + more ≡ c + less) (w : Way X) (s z m : List ℕ)
    (v : View R s n m (front u.write w b ++ z)) (small : wide w b < 65536) where
  abbrev after : List ℕ
  after = belows more less (64 + R) (downs 0 w) s

  below_shape : after ≡ take (64 + R) s ++ ((front u.write w c ++ z) ++ drop (64 + R + n * 16) s)
  below_shape =
      let h : 64 + R + n * 16 ≤ length s = omega (arith, v.fits, v.long) in
      let e : s ≡ take (64 + R) s ++ (front u.write w b ++ (z ++ drop (64 + R + n * 16) s)) =
      split_at (64 + R) (n * 16) s h ∙ rw v.units_are (ap (λ (x : List ℕ). take (64 + R) s ++ x) (append_assoc (front u.write w b) z (drop (64 + R + n * 16) s))) in
      let l : length (take (64 + R) s) ≡ unit_at (64 + R) 0 = rw length-take (omega (arith, h)) in
      ap (belows more less (64 + R) (downs 0 w)) e
      ∙ belows_front u (64 + R) more less b c change w (take (64 + R) s) (z ++ drop (64 + R + n * 16) s) 0 l small
      ∙ sym (ap (λ (x : List ℕ). take (64 + R) s ++ x) (append_assoc (front u.write w c) z (drop (64 + R + n * 16) s)))

  same_length : length (front u.write w c ++ z) ≡ n * 16
  same_length =
      let h : 64 + R + n * 16 ≤ length s = omega (arith, v.fits, v.long) in
      rw (length-append, length_front u w c) (omega (arith, length_front u w b, ap length v.units_are, length_part (64 + R) (n * 16) s h, length-append (front u.write w b) z))

  pub view_below : View R after n m (front u.write w c ++ z)
  view_below =
      let h : 64 + R + n * 16 ≤ length s = omega (arith, v.fits, v.long) in
      let r = replaced (64 + R) (n * 16) s h (front u.write w c ++ z) after same_length below_shape in
      record {
        fits = v.fits;
        long = omega (arith, v.long, r.1.long);
        marks_are = framed_before (64 + R) (64 + R + n * 16) 64 n s after r.1 (omega (arith, v.fits)) ∙ v.marks_are;
        units_are = r.0;
      }

  pub framed_below : Framed 64 (64 + 17 * R) s after
  framed_below =
      let h : 64 + R + n * 16 ≤ length s = omega (arith, v.fits, v.long) in
      let r = replaced (64 + R) (n * 16) s h (front u.write w c ++ z) after same_length below_shape in
      framed_wider (64 + R) (64 + R + n * 16) 64 (64 + 17 * R) s after r.1 (omega arith) (omega (arith, v.fits))

-- units r and marks q put between those before unit `at` and those from it on
module _ (R n at c : ℕ) (s mx my ux uy q r : List ℕ) (v : View R s n (mx ++ my) (ux ++ uy))
    (lm : length mx ≡ at) (lu : length ux ≡ at * 16) (lq : length q ≡ c) (lr : length r ≡ c * 16) (room : n + c ≤ R) where
  abbrev mid : List ℕ
  mid = patch (unit_at (64 + R) at) r (opened (unit_at (64 + R) at) (unit_at (64 + R) n) (c * 16) s)

  abbrev done : List ℕ
  done = patch (64 + at) q (opened (64 + at) (64 + n) c mid)

  mid_is : mid ≡ patch (64 + R + length ux) r (opened (64 + R + length ux) (64 + R + n * 16) (length r) s)
  mid_is = rw (lu, lr)

  within : 64 + R + n * 16 ≤ length s
  within = omega (arith, v.fits, v.long)

  units_room : 64 + R + n * 16 + length r ≤ length s
  units_room = omega (arith, lr, v.long, room)

  mid_framed : Framed (64 + R) (64 + R + n * 16 + length r) s mid
  mid_framed = inserted_framed (64 + R) (n * 16) s ux uy v.units_are within r mid units_room mid_is

  mid_units : part (64 + R) (n * 16 + length r) mid ≡ ux ++ (r ++ uy)
  mid_units = inserted (64 + R) (n * 16) s ux uy v.units_are within r mid units_room mid_is

  mid_marks : part 64 n mid ≡ mx ++ my
  mid_marks = framed_before (64 + R) (64 + R + n * 16 + length r) 64 n s mid mid_framed (omega (arith, v.fits)) ∙ v.marks_are

  done_is : done ≡ patch (64 + length mx) q (opened (64 + length mx) (64 + n) (length q) mid)
  done_is = rw (lm, lq)

  marks-within : 64 + n ≤ length mid
  marks-within = omega (arith, v.fits, v.long, mid_framed.long)

  marks_room : 64 + n + length q ≤ length mid
  marks_room = omega (arith, lq, room, v.long, mid_framed.long)

  done_framed : Framed 64 (64 + n + length q) mid done
  done_framed = inserted_framed 64 n mid mx my mid_marks marks-within q done marks_room done_is

  pub view-put : View R done (n + c) (mx ++ (q ++ my)) (ux ++ (r ++ uy))
  view-put =
      let e : (n + c) * 16 ≡ n * 16 + length r = omega (arith, lr) in
      let f : n + c ≡ n + length q = omega (arith, lq) in
      record {
        fits = room;
        long = omega (arith, v.long, mid_framed.long, done_framed.long);
        marks_are = rw f (inserted 64 n mid mx my mid_marks marks-within q done marks_room done_is);
        units_are = rw e (framed_after 64 (64 + n + length q) (64 + R) (n * 16 + length r) mid done done_framed (omega (arith, lq, room)) ∙ mid_units);
      }

  pub framed-put : Framed 64 (64 + 17 * R) s done
  framed-put =
      framed_trans 64 (64 + 17 * R) s mid done
      (framed_wider (64 + R) (64 + R + n * 16 + length r) 64 (64 + 17 * R) s mid mid_framed (omega arith) (omega (arith, lr, room)))
      (framed_wider 64 (64 + n + length q) 64 (64 + 17 * R) mid done done_framed (omega arith) (omega (arith, lq, room)))

-- units r and marks q taken away from unit `at` on
module _ (R n at c : ℕ) (s mx q my ux r uy : List ℕ) (v : View R s n (mx ++ (q ++ my)) (ux ++ (r ++ uy)))
    (lm : length mx ≡ at) (lu : length ux ≡ at * 16) (lq : length q ≡ c) (lr : length r ≡ c * 16) where
  abbrev half : List ℕ
  half = closed (unit_at (64 + R) at) (unit_at (64 + R) (n - c)) (c * 16) s

  abbrev less : List ℕ
  less = closed (64 + at) (64 + (n - c)) c half

  held-in : 64 + R + n * 16 ≤ length s
  held-in = omega (arith, v.fits, v.long)

  enough : c ≤ n
  enough =
      let a : n ≡ length mx + (length q + length my) =
      sym (length_part 64 n s (omega (arith, v.fits, v.long))) ∙ ap length v.marks_are ∙ rw (length-append, length-append) in
      omega (arith, a, lq)

  half_is : half ≡ closed (64 + R + length ux) (64 + R + n * 16 - length r) (length r) s
  half_is =
      let z : unit_at (64 + R) (n - c) ≡ 64 + R + n * 16 - c * 16 = omega (arith, enough) in
      rw (z, lu, lr)

  half_framed : Framed (64 + R) (64 + R + n * 16) s half
  half_framed = removed_framed (64 + R) (n * 16) s ux r uy v.units_are held-in half half_is

  half_marks : part 64 n half ≡ mx ++ (q ++ my)
  half_marks = framed_before (64 + R) (64 + R + n * 16) 64 n s half half_framed (omega (arith, v.fits)) ∙ v.marks_are

  less_is : less ≡ closed (64 + length mx) (64 + n - length q) (length q) half
  less_is =
      let z : 64 + (n - c) ≡ 64 + n - c = omega (arith, enough) in
      rw (z, lm, lq)

  marks_in : 64 + n ≤ length half
  marks_in = omega (arith, v.fits, v.long, half_framed.long)

  less_framed : Framed 64 (64 + n) half less
  less_framed = removed_framed 64 n half mx q my half_marks marks_in less less_is

  pub view_cut : View R less (n - c) (mx ++ my) (ux ++ uy)
  view_cut =
      let e : (n - c) * 16 ≡ n * 16 - length r = omega (arith, lr, enough) in
      let f : n - c ≡ n - length q = omega (arith, lq) in
      record {
        fits = omega (arith, v.fits);
        long = omega (arith, v.long, half_framed.long, less_framed.long);
        marks_are = ap (λ (x : ℕ). part 64 x less) f ∙ removed 64 n half mx q my half_marks marks_in less less_is;
        units_are =
            ap (λ (x : ℕ). part (64 + R) x less) e
            ∙ framed_after 64 (64 + n) (64 + R) (n * 16 - length r) half less less_framed (omega (arith, v.fits))
            ∙ removed (64 + R) (n * 16) s ux r uy v.units_are held-in half half_is;
      }

  pub framed_cut : Framed 64 (64 + 17 * R) s less
  framed_cut =
      framed_trans 64 (64 + 17 * R) s half less
      (framed_wider (64 + R) (64 + R + n * 16) 64 (64 + 17 * R) s half half_framed (omega arith) (omega (arith, v.fits)))
      (framed_wider 64 (64 + n) 64 (64 + 17 * R) half less less_framed (omega arith) (omega (arith, v.fits)))

-- the number of units that a row has of its own
module _ {X : Type 0} (u : Form X) (R n more less o : ℕ) (s m a z : List ℕ) (t : Level) (below i : ℕ)
    (v : View R s n m (a ++ (head_bytes t o below ++ z))) (at : length a ≡ i * 16) (small : o < 65536) where
  abbrev told : List ℕ
  told = counted (unit_at (64 + R) i + 2) more less s

  abbrev lead : List ℕ
  lead = take (64 + R) s ++ (a ++ bytes 2 (length t))

  abbrev rest : List ℕ
  rest = bytes 2 below ++ (bytes 2 0 ++ (z ++ drop (64 + R + n * 16) s))

  in_region : 64 + R + n * 16 ≤ length s
  in_region = omega (arith, v.fits, v.long)

  shape : (x : ℕ) → take (64 + R) s ++ ((a ++ (head_bytes t x below ++ z)) ++ drop (64 + R + n * 16) s) ≡ lead ++ (bytes 2 x ++ rest)
  unfolding head_bytes
  shape x = simp append_assoc

  lead_long : length lead ≡ unit_at (64 + R) i + 2
  lead_long = rw (length-append, length-take, length-append, length-bytes) (omega (arith, in_region, at))

  told_is : told ≡ take (64 + R) s ++ ((a ++ (head_bytes t (moved more less o) below ++ z)) ++ drop (64 + R + n * 16) s)
  told_is =
      let e : s ≡ lead ++ (bytes 2 o ++ rest) = split_at (64 + R) (n * 16) s in_region ∙ rw v.units_are (shape o) in
      ap (counted (unit_at (64 + R) i + 2) more less) e
      ∙ counted_mid more less o lead rest (unit_at (64 + R) i + 2) lead_long small
      ∙ sym (shape (moved more less o))

  long_is : length (a ++ (head_bytes t (moved more less o) below ++ z)) ≡ n * 16
  long_is =
      let l : n * 16 ≡ length (a ++ (head_bytes t o below ++ z)) = sym (length_part (64 + R) (n * 16) s in_region) ∙ ap length v.units_are in
      rw (length-append, length-append, length_head) (sym (rw (length-append, length-append, length_head) at l))

  pub view_own : View R told n m (a ++ (head_bytes t (moved more less o) below ++ z))
  view_own =
      let r = replaced (64 + R) (n * 16) s in_region (a ++ (head_bytes t (moved more less o) below ++ z)) told long_is told_is in
      record {
        fits = v.fits;
        long = omega (arith, v.long, r.1.long);
        marks_are = framed_before (64 + R) (64 + R + n * 16) 64 n s told r.1 (omega (arith, v.fits)) ∙ v.marks_are;
        units_are = r.0;
      }

  pub framed_own : Framed 64 (64 + 17 * R) s told
  framed_own =
      let r = replaced (64 + R) (n * 16) s in_region (a ++ (head_bytes t (moved more less o) below ++ z)) told long_is told_is in
      framed_wider (64 + R) (64 + R + n * 16) 64 (64 + 17 * R) s told r.1 (omega arith) (omega (arith, v.fits))
