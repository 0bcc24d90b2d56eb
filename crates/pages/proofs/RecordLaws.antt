-- A record of a lookup, written piece by piece, and a node's own. Assumes nothing.
use Rattle.std.specs.Prelude.{None, Option, Some}
use mathlib.Core.Path.{◌≡◌, refl, sym, ap, ◌∙◌}
use mathlib.Core.Bool.{Bool, true, false}
use mathlib.Core.List.{List, [], ◌∷◌, ◌++◌, append_assoc}
use Prim.Native.Nat.{ℕ, ◌+◌, ◌-◌, ◌*◌, ◌≤◌, ◌<◌}
use native.Mathlib.Nat.{add-zero}
use native.Mathlib.Omega.{arith}
use lib.ListN.{length, length-append}
use Rattle.lent.specs.Numbers.{bytes, be}
use Rattle.lent.specs.Parts.{part, patch}
use Rattle.lent.specs.Total.{read, write}
use Rattle.lent.proofs.Parts.{part-part, length-patch, patch-append}
use Rattle.lent.proofs.Digits.{length-bytes}
use Rattle.lent.proofs.Anywhere.{read_in, write_in}
use Rattle.level.specs.Levels.{join, width}
use Rattle.level.specs.Places.{levels_at}
use Rattle.topic.specs.Match.{takes}
use Rattle.held.specs.Order.{Filter}
use Rattle.held.specs.Retained.{Stored, left, name_record}
use Rattle.held.specs.Stream.{in_page}
use Rattle.region.specs.Units.{stored_of}
use Rattle.forest.specs.Places.{unit_at}
use Rattle.walk.proofs.Widths.{length-join}
use Rattle.listing.specs.Trails.{slashed}
use Rattle.listing.proofs.Trails.{length-slashed}
use Rattle.listing.proofs.RecordLaws.{wrote_none, wrote_then, overwritten}
use Rattle.lookup.specs.declared.Query.{Query}
use Rattle.lookup.specs.Lives.{life_of}
use Rattle.lookup.proofs.OwnLaws.{one-held, none-held, over_is, left_is, length_name, own_empty, own_unasked, own-asked, own-expired, own-counted, own-paged, own_unpaged}
use Rattle.pages.specs.declared.Spot.{Spot}
use Rattle.pages.specs.Written.{RecordWritten, Given, LiveWritten, OwnWritten}

-- a path's levels, each with a '/' after it, are its text with a '/' after it
slashed_own : (p : Filter) (n : ℕ) → width p ≡ n + 1 → slashed p ≡ join p ++ 47 ∷ []
unfolding slashed
slashed_own [] n h = absurd (omega (arith, h))
slashed_own (l ∷ []) n h = refl
slashed_own (l ∷ m ∷ p) n h = rw (slashed_own (m ∷ p) (length m + width p) (omega arith)) (sym (append_assoc l (47 ∷ join (m ∷ p)) (47 ∷ [])))

-- the pieces of a record
module _ (base : ℕ) (s : List ℕ) (unit : ℕ) (p : Filter) (text ms : ℕ) (wide : width p ≡ text + 1) (old : List ℕ) (at : ℕ) (in-room : at ≤ length old) where
  text_long : length (join p) ≡ text
  text_long = length-join p ∙ omega (arith, wide)

  name_long : (clock : ℕ) (x : Stored) → length (name_record clock (p, x)) ≡ 16 + text
  name_long clock x = length_name clock p x ∙ omega (arith, text_long)

  pub record_short : length old - at < 16 + text → RecordWritten base s unit p ms old old at at
  record_short h =
      record {
        within = in-room;
        is = λ clock x e f.
            record {
              stored = λ r. absurd (omega (arith, h, r, name_long clock x));
              place = λ r. absurd (omega (arith, h, r, name_long clock x));
            };
      }

  module _ (room : 16 + text ≤ length old - at) (stands : unit_at base unit + 16 ≤ length s) (handle : ℕ) (is : handle ≡ read 4 (base + unit * 16) s)
      {o1 o2 o3 : List ℕ} (e1 : o1 ≡ patch (at + 4) (slashed p) (patch at (82 ∷ 86 ∷ bytes 2 text) old)) (e2 : o2 ≡ write (at + 4 + text) (bytes 4 handle) o1) (e3 : o3 ≡ write (at + 4 + text + 4) (bytes 8 ms) o2) where
    abbrev front : List ℕ
    front = 82 ∷ 86 ∷ bytes 2 text

    abbrev back : List ℕ
    back = bytes 4 handle ++ bytes 8 ms

    front_long : length front ≡ 4
    front_long = rw length-bytes

    back_long : length back ≡ 12
    back_long = rw (length-append, length-bytes 4 handle, length-bytes 8 ms)

    begun_long : length (patch at front old) ≡ length old
    begun_long = length-patch at front old (omega (arith, front_long, room, in-room))

    named_long : length o1 ≡ length old
    named_long = ap length e1 ∙ length-patch (at + 4) (slashed p) (patch at front old) (omega (arith, begun_long, length-slashed p, wide, room, in-room)) ∙ begun_long

    -- the handle and the time left, over the last '/'
    numbers : o3 ≡ patch (at + 4 + text) back o1
    numbers =
        let f2 : o2 ≡ patch (at + 4 + text) (bytes 4 handle) o1 = e2 ∙ write_in (at + 4 + text) (bytes 4 handle) o1 (rw length-bytes (omega (arith, named_long, room, in-room))) in
        let l2 : length o2 ≡ length o1 = ap length f2 ∙ length-patch (at + 4 + text) (bytes 4 handle) o1 (rw length-bytes (omega (arith, named_long, room, in-room))) in
        let f3 : o3 ≡ patch (at + 4 + text + 4) (bytes 8 ms) o2 = e3 ∙ write_in (at + 4 + text + 4) (bytes 8 ms) o2 (rw length-bytes (omega (arith, l2, named_long, room, in-room))) in
        let z : at + 4 + text + 4 ≡ at + 4 + text + length (bytes 4 handle) = rw length-bytes in
        f3 ∙ rw (z, f2) (patch-append (at + 4 + text) (bytes 4 handle) (bytes 8 ms) o1 (rw (length-bytes 4 handle, length-bytes 8 ms) (omega (arith, named_long, room, in-room))))

    pieces : o3 ≡ patch at (82 ∷ 86 ∷ (bytes 2 text ++ (join p ++ back))) old
    pieces =
        let a : at + 4 + text ≡ at + 4 + length (join p) = omega (arith, text_long) in
        let b : at + 4 ≡ at + length front = omega (arith, front_long) in
        let c : o1 ≡ patch (at + 4) (join p ++ 47 ∷ []) (patch at front old) = e1 ∙ ap (λ (w : List ℕ). patch (at + 4) w (patch at front old)) (slashed_own p text wide) in
        let w : o3 ≡ patch (at + 4) (join p ++ back) (patch at front old) =
        numbers ∙ rw (a, c) (overwritten (at + 4) (join p) (47 ∷ []) back (patch at front old) (omega (arith, back_long)) (omega (arith, begun_long, text_long, back_long, room, in-room))) in
        w ∙ rw b (patch-append at front (join p ++ back) old (rw (length-append (join p) back) (omega (arith, front_long, text_long, back_long, room, in-room))))

    handle_is : (x : Stored) → stored_of (part (unit_at base unit) 16 s) ≡ x → handle ≡ x.handle
    unfolding stored_of
    handle_is x e =
        let h : be (part 0 4 (part (unit_at base unit) 16 s)) ≡ x.handle = ap (λ (y : Stored). y.handle) e in
        is ∙ read_in 4 (base + unit * 16) s (omega (arith, stands)) ∙ ap be (rw add-zero at (sym (part-part 0 4 (unit_at base unit) 16 s (omega arith)))) ∙ h

    as_record : (clock : ℕ) (x : Stored) → stored_of (part (unit_at base unit) 16 s) ≡ x → ms ≡ left clock x.moment → o3 ≡ patch at (name_record clock (p, x)) old
    unfolding name_record
    as_record clock x e f = pieces ∙ ap (λ (w : List ℕ). patch at w old) (rw (text_long, ← handle_is x e, ← f))

    pub record_written : RecordWritten base s unit p ms old o3 at (at + (16 + text))
    record_written =
        record {
          within = omega (arith, room, in-room);
          is = λ clock x e f. record { stored = λ r. as_record clock x e f; place = λ r. rw (name_long clock x) };
        }

-- nothing, and one after the other
pub given-none : (old : List ℕ) (a : Spot) {bs : List ℕ} {n : ℕ} → bs ≡ [] → n ≡ 0 → Given old old a bs n a
given-none old a e f = record { wrote = rw e (wrote_none old a.at); number_is = omega (arith, f) }

pub given_both : (old mid new : List ℕ) (a b c : Spot) (xs ys : List ℕ) (m n : ℕ) → length mid ≡ length old → Given old mid a xs m b → Given mid new b ys n c → Given old new a (xs ++ ys) (m + n) c
given_both old mid new a b c xs ys m n l p q =
    record { wrote = wrote_then old mid new a.at xs ys b.at c.at l p.wrote q.wrote; number_is = omega (arith, p.number_is, q.number_is) }

-- a record that has expired, is in the page, or is not
module _ (q : Query) (base : ℕ) (s : List ℕ) (unit : ℕ) (p : Filter) (old : List ℕ) (a : Spot) (in-room : a.at ≤ length old) {life : Option ℕ} (lives : life ≡ life_of q.clock (stored_of (part (unit_at base unit) 16 s))) where
  pub live_over : life ≡ None → LiveWritten q base s unit p old old a a
  live_over is =
      record {
        within = in-room;
        most = omega arith;
        is = λ x h.
            let u = over_is q.clock x (sym is ∙ lives ∙ ap (life_of q.clock) h) in
            let o = own-expired q.clock q.offset q.limit a.number p x u in
            given-none old a o.0 o.1;
      }

  module _ (m : ℕ) (is : life ≡ Some m) {r : Bool} (paged : r ≡ in_page q.offset q.limit a.number) where
    pub live_in : r ≡ true → (new : List ℕ) (next : ℕ) → RecordWritten base s unit p m old new a.at next → LiveWritten q base s unit p old new a (record { at = next; number = a.number + 1 })
    live_in g new next w =
        record {
          within = w.within;
          most = omega arith;
          is = λ x h.
              let u = left_is q.clock m x (sym is ∙ lives ∙ ap (life_of q.clock) h) in
              let b = own-paged q.clock q.offset q.limit a.number p x u.0 (sym paged ∙ g) in
              let c = own-counted q.clock q.offset q.limit a.number p x u.0 in
              record { wrote = rw b (w.is q.clock x h u.1); number_is = omega (arith, c) };
        }

    pub live_out : r ≡ false → LiveWritten q base s unit p old old a (record { at = a.at; number = a.number + 1 })
    live_out g =
        record {
          within = in-room;
          most = omega arith;
          is = λ x h.
              let u = left_is q.clock m x (sym is ∙ lives ∙ ap (life_of q.clock) h) in
              let b = own_unpaged q.clock q.offset q.limit a.number p x u.0 (sym paged ∙ g) in
              let c = own-counted q.clock q.offset q.limit a.number p x u.0 in
              record { wrote = rw b (wrote_none old a.at); number_is = omega (arith, c) };
        }

-- what a node holds
module _ (q : Query) (base : ℕ) (s : List ℕ) (unit end : ℕ) (p : Filter) (filter : List ℕ) (next : ℕ) (old : List ℕ) (a : Spot) (in-room : a.at ≤ length old) where
  pub own-none : end ≤ unit → OwnWritten q base s unit end p (levels_at filter next) old old a a
  own-none h =
      record {
        within = in-room;
        most = omega arith;
        is = λ v w.
            let o = own_empty q a.number p (levels_at filter next) in
            rw (none-held base s unit end h v w) (given-none old a o.0 o.1);
      }

  module _ (some : unit < end) {t : Bool} (ends : t ≡ takes (levels_at filter next) []) where
    pub own-more : t ≡ false → OwnWritten q base s unit end p (levels_at filter next) old old a a
    own-more f =
        record {
          within = in-room;
          most = omega arith;
          is = λ v w. let o = own_unasked q a.number p (levels_at filter next) v (sym ends ∙ f) in given-none old a o.0 o.1;
        }

    pub own_live : t ≡ true → (new : List ℕ) (b : Spot) → LiveWritten q base s unit p old new a b → OwnWritten q base s unit end p (levels_at filter next) old new a b
    own_live f new b l =
        record {
          within = l.within;
          most = l.most;
          is = λ v w.
              let h = one-held base s unit end some v w in
              let o = own-asked q a.number p (levels_at filter next) v (sym ends ∙ f) in
              rw (o.0, o.1, h.is) (l.is h.one h.stands);
        }
