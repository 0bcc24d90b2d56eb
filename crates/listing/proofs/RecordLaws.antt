-- A record, written piece by piece. Assumes nothing.
use Rattle.std.specs.Prelude.{Some}
use Rattle.std.specs.Prelude.{None, Option}
use mathlib.Core.Path.{◌≡◌, refl, sym, ap, ◌∙◌}
use mathlib.Core.List.{List, [], ◌∷◌, ◌++◌, append-nil}
use Prim.Native.Nat.{ℕ, ◌+◌, ◌-◌, ◌*◌, ◌≤◌, ◌<◌, min}
use native.Mathlib.Omega.{arith}
use lib.ListN.{length, take, drop, length-append, length-drop, take-append-drop}
use lib.Seq.{take_at}
use Rattle.lent.specs.Numbers.{bytes}
use Rattle.lent.specs.Parts.{patch}
use Rattle.lent.specs.Total.{write}
use Rattle.lent.proofs.Parts.{length-patch, patch-eq, patch-append, take-patch-le, drop-patch, drop_past}
use Rattle.lent.proofs.Turns.{patch-none}
use Rattle.lent.proofs.Digits.{length-bytes}
use Rattle.lent.proofs.Anywhere.{write_in, write_framed}
use Rattle.level.specs.Levels.{join, width}
use Rattle.held.specs.Order.{Filter}
use Rattle.held.specs.Bytes.{each}
use Rattle.held.specs.Subscriptions.{listing_record}
use Rattle.held.specs.Walks.{hash, kid}
use Rattle.held.specs.Stream.{one_of, record_at, hash_bytes, hash_count}
use Rattle.walk.specs.declared.Node.{Node}
use Rattle.walk.specs.declared.Measured.{Measured}
use Rattle.walk.specs.Nodes.{node_at, NodeIn, Kid}
use Rattle.listing.specs.Trails.{path_at, whole_text}
use Rattle.listing.specs.Written.{Wrote, Added, unit_values, Values, RecordRoom, RecordWritten, HashRoom, HashWritten, BelowWritten, EndWritten}
use Rattle.walk.proofs.NodeLaws.{opened, missed}
use Rattle.walk.proofs.Widths.{length_record, length-join}
use Rattle.listing.proofs.Trails.{length_whole, join-hash, join_own}
use Rattle.listing.proofs.ValueLaws.{length_values, values_are}

-- nothing, and one after the other
pub wrote_none : (old : List ℕ) (at : ℕ) → Wrote old old at [] at
wrote_none old at = record { stored = λ h. sym (patch-none at old); place = λ h. omega arith }

pub wrote_then : (old mid new : List ℕ) (at : ℕ) (xs ys : List ℕ) (n m : ℕ) → length mid ≡ length old → Wrote old mid at xs n → Wrote mid new n ys m → Wrote old new at (xs ++ ys) m
wrote_then old mid new at xs ys n m l p q =
    record {
      stored = λ h.
          let r : at + length xs + length ys ≤ length old = let k = rw length-append at h in omega (arith, k) in
          let e : n ≡ at + length xs = p.place (omega (arith, r)) in
          q.stored (omega (arith, e, l, r)) ∙ rw (e, p.stored (omega (arith, r))) (patch-append at xs ys old r);
      place = λ h.
          let r : at + length xs + length ys ≤ length old = let k = rw length-append at h in omega (arith, k) in
          let e : n ≡ at + length xs = p.place (omega (arith, r)) in
          q.place (omega (arith, e, l, r)) ∙ rw length-append (omega (arith, e));
    }

pub added_none : (old : List ℕ) (a : Measured) → Added old old a [] 0 a
added_none old a = record { wrote = wrote_none old a.bytes; records_are = λ h. omega arith }

pub added_then : (old mid new : List ℕ) (a b c : Measured) (xs ys : List ℕ) (n m : ℕ) → length mid ≡ length old → Added old mid a xs n b → Added mid new b ys m c → Added old new a (xs ++ ys) (n + m) c
added_then old mid new a b c xs ys n m l p q =
    record {
      wrote = wrote_then old mid new a.bytes xs ys b.bytes c.bytes l p.wrote q.wrote;
      records_are = λ h.
          let r : a.bytes + length xs + length ys ≤ length old = let k = rw length-append at h in omega (arith, k) in
          let e : b.bytes ≡ a.bytes + length xs = p.wrote.place (omega (arith, r)) in
          q.records_are (omega (arith, e, l, r)) ∙ omega (arith, p.records_are (omega (arith, r)));
    }

-- bytes written over the end of others
patch_over : (q : ℕ) (x y s : List ℕ) → length x ≤ length y → q + length y ≤ length s → patch q y (patch q x s) ≡ patch q y s
patch_over q x y s l h =
    let k : q + length x ≤ length s = omega (arith, l, h) in
    patch-eq q y (patch q x s)
    ∙ rw (take-patch-le q x s k q (omega arith), drop_past (q + length x) (q + length y) (patch q x s) s (omega (arith, l)) (drop-patch q x s k)) (sym (patch-eq q y s))

pub overwritten : (a : ℕ) (t x y s : List ℕ) → length x ≤ length y → a + length t + length y ≤ length s → patch (a + length t) y (patch a (t ++ x) s) ≡ patch a (t ++ y) s
overwritten a t x y s l h =
    let k : a + length t + length x ≤ length s = omega (arith, l, h) in
    let p : length (patch a t s) ≡ length s = length-patch a t s (omega (arith, h)) in
    rw (← patch-append a t x s k) (patch_over (a + length t) x y (patch a t s) l (rw p h)) ∙ patch-append a t y s h

-- the pieces of a record
pub head_written : (at text : ℕ) (p : Filter) (o0 : List ℕ) → at + 4 + width p + 1 ≤ length o0
    → {o1 o2 o3 : List ℕ} → o1 ≡ write at (70 ∷ 77 ∷ []) o0 → o2 ≡ write (at + 2) (bytes 2 text) o1 → o3 ≡ patch (at + 4) (whole_text p) o2
    → o3 ≡ patch (at + 4) (whole_text p) (patch at (70 ∷ 77 ∷ bytes 2 text) o0)
head_written at text p o0 room {o1} {o2} {o3} e1 e2 e3 =
    let l : length o1 ≡ length o0 = ap length e1 ∙ (write_framed at (70 ∷ 77 ∷ []) o0).long in
    let a : o1 ≡ patch at (70 ∷ 77 ∷ []) o0 = e1 ∙ write_in at (70 ∷ 77 ∷ []) o0 (omega (arith, room)) in
    let two : o2 ≡ patch at (70 ∷ 77 ∷ bytes 2 text) o0 =
    e2 ∙ write_in (at + 2) (bytes 2 text) o1 (rw (length-bytes, l) (omega (arith, room)))
    ∙ rw a (patch-append at (70 ∷ 77 ∷ []) (bytes 2 text) o0 (rw length-bytes (omega (arith, room)))) in
    rw two at e3

pub values_written : (base : ℕ) (s : List ℕ) (v at n : ℕ) (o0 : List ℕ) → at + (2 + 4 * n) ≤ length o0
    → {o1 o2 : List ℕ} → o1 ≡ write at (bytes 2 n) o0 → o2 ≡ patch (at + 2) (each (bytes 4) (unit_values base s v n)) o1
    → o2 ≡ patch at (bytes 2 n ++ each (bytes 4) (unit_values base s v n)) o0
values_written base s v at n o0 room {o1} {o2} e1 e2 =
    let d : List ℕ = each (bytes 4) (unit_values base s v n) in
    let a : o1 ≡ patch at (bytes 2 n) o0 = e1 ∙ write_in at (bytes 2 n) o0 (rw length-bytes (omega (arith, room))) in
    let p : at + 2 ≡ at + length (bytes 2 n) = rw length-bytes in
    e2 ∙ rw (p, a) (patch-append at (bytes 2 n) d o0 (rw (length-bytes, length_values base s v n) (omega (arith, room))))

module _ (at text : ℕ) (t x y o0 : List ℕ) (long : length t ≡ text) (over : length x ≤ length y) (room : at + (4 + text + length y) ≤ length o0)
    {o1 o2 : List ℕ} (e1 : o1 ≡ patch (at + 4) (t ++ x) (patch at (70 ∷ 77 ∷ bytes 2 text) o0)) (e2 : o2 ≡ patch (at + 4 + text) y o1) where
  abbrev front : List ℕ
  front = 70 ∷ 77 ∷ bytes 2 text

  length_front : length front ≡ 4
  length_front = rw length-bytes

  length_one : length (patch at front o0) ≡ length o0
  length_one = length-patch at front o0 (omega (arith, length_front, room))

  pieces : o2 ≡ patch at (70 ∷ 77 ∷ (bytes 2 text ++ (t ++ y))) o0
  pieces =
      let a : at + 4 + text ≡ at + 4 + length t = omega (arith, long) in
      let b : at + 4 ≡ at + length front = omega (arith, length_front) in
      let w : o2 ≡ patch (at + 4) (t ++ y) (patch at front o0) =
      e2 ∙ rw (a, e1) (overwritten (at + 4) t x y (patch at front o0) over (omega (arith, length_one, long, room))) in
      w ∙ rw b (patch-append at front (t ++ y) o0 (rw (length-append t y) (omega (arith, length_front, long, room))))

-- a record
module _ (base : ℕ) (s : List ℕ) (v e text : ℕ) (p : Filter) (old : List ℕ) (a : Measured) (n : ℕ) (count : n ≡ min (e - v) 65535) (in-room : a.bytes ≤ length old) (few : a.records ≤ a.bytes) where
  pub record_empty : n ≡ 0 → RecordWritten base s v e text p old old a a
  record_empty z = record { within = in-room; few = few; is = go }
    where
      go : (own : List ℕ) → Values base s v e own → (f : Filter) → join f ≡ take text (whole_text p) → length (join f) ≡ text → Added old old a (record_at f own) (one_of own) a
      go [] w f ej el = added_none old a
      go (x ∷ own) w f ej el = absurd (omega (arith, count, z, w.count))

  module _ (some : n ≡ 0 → ⊥) where
    record_long : (own : List ℕ) → Values base s v e own → (f : Filter) → length (join f) ≡ text → length (record_at f own) ≡ 6 + text + 4 * n
    record_long [] w f el = absurd (some (omega (arith, count, w.count)))
    record_long (x ∷ own) w f el =
        let q : n ≡ length (x ∷ own) = omega (arith, count, w.count, w.few) in
        length_record f (x ∷ own) ∙ rw (el, q)

    pub record_short : length old - a.bytes < 6 + text + 4 * n → RecordWritten base s v e text p old old a a
    record_short h =
        record {
          within = in-room;
          few = few;
          is = λ own w f ej el.
              record {
                wrote = record {
                  stored = λ r. absurd (omega (arith, h, r, record_long own w f el));
                  place = λ r. absurd (omega (arith, h, r, record_long own w f el));
                };
                records_are = λ r. absurd (omega (arith, h, r, record_long own w f el));
              };
        }

    module _ (fits : 6 + text + 4 * n ≤ length old - a.bytes) (text_fits : width p ≤ text + 1)
        {o1 o2 : List ℕ} (e1 : o1 ≡ patch (a.bytes + 4) (whole_text p) (patch a.bytes (70 ∷ 77 ∷ bytes 2 text) old)) (e2 : o2 ≡ patch (a.bytes + 4 + text) (bytes 2 n ++ each (bytes 4) (unit_values base s v n)) o1) where
      as_record : (own : List ℕ) → Values base s v e own → (f : Filter) → join f ≡ take text (whole_text p) → length (join f) ≡ text → o2 ≡ patch a.bytes (record_at f own) old
      unfolding listing_record
      as_record [] w f ej el = absurd (some (omega (arith, count, w.count)))
      as_record (y ∷ own) w f ej el =
          let q : n ≡ length (y ∷ own) = omega (arith, count, w.count, w.few) in
          let u : unit_values base s v n ≡ y ∷ own = rw q (values_are base s v e (y ∷ own) w) in
          let d : List ℕ = bytes 2 n ++ each (bytes 4) (unit_values base s v n) in
          let parts : whole_text p ≡ join f ++ drop text (whole_text p) = rw ej (sym (take-append-drop text (whole_text p))) in
          let long : length d ≡ 2 + 4 * n = length-append (bytes 2 n) (each (bytes 4) (unit_values base s v n)) ∙ rw (length-bytes, length_values base s v n) in
          let over : length (drop text (whole_text p)) ≤ length d = rw (length-drop, length_whole p, long) (omega (arith, text_fits)) in
          let room : a.bytes + (4 + text + length d) ≤ length old = omega (arith, long, fits, in-room) in
          let z = pieces a.bytes text (join f) (drop text (whole_text p)) d old el over room (e1 ∙ ap (λ (w : List ℕ). patch (a.bytes + 4) w (patch a.bytes (70 ∷ 77 ∷ bytes 2 text) old)) parts) e2 in
          z ∙ ap (λ (w : List ℕ). patch a.bytes w old) (rw (u, q, el))

      one_more : (own : List ℕ) → Values base s v e own → one_of own ≡ 1
      one_more [] w = absurd (some (omega (arith, count, w.count)))
      one_more (x ∷ own) w = refl

      pub record_written : RecordWritten base s v e text p old o2 a (record { bytes = a.bytes + (6 + text + 4 * n); records = a.records + 1 })
      record_written =
          record {
            within = omega (arith, fits, in-room);
            few = omega (arith, few);
            is = λ own w f ej el.
                record {
                  wrote = record { stored = λ r. as_record own w f ej el; place = λ r. rw (record_long own w f el) };
                  records_are = λ r. rw (one_more own w);
                };
          }

-- a '#'
pub hash_record : (base : ℕ) (s : List ℕ) (nd : Node) (size : ℕ) (name marks : List ℕ) (depth : ℕ) {n : Option Node} → n ≡ Some nd → NodeIn base s n → HashRoom size name marks depth
    → RecordRoom base s nd.end (size + 1) name marks depth
hash_record base s nd size name marks depth is i r =
    let j : NodeIn base s (Some nd) = rw is at i in
    record { units = omega (arith, j.1, j.2); short = omega (arith, r.short); deep = r.deep; marked = r.marked; some = r.some; text_fits = omega (arith, r.size_is) }

module _ (base : ℕ) (s : List ℕ) (size : ℕ) (name marks : List ℕ) (depth : ℕ) {n : Option Node} (old : List ℕ) (a : Measured) where
  pub hash_written : (nd : Node) → n ≡ Some nd → HashRoom size name marks depth → (new : List ℕ) (b : Measured) → RecordWritten base s nd.values nd.end (size + 1) (path_at marks depth name) old new a b
      → HashWritten base s n (path_at marks depth name) old new a b
  hash_written nd is r new b w =
      let p : Filter = path_at marks depth name in
      let l : length (whole_text p) ≡ size + 1 = length_whole p ∙ ap (λ (x : ℕ). x + 1) r.size_is in
      let j : join (p ++ hash ∷ []) ≡ take (size + 1) (whole_text p) = join-hash p ∙ sym (sym (ap (take (size + 1)) (append-nil (whole_text p))) ∙ take_at (whole_text p) [] (size + 1) l) in
      record {
        within = w.within;
        few = w.few;
        is = λ d h i.
            let o = opened base s d nd n h is i in
            let vals : Values base s nd.values nd.end o.own = record { count = o.holds.count; few = o.holds.few; units = o.holds.values; small = o.holds.small } in
            rw o.is (w.is o.own vals (p ++ hash ∷ []) j (ap length (join-hash p) ∙ l));
      }

  pub hash_absent : n ≡ None → a.bytes ≤ length old → a.records ≤ a.bytes → HashWritten base s n (path_at marks depth name) old old a a
  hash_absent is h f = record { within = h; few = f; is = λ d k i. rw (missed base s d n k is i) (added_none old a) }

pub below_written : (base : ℕ) (s : List ℕ) (lo hi depth : ℕ) (p : Filter) {n : Option Node} (old new : List ℕ) (a b : Measured) → Kid base s depth lo hi hash n → HashWritten base s n p old new a b
    → BelowWritten base s lo hi depth p old new a b
below_written base s lo hi depth p {n} old new a b k w =
    record { within = w.within; few = w.few; is = λ F x y. w.is (depth + 1) (kid hash F) (k.is F x y) }

-- a node's own, and then that of its '#'
pub end_written : (base : ℕ) (s : List ℕ) (v e q size t : ℕ) (name marks : List ℕ) (depth : ℕ) (old mid new : List ℕ) (a b c : Measured) → HashRoom size name marks depth → t ≡ size - 1 → length mid ≡ length old
    → RecordWritten base s v e t (path_at marks depth name) old mid a b → BelowWritten base s e q depth (path_at marks depth name) mid new b c
    → EndWritten base s v e q depth (path_at marks depth name) old new a c
end_written base s v e q size t name marks depth old mid new a b c r et l x y =
    let p : Filter = path_at marks depth name in
    let z : length (join p) ≡ t = length-join p ∙ omega (arith, r.size_is, et) in
    record {
      within = omega (arith, y.within, l);
      few = y.few;
      is = λ own kids h.
          let vals : Values base s v e own = record { count = h.count; few = h.few; units = h.values; small = h.small } in
          added_then old mid new a b c (record_at p own) (hash_bytes p (kid hash kids)) (one_of own) (hash_count (kid hash kids)) l (x.is own vals p (join_own p t z) z) (y.is kids h.stands h.shallow);
    }
