-- The text of a path, level by level, and the head of a record. Assumes nothing.
use mathlib.Core.Path.{◌≡◌, refl, sym, ap, ◌∙◌}
use mathlib.Core.List.{List, [], ◌∷◌, ◌++◌}
use Prim.Native.Nat.{ℕ, ◌+◌, ◌≤◌, ◌<◌}
use native.Mathlib.Omega.{arith}
use lib.ListN.{length, set, get_or, length-append}
use Rattle.lent.specs.Numbers.{bytes}
use Rattle.lent.specs.Parts.{patch}
use Rattle.lent.specs.Total.{write}
use Rattle.lent.proofs.Parts.{length-patch, patch-append}
use Rattle.lent.proofs.Turns.{patch-none}
use Rattle.lent.proofs.Digits.{length-bytes}
use Rattle.lent.proofs.Anywhere.{write_in, write_framed}
use Rattle.level.specs.Levels.{width}
use Rattle.held.specs.Order.{Filter}
use Rattle.forest.specs.Places.{level_in}
use Rattle.walk.proofs.Widths.{width_next}
use Rattle.listing.specs.Trails.{slashed}
use Rattle.listing.specs.Written.{WroteLevel}
use Rattle.listing.proofs.Trails.{slashed_next, length-slashed}
use Rattle.listing.proofs.TextLaws.{slash_in as slash-within, level_copied as copied}
use Rattle.pages.specs.Paths.{levels_of, path_at, PathIn}
use Rattle.pages.proofs.PathLaws.{path_next, width-less}

-- a level and a '/'
module _ (at : ℕ) (l old : List ℕ) (room : at + length l + 1 ≤ length old) {o : List ℕ} (is : o ≡ write at l old) where
  pub slash_in : at + length l < length o
  slash_in = slash-within at 0 l old room refl is

  pub level_copied : WroteLevel old (set o (at + length l) 47) at l (at + length l + 1)
  level_copied = copied at 0 l old room refl is

-- the levels so far
pub record SoFar (base : ℕ) (s : List ℕ) (n : ℕ) (path : List ℕ) (depth at : ℕ) (old new : List ℕ) (j next : ℕ) : Type 0 where
  pub path_in : PathIn base s n path depth
  pub room : at + width (path_at base s n path depth) ≤ length old
  pub long : length new ≡ length old
  pub few : j ≤ depth
  pub text : new ≡ patch at (slashed (path_at base s n path j)) old
  pub place : next ≡ at + width (path_at base s n path j)

pub text-none : (base : ℕ) (s : List ℕ) (n : ℕ) (path : List ℕ) (depth at : ℕ) (old : List ℕ) → PathIn base s n path depth → at + width (path_at base s n path depth) ≤ length old → SoFar base s n path depth at old old 0 at
unfolding slashed levels_of
text-none base s n path depth at old p r =
    record { path_in = p; room = r; long = refl; few = omega arith; text = sym (patch-none at old); place = omega arith }

module _ (base : ℕ) (s : List ℕ) (n : ℕ) (path : List ℕ) (depth at : ℕ) (old new : List ℕ) (j next : ℕ) (z : SoFar base s n path depth at old new j next) where
  pub text_in : j < depth → get_or path j 0 < n
  text_in h = z.path_in.rows j h

  module _ (more : j < depth) {l : List ℕ} (is : l ≡ level_in base s (get_or path j 0) n) where
    next_path : path_at base s n path (j + 1) ≡ path_at base s n path j ++ l ∷ []
    next_path = rw is (path_next base s n path j (omega (arith, z.path_in.deep, z.path_in.long, more)))

    next-width : width (path_at base s n path (j + 1)) ≡ width (path_at base s n path j) + length l + 1
    next-width = ap width next_path ∙ width_next (path_at base s n path j) l

    pub text_room : next + length l + 1 ≤ length new
    text_room = omega (arith, z.room, z.long, z.place, next-width, width-less base s n path (j + 1) depth (omega (arith, more)))

    pub text_step : (new2 : List ℕ) (next2 : ℕ) → WroteLevel new new2 next l next2 → SoFar base s n path depth at old new2 (j + 1) next2
    text_step new2 next2 w =
        let q : Filter = path_at base s n path j in
        let e : next ≡ at + length (slashed q) = z.place ∙ ap (λ (x : ℕ). at + x) (sym (length-slashed q)) in
        let r : at + length (slashed q) + length (l ++ 47 ∷ []) ≤ length old = rw length-append (omega (arith, e, text_room, z.long)) in
        record {
          path_in = z.path_in;
          room = z.room;
          long = ap length w.stored ∙ length-patch next (l ++ 47 ∷ []) new (rw length-append (omega (arith, text_room))) ∙ z.long;
          few = omega (arith, more);
          text = rw (next_path, slashed_next q l, ← patch-append at (slashed q) (l ++ 47 ∷ []) old r, ← z.text, ← e) w.stored;
          place = omega (arith, w.place, z.place, next-width);
        }

  -- at the end
  pub text_done : depth ≤ j → new ≡ patch at (slashed (path_at base s n path depth)) old
  text_done done =
      let i : j ≡ depth = omega (arith, done, z.few) in
      rw i at z.text

-- a record's mark, the length of its name, and its name
pub name_written : (at text : ℕ) (p : Filter) (o0 : List ℕ) → at + 4 + width p ≤ length o0
    → {o1 o2 o3 : List ℕ} → o1 ≡ write at (82 ∷ 86 ∷ []) o0 → o2 ≡ write (at + 2) (bytes 2 text) o1 → o3 ≡ patch (at + 4) (slashed p) o2
    → o3 ≡ patch (at + 4) (slashed p) (patch at (82 ∷ 86 ∷ bytes 2 text) o0)
name_written at text p o0 room {o1} {o2} {o3} e1 e2 e3 =
    let l : length o1 ≡ length o0 = ap length e1 ∙ (write_framed at (82 ∷ 86 ∷ []) o0).long in
    let a : o1 ≡ patch at (82 ∷ 86 ∷ []) o0 = e1 ∙ write_in at (82 ∷ 86 ∷ []) o0 (omega (arith, room)) in
    let two : o2 ≡ patch at (82 ∷ 86 ∷ bytes 2 text) o0 =
    e2 ∙ write_in (at + 2) (bytes 2 text) o1 (rw (length-bytes, l) (omega (arith, room)))
    ∙ rw a (patch-append at (82 ∷ 86 ∷ []) (bytes 2 text) o0 (rw length-bytes (omega (arith, room)))) in
    rw two at e3
