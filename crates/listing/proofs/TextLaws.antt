-- The text of a path, level by level. Assumes nothing.
use mathlib.Core.Path.{◌≡◌, refl, sym, ap, ◌∙◌}
use mathlib.Core.List.{List, [], ◌∷◌, ◌++◌}
use Prim.Native.Nat.{ℕ, ◌+◌, ◌-◌, ◌≤◌, ◌<◌}
use native.Mathlib.Omega.{arith}
use lib.ListN.{length, take, drop, set, get_or, length-append}
use borrow.Author.Tests.{eq-eqb, ne_eqb}
use Rattle.lent.specs.Parts.{patch}
use Rattle.lent.specs.Total.{write}
use Rattle.lent.proofs.Parts.{length-patch, patch-append, set-patch}
use Rattle.lent.proofs.Turns.{patch-none}
use Rattle.lent.proofs.Digits.{set_pair}
use Rattle.lent.proofs.Anywhere.{write_in, write_framed}
use Rattle.level.specs.Levels.{split, width}
use Rattle.level.specs.Places.{levels_at}
use Rattle.held.specs.Order.{Level, Filter}
use Rattle.held.specs.Walks.{hash, plus}
use Rattle.walk.specs.Steps.{NextLevel}
use Rattle.listing.specs.Trails.{taken, path_of, path_at, slashed, whole_text}
use Rattle.listing.specs.Written.{WroteLevel}
use Rattle.walk.proofs.Widths.{width_next}
use Rattle.listing.proofs.Trails.{slashed_next, length-slashed, path_next, width-less, go_on, here, levels_next}

-- a level
taken_none : (m : ℕ) (l : Level) → m ≡ 0 → taken m l ≡ l
taken_none m l e = rw (eq-eqb m 0 e)

taken_some : (m : ℕ) (l : Level) → (m ≡ 0 → ⊥) → taken m l ≡ plus
taken_some m l e = rw (ne_eqb m 0 e)

module _ (at m : ℕ) (l old : List ℕ) (room : at + length (taken m l) + 1 ≤ length old) where
  module _ (none : m ≡ 0) where
    fits : at + length l + 1 ≤ length old
    fits = rw (taken_none m l none) at room

    module _ {o : List ℕ} (is : o ≡ write at l old) where
      pub slash_in : at + length l < length o
      slash_in = rw (is, (write_framed at l old).long) (omega (arith, fits))

      pub level_copied : WroteLevel old (set o (at + length l) 47) at (taken m l) (at + length l + 1)
      level_copied =
          let c : o ≡ patch at l old = is ∙ write_in at l old (omega (arith, fits)) in
          rw (taken_none m l none)
          (record {
            stored = set-patch o (at + length l) 47 slash_in ∙ ap (patch (at + length l) (47 ∷ [])) c ∙ patch-append at l (47 ∷ []) old (omega (arith, fits));
            place = refl;
          })

  module _ (some : m ≡ 0 → ⊥) where
    pub plus_in : at + 1 < length old
    plus_in = let r = rw (taken_some m l some) at room in omega (arith, r)

    pub plus_written : WroteLevel old (set (set old at 43) (at + 1) 47) at (taken m l) (at + 1 + 1)
    plus_written = rw (taken_some m l some) (record { stored = set_pair at 43 47 old (omega (arith, plus_in)); place = refl })

-- the levels so far
pub record SoFar (name marks : List ℕ) (depth at : ℕ) (old new : List ℕ) (j from next : ℕ) : Type 0 where
  pub deep : depth ≤ 128
  pub marked : length marks ≡ 128
  pub some : depth ≤ length (split name)
  pub room : at + width (path_at marks depth name) + 1 ≤ length old
  pub long : length new ≡ length old
  pub few : j ≤ depth
  pub levels : levels_at name from ≡ drop j (split name)
  pub text : new ≡ patch at (slashed (path_at marks j name)) old
  pub place : next ≡ at + width (path_at marks j name)

pub text-none : (name marks : List ℕ) (depth at : ℕ) (old : List ℕ) → depth ≤ 128 → length marks ≡ 128 → depth ≤ length (split name) → at + width (path_at marks depth name) + 1 ≤ length old
    → SoFar name marks depth at old old 0 0 at
unfolding slashed path_of
text-none name marks depth at old d m s r =
    record { deep = d; marked = m; some = s; room = r; long = refl; few = omega arith; levels = refl; text = sym (patch-none at old); place = omega arith }

module _ (name marks : List ℕ) (depth at : ℕ) (old new : List ℕ) (j from next : ℕ) (s : SoFar name marks depth at old new j from next) where
  pub text_some : j < depth → from ≤ length name
  text_some h = go_on name j from s.levels (omega (arith, h, s.some))

  length_so : at + length (slashed (path_at marks j name)) + 1 ≤ length old
  length_so = rw (length-slashed (path_at marks j name)) (omega (arith, s.room, width-less marks (split name) j depth s.few))

  module _ (more : j < depth) (stop : ℕ) (n : NextLevel name from stop) where
    next_path : path_at marks (j + 1) name ≡ path_at marks j name ++ taken (get_or marks j 0) (take (stop - from) (drop from name)) ∷ []
    next_path = path_next marks j (split name) _ _ (omega (arith, s.marked, s.deep, more)) (here name j from stop s.levels n)

    next-width : width (path_at marks (j + 1) name) ≡ width (path_at marks j name) + length (taken (get_or marks j 0) (take (stop - from) (drop from name))) + 1
    next-width = ap width next_path ∙ width_next (path_at marks j name) (taken (get_or marks j 0) (take (stop - from) (drop from name)))

    pub text_room : next + length (taken (get_or marks j 0) (take (stop - from) (drop from name))) + 1 ≤ length new
    text_room = omega (arith, s.room, s.long, s.place, next-width, width-less marks (split name) (j + 1) depth (omega (arith, more)))

    pub text_step : (new2 : List ℕ) (next2 : ℕ) → WroteLevel new new2 next (taken (get_or marks j 0) (take (stop - from) (drop from name))) next2 → SoFar name marks depth at old new2 (j + 1) (stop + 1) next2
    text_step new2 next2 w =
        let t : Level = taken (get_or marks j 0) (take (stop - from) (drop from name)) in
        let p : Filter = path_at marks j name in
        let e : next ≡ at + length (slashed p) = s.place ∙ ap (λ (x : ℕ). at + x) (sym (length-slashed p)) in
        let r : at + length (slashed p) + length (t ++ 47 ∷ []) ≤ length old = rw length-append (omega (arith, e, text_room, s.long)) in
        record {
          deep = s.deep;
          marked = s.marked;
          some = s.some;
          room = s.room;
          long = ap length w.stored ∙ length-patch next (t ++ 47 ∷ []) new (rw length-append (omega (arith, text_room))) ∙ s.long;
          few = omega (arith, more);
          levels = levels_next name j from stop s.levels n;
          text = rw (next_path, slashed_next p t, ← patch-append at (slashed p) (t ++ 47 ∷ []) old r, ← s.text, ← e) w.stored;
          place = omega (arith, w.place, s.place, next-width);
        }

  -- at the end
  pub hash_in : next < length new
  hash_in = omega (arith, s.long, s.place, length_so, length-slashed (path_at marks j name))

  pub text_done : depth ≤ j → set new next 35 ≡ patch at (whole_text (path_at marks depth name)) old
  text_done done =
      let p : Filter = path_at marks j name in
      let i : j ≡ depth = omega (arith, done, s.few) in
      let e : next ≡ at + length (slashed p) = s.place ∙ ap (λ (x : ℕ). at + x) (sym (length-slashed p)) in
      set-patch new next 35 hash_in
      ∙ rw (← i) (rw (e, s.text) (patch-append at (slashed p) hash old length_so))
