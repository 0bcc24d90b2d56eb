-- The path of a walk: its text, and one level more. Assumes nothing.
use mathlib.Core.Path.{◌≡◌, refl, sym, ap, ◌∙◌}
use mathlib.Core.Logic.{◌⊎◌, inl, inr}
use mathlib.Core.List.{List, [], ◌∷◌, ◌++◌, append_assoc}
use Prim.Native.Nat.{ℕ, zero, suc, ◌+◌, ◌-◌, ◌≤◌, ◌<◌}
use native.Mathlib.Numerals.{add-one}
use native.Mathlib.Omega.{arith}
use lib.ListN.{length, take, drop, set, get_or, length-append, length-take, length-drop}
use lib.Seq.{take-suc, take-suc-set, take_at}
use Rattle.lent.proofs.Anywhere.{lt-or_ge}
use Rattle.level.specs.Levels.{split, join, width}
use Rattle.level.specs.Places.{levels_at}
use Rattle.level.proofs.Split.{drop_next, drop_end, levels-none}
use Rattle.held.specs.Order.{Level, Filter}
use Rattle.held.specs.Walks.{hash}
use Rattle.walk.specs.Steps.{NextLevel}
use Rattle.listing.specs.Trails.{taken, path_of, slashed, whole_text}

-- texts
pub slashed_next : (p : Filter) (l : Level) → slashed (p ++ l ∷ []) ≡ slashed p ++ (l ++ 47 ∷ [])
unfolding slashed
slashed_next [] l = refl
slashed_next (m ∷ p) l = rw (slashed_next p l) (sym (append_assoc m (47 ∷ slashed p) (l ++ 47 ∷ [])))

pub length-slashed : (p : Filter) → length (slashed p) ≡ width p
unfolding slashed
length-slashed [] = refl
length-slashed (m ∷ p) = rw length-append (omega (arith, length-slashed p))

pub length_whole : (p : Filter) → length (whole_text p) ≡ width p + 1
length_whole p = rw (length-append, length-slashed p)

pub join-hash : (p : Filter) → join (p ++ hash ∷ []) ≡ whole_text p
unfolding slashed
join-hash [] = refl
join-hash (l ∷ []) = sym (append_assoc l (47 ∷ []) hash)
join-hash (l ∷ m ∷ p) = rw (join-hash (m ∷ p)) (sym (append_assoc l (47 ∷ slashed (m ∷ p)) hash))

join_slash : (l : Level) (p : Filter) → slashed (l ∷ p) ≡ join (l ∷ p) ++ 47 ∷ []
unfolding slashed
join_slash l [] = refl
join_slash l (m ∷ p) = rw (join_slash m p) (sym (append_assoc l (47 ∷ join (m ∷ p)) (47 ∷ [])))

pub join_own : (p : Filter) (n : ℕ) → length (join p) ≡ n → join p ≡ take n (whole_text p)
join_own [] n h = rw (sym h)
join_own (l ∷ p) n h = rw (join_slash l p, append_assoc (join (l ∷ p)) (47 ∷ []) hash) (sym (take_at (join (l ∷ p)) (47 ∷ hash) n h))

-- one level more
path-more : (xs : List ℕ) (m : ℕ) (ls : Filter) (g : Level) (gs : Filter) → drop (length xs) ls ≡ g ∷ gs → path_of (xs ++ m ∷ []) ls ≡ path_of xs ls ++ taken m g ∷ []
unfolding path_of
path-more [] m [] g gs e = cc
path-more [] m (l ∷ ls) g gs e = let q : l ≡ g = cc in rw q
path-more (x ∷ xs) m [] g gs e = cc
path-more (x ∷ xs) m (l ∷ ls) g gs e = ap (λ (r : Filter). taken x l ∷ r) (path-more xs m ls g gs e)

pub path_next : (marks : List ℕ) (depth : ℕ) (ls : Filter) (g : Level) (gs : Filter) → depth < length marks → drop depth ls ≡ g ∷ gs
    → path_of (take (depth + 1) marks) ls ≡ path_of (take depth marks) ls ++ taken (get_or marks depth 0) g ∷ []
path_next marks depth ls g gs h e =
    let z : length (take depth marks) ≡ depth = length-take depth marks ∙ omega arith in
    rw (add-one depth, take-suc marks depth 0 h) (path-more (take depth marks) (get_or marks depth 0) ls g gs (rw z e))

pub path-set : (marks : List ℕ) (depth m : ℕ) (ls : Filter) (g : Level) (gs : Filter) → depth < length marks → drop depth ls ≡ g ∷ gs
    → path_of (take (depth + 1) (set marks depth m)) ls ≡ path_of (take depth marks) ls ++ taken m g ∷ []
path-set marks depth m ls g gs h e =
    let z : length (take depth marks) ≡ depth = length-take depth marks ∙ omega arith in
    rw (add-one depth, take-suc-set marks depth m h) (path-more (take depth marks) m ls g gs (rw z e))

-- a shorter path takes no more
pub width-less : (marks : List ℕ) (ls : Filter) (i j : ℕ) → i ≤ j → width (path_of (take i marks) ls) ≤ width (path_of (take j marks) ls)
unfolding path_of
width-less marks ls zero j h = omega arith
width-less [] ls (suc i) zero h = absurd (omega arith)
width-less [] ls (suc i) (suc j) h = omega arith
width-less (m ∷ marks) [] (suc i) zero h = absurd (omega arith)
width-less (m ∷ marks) [] (suc i) (suc j) h = omega arith
width-less (m ∷ marks) (l ∷ ls) (suc i) zero h = absurd (omega arith)
width-less (m ∷ marks) (l ∷ ls) (suc i) (suc j) h = omega (arith, width-less marks ls i j (omega (arith, h)))

-- where the levels of a name go on
pub go_on : (name : List ℕ) (j from : ℕ) → levels_at name from ≡ drop j (split name) → j < length (split name) → from ≤ length name
go_on name j from e h = go (lt-or_ge (length name) from)
  where
    go : (length name < from) ⊎ (from ≤ length name) → from ≤ length name
    go (inl l) = absurd (omega (arith, h, drop_end (split name) j (sym e ∙ levels-none name from l)))
    go (inr l) = l

module _ (name : List ℕ) (j from stop : ℕ) (e : levels_at name from ≡ drop j (split name)) (next : NextLevel name from stop) where
  pub here : drop j (split name) ≡ take (stop - from) (drop from name) ∷ levels_at name (stop + 1)
  here = sym e ∙ next.levels

  pub levels_next : levels_at name (stop + 1) ≡ drop (j + 1) (split name)
  levels_next = rw (add-one j) (sym (drop_next (split name) j _ _ here))

  pub more_levels : j + 1 ≤ length (split name)
  more_levels = omega (arith, length-drop j (split name), ap length here)
