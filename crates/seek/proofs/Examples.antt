-- Examples of children and paths, computed; and that each forest stands in some region, so that what the searches promise of one is
-- no empty promise. Assumes nothing.
use Rattle.std.specs.Prelude.{Result, Ok, Err}
use mathlib.Core.Path.{◌≡◌, refl, sym}
use mathlib.Core.List.{List, [], ◌∷◌, ◌++◌, map, append_assoc}
use Prim.Native.Nat.{ℕ, ◌+◌, ◌*◌}
use Prim.Native.String.{String}
use native.Mathlib.Nat.{zero-add}
use native.Mathlib.Omega.{arith}
use lib.ListN.{length, length-append}
use lib.Seq.{take_at, drop_at, take_all}
use Rattle.lent.specs.Parts.{part}
use Rattle.level.specs.Levels.{split}
use Rattle.topic.specs.Rules.{ascii}
use Rattle.held.specs.Order.{Filter}
use Rattle.held.specs.Forest.{Forest, leaf, fork, Rows}
use Rattle.held.specs.Walks.{kid}
use Rattle.held.specs.Edit.{missing}
use Rattle.region.specs.Layout.{units_f, unit_bytes, marks_of}
use Rattle.region.specs.Forms.{Form, Fits}
use Rattle.region.proofs.Decoded.{length_units}
use Rattle.forest.specs.Stands.{Stands}
use Rattle.forest.specs.Paths.{seek_at, nodes_at, spot_at}
use Rattle.forest.proofs.StandsLaws.{length_marks}
use Rattle.seek.specs.Child.{child_at, child_of}

abbrev levels : String → Filter
levels s = split (ascii s)

-- `a/b` holds 1, `a!` holds 2, `b` holds 3 and 4: a has unit 0, a/b the units 1 and 2, a! 3 and 4, b 5 to 7
abbrev few : Forest ℕ
few = fork (ascii "a") [] (fork (ascii "b") (1 ∷ []) leaf leaf) (fork (ascii "a!") (2 ∷ []) leaf (fork (ascii "b") (3 ∷ 4 ∷ []) leaf leaf))

-- a child by its level, not by what follows in the text: `a` comes before `a!`, and `aa` would go between `a!` and `b`
children : map (λ t. child_of (ascii t) 0 few) ("a" ∷ "a!" ∷ "b" ∷ "aa" ∷ "" ∷ "c" ∷ []) ≡ child_at 0 1 3 ∷ child_at 3 5 5 ∷ child_at 5 8 8 ∷ Err 5 ∷ Err 0 ∷ Err 8 ∷ []
unfolding child_of seek_at kid units_f
children = refl

-- the nodes of a path; where its first missing node would go, or the unit behind its last row; and the levels that are missing
abbrev texts : List String
texts = "a/b" ∷ "a" ∷ "a/c/d" ∷ "a!/x" ∷ "aa" ∷ []

nodes : map (λ t. nodes_at (levels t) 0 few) texts ≡ (0 ∷ 1 ∷ []) ∷ (0 ∷ []) ∷ (0 ∷ []) ∷ (3 ∷ []) ∷ [] ∷ []
unfolding nodes_at seek_at kid units_f
nodes = refl

spots : map (λ t. spot_at (levels t) 0 few) texts ≡ 3 ∷ 1 ∷ 3 ∷ 5 ∷ 5 ∷ []
unfolding spot_at seek_at kid units_f
spots = refl

lacks : map (λ t. missing (levels t) few) texts ≡ [] ∷ [] ∷ levels "c/d" ∷ levels "x" ∷ levels "aa" ∷ []
unfolding missing kid
lacks = refl

-- a region in which a forest stands: 64 bytes, its marks, its units
module _ {X : Type 0} (u : Form X) (F : Forest X) (h : List ℕ) (e : length h ≡ 64) where
  unfoldable pub made : List ℕ
  made = h ++ (marks_of 1 F ++ unit_bytes u.write F)

  long : length (h ++ marks_of 1 F) ≡ 64 + units_f F
  long = rw (length-append, e, length_marks 1 F)

  marks_made : part (64 + 0) (units_f F) made ≡ marks_of 1 F
  unfolding part made
  marks_made =
      rw (drop_at h (marks_of 1 F ++ unit_bytes u.write F) 64 e)
      (take_at (marks_of 1 F) (unit_bytes u.write F) (units_f F) (length_marks 1 F))

  units_made : part (64 + units_f F + 0 * 16) (units_f F * 16) made ≡ unit_bytes u.write F
  unfolding part made
  units_made =
      let z : 64 + units_f F + 0 * 16 ≡ 64 + units_f F = omega arith in
      rw (z, ← append_assoc h (marks_of 1 F) (unit_bytes u.write F), drop_at (h ++ marks_of 1 F) (unit_bytes u.write F) (64 + units_f F) long)
      (take_all (units_f F * 16) (unit_bytes u.write F) (rw (length_units u F) (omega arith)))

  pub each_stands : Rows F → Fits u.Small F → Stands u.write u.Small (64 + units_f F) made 1 0 (units_f F) F
  each_stands r f = record { size = sym (zero-add (units_f F)); units = units_made; marks = marks_made; rows = r; fits = f }
