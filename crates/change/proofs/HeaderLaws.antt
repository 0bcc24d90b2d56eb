-- The header of a region whose counts are moved. Assumes nothing.
use mathlib.Core.Path.{◌≡◌, sym, ap, ◌∙◌}
use mathlib.Core.List.{List, ◌∷◌, ◌++◌, append_assoc}
use Prim.Native.Nat.{ℕ, ◌≤◌, ◌<◌}
use lib.ListN.{length, drop, length-append}
use Rattle.lent.specs.Numbers.{bytes}
use Rattle.lent.specs.Parts.{part}
use Rattle.lent.specs.Total.{Framed}
use Rattle.lent.proofs.Digits.{length-bytes}
use Rattle.held.specs.Room.{Room}
use Rattle.region.specs.Layout.{Used, header_bytes}
use Rattle.region.proofs.Sizes.{length_header}
use Rattle.room.specs.declared.Load.{Load}
use Rattle.room.specs.Changes.{moved, counted, counts_moved}
use Rattle.room.proofs.Middle.{counted_mid}
use Rattle.change.proofs.ViewLaws.{split_at, replaced}

-- what is in use then
abbrev pub used_moved : (more less : Load) → Used → Used
used_moved a b u =
    record {
      nodes = moved a.nodes b.nodes u.nodes;
      pairs = moved a.pairs b.pairs u.pairs;
      cells = moved a.cells b.cells u.cells;
      units = moved a.units b.units u.units;
    }

pub record SmallUsed (u : Used) : Type 0 where
  pub nodes_small : u.nodes < 65536
  pub pairs_small : u.pairs < 65536
  pub cells_small : u.cells < 65536
  pub units_small : u.units < 65536

module _ (kind : ℕ) (r : Room) (u : Used) (a b : Load) (s : List ℕ) (e : part 0 18 s ≡ header_bytes kind r u) (small : SmallUsed u) (long : 18 ≤ length s) where
  abbrev ten : List ℕ
  ten = 0x43 ∷ 0x4A ∷ kind ∷ 1 ∷ (bytes 2 r.nodes ++ (bytes 2 r.pairs ++ bytes 2 r.cells))

  ten_long : length ten ≡ 10
  ten_long = rw (length-append, length-append, length-bytes, length-bytes, length-bytes)

  abbrev tail : List ℕ
  tail = drop 18 s

  shape : (n p c m : ℕ) → header_bytes kind r (record { nodes = n; pairs = p; cells = c; units = m }) ++ tail
      ≡ ten ++ (bytes 2 n ++ (bytes 2 p ++ (bytes 2 c ++ (bytes 2 m ++ tail))))
  unfolding header_bytes
  shape n p c m = simp append_assoc

  moved_all : counts_moved a b s ≡ header_bytes kind r (used_moved a b u) ++ tail
  unfolding counts_moved
  moved_all =
      let n' = moved a.nodes b.nodes u.nodes in
      let p' = moved a.pairs b.pairs u.pairs in
      let c' = moved a.cells b.cells u.cells in
      let m' = moved a.units b.units u.units in
      let b2 : (x : ℕ) → length (bytes 2 x) ≡ 2 = λ x. length-bytes 2 x in
      let s₀ : s ≡ ten ++ (bytes 2 u.nodes ++ (bytes 2 u.pairs ++ (bytes 2 u.cells ++ (bytes 2 u.units ++ tail)))) =
      split_at 0 18 s long ∙ rw e (shape u.nodes u.pairs u.cells u.units) in
      let s₁ : counted 10 a.nodes b.nodes s ≡ (ten ++ bytes 2 n') ++ (bytes 2 u.pairs ++ (bytes 2 u.cells ++ (bytes 2 u.units ++ tail))) =
      ap (counted 10 a.nodes b.nodes) s₀ ∙ counted_mid a.nodes b.nodes u.nodes ten (bytes 2 u.pairs ++ (bytes 2 u.cells ++ (bytes 2 u.units ++ tail))) 10 ten_long small.nodes_small
      ∙ sym (append_assoc ten (bytes 2 n') (bytes 2 u.pairs ++ (bytes 2 u.cells ++ (bytes 2 u.units ++ tail)))) in
      let l₁ : length (ten ++ bytes 2 n') ≡ 12 = length-append ten (bytes 2 n') ∙ rw (ten_long, b2 n') in
      let s₂ : counted 12 a.pairs b.pairs (counted 10 a.nodes b.nodes s) ≡ (ten ++ bytes 2 n' ++ bytes 2 p') ++ (bytes 2 u.cells ++ (bytes 2 u.units ++ tail)) =
      ap (counted 12 a.pairs b.pairs) s₁ ∙ counted_mid a.pairs b.pairs u.pairs (ten ++ bytes 2 n') (bytes 2 u.cells ++ (bytes 2 u.units ++ tail)) 12 l₁ small.pairs_small
      ∙ sym (append_assoc (ten ++ bytes 2 n') (bytes 2 p') (bytes 2 u.cells ++ (bytes 2 u.units ++ tail))) in
      let l₂ : length (ten ++ bytes 2 n' ++ bytes 2 p') ≡ 14 = length-append (ten ++ bytes 2 n') (bytes 2 p') ∙ rw (l₁, b2 p') in
      let s₃ : counted 14 a.cells b.cells (counted 12 a.pairs b.pairs (counted 10 a.nodes b.nodes s)) ≡ (ten ++ bytes 2 n' ++ bytes 2 p' ++ bytes 2 c') ++ (bytes 2 u.units ++ tail) =
      ap (counted 14 a.cells b.cells) s₂ ∙ counted_mid a.cells b.cells u.cells (ten ++ bytes 2 n' ++ bytes 2 p') (bytes 2 u.units ++ tail) 14 l₂ small.cells_small
      ∙ sym (append_assoc (ten ++ bytes 2 n' ++ bytes 2 p') (bytes 2 c') (bytes 2 u.units ++ tail)) in
      let l₃ : length (ten ++ bytes 2 n' ++ bytes 2 p' ++ bytes 2 c') ≡ 16 = length-append (ten ++ bytes 2 n' ++ bytes 2 p') (bytes 2 c') ∙ rw (l₂, b2 c') in
      ap (counted 16 a.units b.units) s₃ ∙ counted_mid a.units b.units u.units (ten ++ bytes 2 n' ++ bytes 2 p' ++ bytes 2 c') tail 16 l₃ small.units_small
      ∙ rw (shape n' p' c' m') (simp append_assoc)

  pub header-moved : part 0 18 (counts_moved a b s) ≡ header_bytes kind r (used_moved a b u)
  header-moved = (replaced 0 18 s long (header_bytes kind r (used_moved a b u)) (counts_moved a b s) (length_header kind r (used_moved a b u)) moved_all).0

  pub framed-moved : Framed 0 18 s (counts_moved a b s)
  framed-moved = (replaced 0 18 s long (header_bytes kind r (used_moved a b u)) (counts_moved a b s) (length_header kind r (used_moved a b u)) moved_all).1
