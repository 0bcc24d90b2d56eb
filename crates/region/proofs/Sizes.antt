-- Capacities in range, the bytes that they need, and opening. Assumes nothing.
use Rattle.std.specs.Prelude.{Err, Ok}
use mathlib.Core.Path.{◌≡◌, refl, sym, ap, ◌∙◌}
use mathlib.Core.Bool.{Bool, true, false, not, true≢false}
use mathlib.Core.List.{List, [], ◌∷◌}
use Prim.Native.Nat.{ℕ, ◌+◌, ◌*◌, ◌/◌, ◌%◌, ◌≤◌, ◌<◌}
use lib.ListN.{length}
use native.Mathlib.Omega.{arith}
use lib.Dec.{leb}
use borrow.Author.Tests.{lt-ltb, le-ltb}
use Rattle.lent.specs.Numbers.{bytes}
use Rattle.lent.specs.Parts.{patch}
use Rattle.lent.specs.Total.{write}
use Rattle.lent.proofs.Anywhere.{write_in}
use Rattle.topic.specs.Answers.{checked}
use Rattle.held.specs.Room.{Room, up_to, in_range}
use Rattle.held.proofs.Bounds.{in-range}
use Rattle.refusal.specs.declared.Refusal.TheVariants.{BadSize}
use Rattle.region.specs.Layout.{unit_room, needed_bytes, Used, header_bytes}
use Rattle.region.specs.Opening.{needed_of, open_rules, nothing}

pub up_some : (most n : ℕ) → 0 < n → leb n most ≡ up_to most n
up_some most n h = rw (lt-ltb 0 n h)

-- what fits in range
pub few_units : (r : Room) → in_range r ≡ true → r.nodes + r.pairs + r.cells ≤ 20480
few_units r h = let i = in-range r h in omega (arith, i.nodes.1, i.pairs.1, i.cells.1)

-- the bytes needed, by the units
pub needed_units : (r : Room) → needed_bytes r ≡ 64 + 17 * unit_room r
needed_units r = omega arith

-- the header of a store that holds nothing, byte by byte
pub header_is : (r : Room) (kind : ℕ) {k a b c d e f : ℕ} → k ≡ kind
    → a ≡ r.nodes / 256 % 256 → b ≡ r.nodes % 256 → c ≡ r.pairs / 256 % 256 → d ≡ r.pairs % 256 → e ≡ r.cells / 256 % 256 → f ≡ r.cells % 256
    → 0x43 ∷ 0x4A ∷ k ∷ 1 ∷ a ∷ b ∷ c ∷ d ∷ e ∷ f ∷ 0 ∷ 0 ∷ 0 ∷ 0 ∷ 0 ∷ 0 ∷ 0 ∷ 0 ∷ [] ≡ header_bytes kind r nothing
unfolding header_bytes bytes
header_is r kind ek ea eb ec ed ee ef = rw (ek, ea, eb, ec, ed, ee, ef)

pub length_header : (kind : ℕ) (r : Room) (u : Used) → length (header_bytes kind r u) ≡ 18
unfolding header_bytes bytes
length_header kind r u = refl

-- a test that was turned round
not-false : (t : Bool) → not t ≡ false → t ≡ true
not-false true e = refl
not-false false e = absurd (true≢false e)

-- the answers of `open`
module _ (r : Room) (s : List ℕ) {t : Bool} (et : t ≡ in_range r) where
  module _ (h : not t ≡ false) {n : ℕ} (en : n ≡ needed_bytes r) where
    pub open_written : n ≤ length s → (kind : ℕ) {b u : List ℕ} → b ≡ header_bytes kind r nothing → u ≡ write 0 b s → u ≡ patch 0 (header_bytes kind r nothing) s
    open_written l kind eb e =
        e ∙ ap (λ (x : List ℕ). write 0 x s) eb
        ∙ write_in 0 (header_bytes kind r nothing) s (rw length_header (omega (arith, en)))
