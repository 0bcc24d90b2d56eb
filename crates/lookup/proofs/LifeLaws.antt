-- The time that a record has left, in the words of the code. Assumes nothing.
use Rattle.std.specs.Prelude.{None, Some}
use mathlib.Core.Path.{◌≡◌, sym, ap, ◌∙◌}
use mathlib.Core.Bool.{true, false}
use mathlib.Core.List.{List}
use Prim.Native.Nat.{ℕ, ◌+◌, ◌-◌, ◌*◌, ◌≤◌, ◌<◌}
use native.Mathlib.Omega.{arith}
use lib.Dec.{eqb, leb}
use lib.ListN.{length, drop, get_or}
use lib.Seq.{get_or-drop, get_or-take}
use borrow.Author.Tests.{eq-eqb, ne_eqb, le-leb, lt-leb}
use Rattle.lent.specs.Numbers.{be}
use Rattle.lent.specs.Parts.{part}
use Rattle.lent.specs.Total.{read}
use Rattle.lent.proofs.Parts.{part-part}
use Rattle.lent.proofs.Anywhere.{read_in}
use Rattle.region.specs.Units.{stored_of}
use Rattle.forest.specs.Places.{unit_at}
use Rattle.lookup.specs.Lives.{life_of}

module _ (clock base at : ℕ) (s : List ℕ) (within : unit_at base at + 16 ≤ length s) where
  flag : get_or (part (unit_at base at) 16 s) 4 0 ≡ get_or s (base + at * 16 + 4) 0
  unfolding part
  flag = get_or-take 16 (drop (unit_at base at) s) 4 0 (omega arith) ∙ get_or-drop (unit_at base at) s 4 0

  moment-read : read 8 (base + at * 16 + 8) s ≡ be (part 8 8 (part (unit_at base at) 16 s))
  moment-read = read_in 8 (base + at * 16 + 8) s (omega arith) ∙ ap be (sym (part-part 8 8 (unit_at base at) 16 s (omega arith)))

  -- it has no moment
  pub life_lasting : (get_or s (base + at * 16 + 4) 0 ≡ 1 → ⊥) → Some 0 ≡ life_of clock (stored_of (part (unit_at base at) 16 s))
  unfolding stored_of life_of
  life_lasting h =
      let e : eqb (get_or (part (unit_at base at) 16 s) 4 0) 1 ≡ false = rw flag (ne_eqb (get_or s (base + at * 16 + 4) 0) 1 h) in
      rw e

  module _ (is : get_or s (base + at * 16 + 4) 0 ≡ 1) {m : ℕ} (r : m ≡ read 8 (base + at * 16 + 8) s) where
    set : eqb (get_or (part (unit_at base at) 16 s) 4 0) 1 ≡ true
    set = rw flag (eq-eqb (get_or s (base + at * 16 + 4) 0) 1 is)

    pub life_over : m ≤ clock → None ≡ life_of clock (stored_of (part (unit_at base at) 16 s))
    unfolding stored_of life_of
    life_over h =
        let e : leb (be (part 8 8 (part (unit_at base at) 16 s))) clock ≡ true = le-leb (be (part 8 8 (part (unit_at base at) 16 s))) clock (omega (arith, r, moment-read)) in
        rw (set, e)

    pub life-left : clock < m → Some (m - clock) ≡ life_of clock (stored_of (part (unit_at base at) 16 s))
    unfolding stored_of life_of
    life-left h =
        let e : leb (be (part 8 8 (part (unit_at base at) 16 s))) clock ≡ false = lt-leb (be (part 8 8 (part (unit_at base at) 16 s))) clock (omega (arith, r, moment-read)) in
        let q : m ≡ be (part 8 8 (part (unit_at base at) 16 s)) = r ∙ moment-read in
        rw (set, e, q)
