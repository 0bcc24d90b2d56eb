-- A turn of the pass over the rows, as the code makes it. Assumes nothing.
use Rattle.std.specs.Prelude.{None, Option, Some}
use mathlib.Core.Path.{◌≡◌, sym, ◌∙◌}
use Prim.Native.Nat.{ℕ, ◌+◌, ◌-◌, ◌/◌, ◌≤◌, ◌<◌}
use mathlib.Core.Bool.{Bool, true, false, not, cond}
use mathlib.Core.List.{List}
use native.Mathlib.Omega.{arith}
use lib.Dec.{ltb, leb}
use lib.ListN.{length}
use borrow.Author.Tests.{lt-ltb, le-ltb, le-leb, lt-leb, not-false, not-true}
use Rattle.held.specs.Order.{Level}
use Rattle.region.specs.declared.Kind.{Kind}
use Rattle.forest.specs.Places.{unit_at, len_at, own_at, row_end, kids_end, level_in}
use Rattle.audit.specs.declared.Head.{Head}
use Rattle.audit.specs.declared.Left.{Left}
use Rattle.audit.specs.Heads.{HeadAt}
use Rattle.audit.specs.Tests.{end_at, past_at, row_fine, node_fine}
use Rattle.audit.specs.Tally.{on_sound, taken, tally}
use Rattle.audit.proofs.Turns.{tally-none, tally_some}

module _ (k : Kind) (base : ℕ) (s : List ℕ) (d room i n : ℕ) (a : Left) {o : Option Left} (turn : tally k base s d room i n a ≡ o) where
  pub pass_end : n ≤ i → Some a ≡ o
  pass_end h = sym (tally-none k base s d room i n a h) ∙ turn

  module _ (some : i < n) (within : unit_at base n ≤ length s) {h : Head} (e : HeadAt base s i h) where
    end_is : i + (h.len + 23) / 16 + h.own ≡ end_at base s i
    end_is = rw (e.len_is, e.own_is)

    past_is : i + (h.len + 23) / 16 + h.own + h.below ≡ past_at base s i
    past_is = rw (e.len_is, e.own_is, e.below_is)

    here : tally k base s d room i n a
        ≡ cond (node_fine k base s d room i n)
        (on_sound (taken a (level_in base s i n) (own_at base s i))
        (λ b. on_sound (tally k base s (d + 1) (room - (len_at base s i + 1)) (row_end base s i n) (kids_end base s i n) b)
        (λ c. tally k base s d room (kids_end base s i n) n c)))
        None
    here = tally_some k base s d room i n a some within

    refused : node_fine k base s d room i n ≡ false → None ≡ o
    refused q = sym (here ∙ rw q) ∙ turn

    pub pass_cut : n < i + (h.len + 23) / 16 + h.own + h.below → None ≡ o
    unfolding node_fine
    pass_cut x = refused (rw (lt-leb (past_at base s i) n (rw past_is at x)))

    module _ (fits : i + (h.len + 23) / 16 + h.own + h.below ≤ n) where
      fit : leb (past_at base s i) n ≡ true
      fit = le-leb (past_at base s i) n (rw past_is at fits)

      pub pass_deep : 128 < d → None ≡ o
      unfolding node_fine
      pass_deep x = refused (rw (fit, lt-leb d 128 x))

      module _ (deep : d ≤ 128) where
        pub pass_wide : room ≤ h.len → None ≡ o
        unfolding node_fine
        pass_wide x = refused (rw (fit, le-leb d 128 deep, le-ltb (len_at base s i) room (rw e.len_is at x)))

        module _ (wide : h.len < room) {w : Bool} (ew : w ≡ row_fine k base s d i n) where
          narrow : ltb (len_at base s i) room ≡ true
          narrow = lt-ltb (len_at base s i) room (rw e.len_is at wide)

          pub pass_row : not w ≡ true → None ≡ o
          unfolding node_fine
          pass_row x = refused (rw (fit, le-leb d 128 deep, narrow, sym ew ∙ not-true w x))

          module _ (hw : not w ≡ false) {l : Level} (el : l ≡ level_in base s i n) {x : Option Left} (ex : x ≡ taken a l h.own) where
            fine : node_fine k base s d room i n ≡ true
            unfolding node_fine
            fine = rw (fit, le-leb d 128 deep, narrow, sym ew ∙ not-false w hw)

            takes : x ≡ taken a (level_in base s i n) (own_at base s i)
            takes = ex ∙ rw (el, e.own_is)

            ends : row_end base s i n ≡ i + (h.len + 23) / 16 + h.own
            unfolding row_end
            ends = omega (arith, end_is, past_is)

            pasts : kids_end base s i n ≡ i + (h.len + 23) / 16 + h.own + h.below
            unfolding kids_end
            pasts = rw ends (omega (arith, past_is, e.below_is))

            onward : on_sound x (λ b. on_sound (tally k base s (d + 1) (room - (h.len + 1)) (i + (h.len + 23) / 16 + h.own) (i + (h.len + 23) / 16 + h.own + h.below) b)
                (λ c. tally k base s d room (i + (h.len + 23) / 16 + h.own + h.below) n c)) ≡ o
            onward = rw (takes, ← pasts, ← ends, e.len_is) (sym (here ∙ rw fine) ∙ turn)

            pub pass-taken : x ≡ None → None ≡ o
            pass-taken q = rw q at onward

            module _ {r : Left} (er : x ≡ Some r) where
              pub pass_leaf : h.below ≡ 0 → tally k base s d room (i + (h.len + 23) / 16 + h.own + h.below) n r ≡ o
              pass_leaf z =
                  let t = tally-none k base s (d + 1) (room - (h.len + 1)) (i + (h.len + 23) / 16 + h.own) (i + (h.len + 23) / 16 + h.own + h.below) r (omega arith) in
                  rw t at (rw er at onward)

              module _ {y : Option Left} (ey : y ≡ tally k base s (d + 1) (room - (h.len + 1)) (i + (h.len + 23) / 16 + h.own) (i + (h.len + 23) / 16 + h.own + h.below) r) where
                pub pass_below : y ≡ None → None ≡ o
                pass_below q = rw (sym ey ∙ q) at (rw er at onward)

                pub pass_on : {c : Left} → y ≡ Some c → tally k base s d room (i + (h.len + 23) / 16 + h.own + h.below) n c ≡ o
                pass_on q = rw (sym ey ∙ q) at (rw er at onward)

-- what comes of a row whose tests pass, by what it takes
pub record Passed (k : Kind) (base : ℕ) (s : List ℕ) (d room i n : ℕ) (h : Head) (x o : Option Left) : Type 0 where
  pub taken : x ≡ None → None ≡ o
  pub leaf : {r : Left} → x ≡ Some r → h.below ≡ 0 → tally k base s d room (i + (h.len + 23) / 16 + h.own + h.below) n r ≡ o
  pub below : {r : Left} {y : Option Left} → x ≡ Some r → y ≡ tally k base s (d + 1) (room - (h.len + 1)) (i + (h.len + 23) / 16 + h.own) (i + (h.len + 23) / 16 + h.own + h.below) r
      → y ≡ None → None ≡ o
  pub on : {r c : Left} {y : Option Left} → x ≡ Some r → y ≡ tally k base s (d + 1) (room - (h.len + 1)) (i + (h.len + 23) / 16 + h.own) (i + (h.len + 23) / 16 + h.own + h.below) r
      → y ≡ Some c → tally k base s d room (i + (h.len + 23) / 16 + h.own + h.below) n c ≡ o

pub passed : (k : Kind) (base : ℕ) (s : List ℕ) (d room i n : ℕ) (a : Left) {o : Option Left} → tally k base s d room i n a ≡ o → i < n → unit_at base n ≤ length s → {h : Head} → HeadAt base s i h
    → i + (h.len + 23) / 16 + h.own + h.below ≤ n → d ≤ 128 → h.len < room → {w : Bool} → w ≡ row_fine k base s d i n → not w ≡ false
    → {l : Level} → l ≡ level_in base s i n → {x : Option Left} → x ≡ taken a l h.own → Passed k base s d room i n h x o
passed k base s d room i n a turn some within e fits deep wide ew hw el ex =
    record {
      taken = pass-taken k base s d room i n a turn some within e fits deep wide ew hw el ex;
      leaf = λ er z. pass_leaf k base s d room i n a turn some within e fits deep wide ew hw el ex er z;
      below = λ er ey q. pass_below k base s d room i n a turn some within e fits deep wide ew hw el ex er ey q;
      on = λ er ey q. pass_on k base s d room i n a turn some within e fits deep wide ew hw el ex er ey q;
    }
