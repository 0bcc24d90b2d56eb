-- The search by halving: what is left of a row stands in its units, and the child is found there as in the whole row. Assumes nothing.
use Rattle.std.specs.Prelude.{Result, Ok, Err}
use mathlib.Core.Path.{◌≡◌, refl, sym, ◌∙◌}
use mathlib.Core.Bool.{true}
use mathlib.Core.List.{List}
use mathlib.Core.Logic.{⊎_elim}
use Prim.Native.Nat.{ℕ, ◌+◌, ◌≤◌, ◌<◌, max}
use native.Mathlib.Omega.{arith}
use Rattle.lent.proofs.Anywhere.{lt-or_ge}
use Rattle.held.specs.Order.{Level, level_lt}
use Rattle.held.specs.Forest.{Forest, leaf, fork}
use Rattle.held.specs.Walks.{kid}
use Rattle.region.specs.Layout.{units_f}
use Rattle.region.specs.Forms.{whole, Whole}
use Rattle.region.proofs.Instances.{wholes}
use Rattle.forest.specs.declared.Row.{Row}
use Rattle.std.specs.declared.cmp.Ordering.{Ordering}
use Rattle.std.specs.declared.cmp.Ordering.TheVariants.{Less, Equal, Greater}
use Rattle.forest.specs.Places.{kids_end, level_in, RowAt}
use Rattle.forest.specs.Compare.{order_of}
use Rattle.forest.specs.Stands.{Stands, raw_in, RawStands}
use Rattle.forest.specs.Paths.{seek_at}
use Rattle.seek.specs.declared.Probe.{Probe}
use Rattle.seek.specs.Child.{child_at, child_of}
use Rattle.seek.specs.Probe.{Probed}
use Rattle.seek.proofs.Parted.{mark-first}
use Rattle.seek.proofs.Compared.{order-less, order-equal, order_greater}
use Rattle.seek.proofs.Turns.{Turn, turn_at}

-- what is left of a row, if it stands: it stands too, and the child is found there as in the whole
pub record Left (base : ℕ) (s : List ℕ) (g : Level) (d lo hi a b : ℕ) : Type 0 where
  pub row : Forest (List ℕ)
  pub stands : Stands whole Whole base s d a b row
  pub same_child : child_of g a row ≡ child_of g lo (raw_in base s lo hi)

pub record Narrowed (base : ℕ) (s : List ℕ) (g : Level) (d lo hi a b : ℕ) : Type 0 where
  pub depth : d < 255
  pub left : RawStands base s d lo hi → Left base s g d lo hi a b

pub narrow-all : (base : ℕ) (s : List ℕ) (g : Level) (d lo hi : ℕ) → d < 255 → Narrowed base s g d lo hi lo hi
narrow-all base s g d lo hi h = record { depth = h; left = λ w. record { row = raw_in base s lo hi; stands = w; same_child = refl } }

child-none : {X : Type 0} (g : Level) (at : ℕ) (F : Forest X) → units_f F ≡ 0 → child_of g at F ≡ Err at
unfolding child_of seek_at kid units_f
child-none g at leaf h = refl
child-none g at (fork t v k n) h = absurd (omega arith)

child-same : (i : ℕ) {e f p q : ℕ} → e ≡ f → p ≡ q → child_at i e p ≡ child_at i f q
child-same i a b = rw (a, b)

module _ (base : ℕ) (s : List ℕ) (g : Level) (d lo hi a b : ℕ) where
  pub narrow-none : Narrowed base s g d lo hi a b → b ≤ a → RawStands base s d lo hi → Err a ≡ child_of g lo (raw_in base s lo hi)
  narrow-none k h w =
      let l = k.left w in
      sym (child-none g a l.row (omega (arith, l.stands.size))) ∙ l.same_child

  -- a turn, in the words of the code
  module _ (p : Probe) (l : List ℕ) (o : Ordering) (k : Narrowed base s g d lo hi a b) (probed : Probed s d a b p)
      (read : l ≡ level_in base s p.node b) (order : o ≡ order_of l g) where
    turn : (w : RawStands base s d lo hi) → Turn base s g d a b p.node (k.left w).row
    turn w = turn_at base s g d a b p.node (k.left w).row (k.left w).stands k.depth probed.low (omega (arith, probed.high, probed.before)) probed.flat

    pub narrow_greater : o ≡ Greater → Narrowed base s g d lo hi a p.node
    narrow_greater q =
        record {
          depth = k.depth;
          left = λ w.
              let t : level_lt g (level_in base s p.node b) ≡ true = rw read at (order_greater l g (sym order ∙ q)) in
              record { row = (turn w).before; stands = (turn w).stands_before; same_child = (turn w).greater t ∙ (k.left w).same_child };
        }

    -- with the row that was read
    module _ (r : Row) (row : RowAt base s p.node b r) where
      -- the sibling holds the unit mid
      holds : (w : RawStands base s d lo hi) → p.mid < kids_end base s p.node b
      holds w =
          ⊎_elim (λ (h : p.mid < kids_end base s p.node b). h)
          (λ (h : kids_end base s p.node b ≤ p.mid).
          absurd (omega (
            arith,
            probed.deep (kids_end base s p.node b) (omega (arith, row.on, row.within, row.past_is)) h,
            mark-first wholes base s d (kids_end base s p.node b) b (turn w).behind (turn w).stands_behind (omega (arith, probed.before)),
          )))
          (lt-or_ge p.mid (kids_end base s p.node b))

      pub narrow-less : (x : ℕ) → x ≡ max r.past (p.mid + 1) → o ≡ Less → Narrowed base s g d lo hi x b
      narrow-less x e q =
          record {
            depth = k.depth;
            left = λ w.
                let z : kids_end base s p.node b ≡ x = omega (arith, row.past_is, holds w) in
                let t : level_lt (level_in base s p.node b) g ≡ true = rw read at (order-less l g (sym order ∙ q)) in
                record {
                  row = (turn w).behind;
                  stands = rw z at (turn w).stands_behind;
                  same_child = rw z at ((turn w).less t) ∙ (k.left w).same_child;
                };
          }

      pub narrow-equal : o ≡ Equal → RawStands base s d lo hi → child_at p.node r.end r.past ≡ child_of g lo (raw_in base s lo hi)
      narrow-equal q w =
          let t : level_in base s p.node b ≡ g = sym read ∙ order-equal l g (sym order ∙ q) in
          child-same p.node row.end_is row.past_is ∙ (turn w).equal t ∙ (k.left w).same_child
