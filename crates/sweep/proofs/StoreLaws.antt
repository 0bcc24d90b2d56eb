-- A store of retained names stays one when it is swept, and holds what a sweep of what it held leaves. Assumes nothing.
use mathlib.Core.Path.{◌≡◌, refl, sym, ap, ◌∙◌}
use mathlib.Core.List.{List}
use Prim.Native.Nat.{ℕ, ◌+◌, ◌≤◌}
use native.Mathlib.Omega.{arith}
use lib.ListN.{length, take, drop, length-drop}
use lib.Seq.{take_all}
use Rattle.lent.specs.Parts.{part}
use Rattle.topic.specs.Rules.{name_rules}
use Rattle.held.specs.Order.{Filter}
use Rattle.held.specs.Ascending.{All}
use Rattle.held.specs.Retained.{Stored, unexpired}
use Rattle.held.specs.Forest.{Forest, held}
use Rattle.held.specs.Edit.{sweep_f}
use Rattle.held.proofs.Entries.{all_keep, all_with}
use Rattle.held.proofs.Names.{sweep_well, sweep-held, keep-held}
use Rattle.region.specs.Layout.{needed_bytes}
use Rattle.region.specs.Units.{stored_of}
use Rattle.region.specs.Shapes.{UnitsOf}
use Rattle.region.specs.Store.{room_at, forest_at, Accepts, RetainedStore}
use Rattle.walk.specs.Height.{height_f}
use Rattle.walk.proofs.HeldHeights.{height-held, Short}
use Rattle.change.proofs.StoreLaws.{retained_holds, holds-retained}
use Rattle.sweep.specs.Removed.{RemovedFrom, Removed, StoreSwept}

-- no deeper than its names
pub retained_low : (s : List ℕ) → RetainedStore s → height_f (forest_at stored_of s) ≤ 128
retained_low s w =
    height-held (forest_at stored_of s) 128 w.well.full
    (all_with (λ (e : Filter × Stored). Accepts name_rules e.0) (Short 128) (λ e a. a.depth) (held (forest_at stored_of s)) w.texts)

-- what stands behind a place is all that stands behind it
drop-same : (b : ℕ) (s t : List ℕ) → length t ≡ length s → ((w : ℕ) → part b w t ≡ part b w s) → drop b t ≡ drop b s
unfolding part
drop-same b s t l e =
    let z : (x : List ℕ) → length x ≡ length s → take (length s) (drop b x) ≡ drop b x = λ x h. take_all (length s) (drop b x) (rw length-drop (omega (arith, h))) in
    sym (z t l) ∙ e (length s) ∙ z s refl

module _ (clock base n room : ℕ) (s t : List ℕ) (r : ℕ) (x : Removed clock base n s t r) (units : UnitsOf s base n room) (w : RetainedStore s) where
  abbrev F : Forest Stored
  F = forest_at stored_of s

  from : RemovedFrom clock s t r F
  from = x.swept F (units.base_is ∙ ap (λ (y : ℕ). 64 + y) units.room_is) units.used_is (retained_holds s w) w.well.owns (retained_low s w)

  texts : All (λ (e : Filter × Stored). Accepts name_rules e.0) (held (sweep_f (unexpired clock) F))
  texts = rw (keep-held (unexpired clock) F) (all_keep (λ (e : Filter × Stored). Accepts name_rules e.0) (λ e. unexpired clock e.1) (held F) w.texts)

  after : RetainedStore t × (forest_at stored_of t ≡ sweep_f (unexpired clock) F)
  after = holds-retained t (sweep_f (unexpired clock) F) from.holds (sweep_well clock F w.well) texts

  pub store_swept : StoreSwept clock s t r
  store_swept =
      record {
        store = after.0;
        held_is = ap held after.1 ∙ sweep-held clock F;
        room = from.room;
        count = from.count;
        framed = record {
          front = refl;
          back = drop-same (needed_bytes (room_at s)) s t x.long (λ v. x.behind (needed_bytes (room_at s)) v (omega (arith, units.base_is, units.room_is, units.within)));
          long = x.long;
        };
      }
