-- Whatever the bytes of a region are, a change writes nothing behind its units. Assumes nothing.
use mathlib.Core.Path.{◌≡◌}
use mathlib.Core.List.{List, [], ◌∷◌}
use Prim.Native.Nat.{ℕ, ◌+◌, ◌-◌, ◌*◌, ◌≤◌, ◌<◌}
use native.Mathlib.Omega.{arith}
use lib.ListN.{length}
use Rattle.lent.specs.Numbers.{bytes}
use Rattle.lent.specs.Parts.{part, patch}
use Rattle.lent.specs.Total.{Framed, read, opened, closed}
use Rattle.lent.proofs.Parts.{length_part, framed-patch, framed-same, framed_trans, framed_wider}
use Rattle.lent.proofs.Anywhere.{write_framed, open_in, close_in}
use Rattle.lent.proofs.Digits.{length-bytes}
use Rattle.held.specs.Order.{Filter}
use Rattle.forest.specs.Places.{unit_at}
use Rattle.room.specs.declared.Load.{Load}
use Rattle.room.specs.Runs.{run_bytes, run_marks, WantedFor}
use Rattle.room.specs.Changes.{moved, counted, belows, counts_moved, no_load, one_load, made_run, made_chain, between, put_unit, made_unit, taken_run, taken_chain, cut_unit, taken_unit, Under, none_under, more_under}
use Rattle.room.proofs.RunLaws.{length_run, length-run_marks}

-- each step, where it ends before e
module _ (e : ℕ) where
  counted-within : (at more less : ℕ) (s : List ℕ) → at + 2 ≤ e → Framed 0 e s (counted at more less s)
  unfolding counted
  counted-within at more less s h =
      framed_wider at (at + length (bytes 2 (moved more less (read 2 at s)))) 0 e s (counted at more less s) (write_framed at (bytes 2 (moved more less (read 2 at s))) s) (omega arith) (rw length-bytes h)

  belows-within : (more less base n : ℕ) (is s : List ℕ) → Under n is → unit_at base n ≤ e → Framed 0 e s (belows more less base is s)
  unfolding belows
  belows-within more less base n [] s none_under h = framed-same 0 e s
  belows-within more less base n (i ∷ is) s (more_under u us) h =
      framed_trans 0 e s (counted (unit_at base i + 4) more less s) (belows more less base is (counted (unit_at base i + 4) more less s))
      (counted-within (unit_at base i + 4) more less s (omega (arith, u, h))) (belows-within more less base n is (counted (unit_at base i + 4) more less s) us h)

  counts-within : (a b : Load) (s : List ℕ) → 18 ≤ e → Framed 0 e s (counts_moved a b s)
  unfolding counts_moved
  counts-within a b s h =
      let s₁ = counted 10 a.nodes b.nodes s in
      let s₂ = counted 12 a.pairs b.pairs s₁ in
      let s₃ = counted 14 a.cells b.cells s₂ in
      framed_trans 0 e s s₁ (counts_moved a b s) (counted-within 10 a.nodes b.nodes s (omega arith))
      (framed_trans 0 e s₁ s₂ (counts_moved a b s) (counted-within 12 a.pairs b.pairs s₁ (omega arith))
      (framed_trans 0 e s₂ s₃ (counts_moved a b s) (counted-within 14 a.cells b.cells s₂ (omega arith)) (counted-within 16 a.units b.units s₃ (omega arith))))

  opened-within : (at end by : ℕ) (s : List ℕ) → at ≤ end → end + by ≤ length s → end + by ≤ e → Framed 0 e s (opened at end by s)
  opened-within at end by s h k l =
      let m : length (part at (end - at) s) ≡ end - at = length_part at (end - at) s (omega arith) in
      rw (open_in at end by s k) (framed-patch 0 e (at + by) (part at (end - at) s) s (omega (arith, m)) (omega arith) (omega (arith, m)))

  closed-within : (at end by : ℕ) (s : List ℕ) → at ≤ end → end + by ≤ length s → end + by ≤ e → Framed 0 e s (closed at end by s)
  closed-within at end by s h k l =
      let m : length (part (at + by) (end - at) s) ≡ end - at = length_part (at + by) (end - at) s (omega arith) in
      rw (close_in at end by s k) (framed-patch 0 e at (part (at + by) (end - at) s) s (omega (arith, m)) (omega arith) (omega (arith, m)))

-- new nodes
module _ (base n : ℕ) (nodes : List ℕ) (place d : ℕ) (x : List ℕ) (gs : Filter) (load : Load) (s : List ℕ) (under : Under n nodes) (at : place ≤ n) (sixteen : length x ≡ 16)
    (wanted : WantedFor gs load) (behind : 64 + (n + load.units) ≤ base) (room : unit_at base (n + load.units) ≤ length s) where
  abbrev e : ℕ
  e = unit_at base (n + load.units)

  pub chain-within : Framed 0 (unit_at base (n + load.units)) s (made_chain base n nodes place d x gs load s)
  unfolding made_chain made_run
  chain-within =
      let c = load.units in
      let s₁ = belows c 0 base nodes s in
      let s₂ = opened (unit_at base place) (unit_at base n) (c * 16) s₁ in
      let s₃ = patch (unit_at base place) (run_bytes x gs) s₂ in
      let s₄ = opened (64 + place) (64 + n) c s₃ in
      let s₅ = patch (64 + place) (run_marks d gs) s₄ in
      let lr = length_run x gs sixteen in
      let lm = length-run_marks d gs in
      let f₁ : Framed 0 e s s₁ = belows-within e c 0 base n nodes s under (omega arith) in
      let f₂ : Framed 0 e s₁ s₂ = opened-within e (unit_at base place) (unit_at base n) (c * 16) s₁ (omega arith) (omega (arith, f₁.long)) (omega arith) in
      let f₃ : Framed 0 e s₂ s₃ = framed-patch 0 e (unit_at base place) (run_bytes x gs) s₂ (omega (arith, lr, wanted.units_are, f₁.long, f₂.long)) (omega arith) (omega (arith, lr, wanted.units_are)) in
      let f₄ : Framed 0 e s₃ s₄ = opened-within e (64 + place) (64 + n) c s₃ (omega arith) (omega (arith, f₁.long, f₂.long, f₃.long)) (omega arith) in
      let f₅ : Framed 0 e s₄ s₅ = framed-patch 0 e (64 + place) (run_marks d gs) s₄ (omega (arith, lm, wanted.units_are, f₁.long, f₂.long, f₃.long, f₄.long)) (omega arith) (omega (arith, lm, wanted.units_are)) in
      framed_trans 0 e s s₁ (made_chain base n nodes place d x gs load s) f₁ (framed_trans 0 e s₁ s₂ (made_chain base n nodes place d x gs load s) f₂
      (framed_trans 0 e s₂ s₃ (made_chain base n nodes place d x gs load s) f₃ (framed_trans 0 e s₃ s₄ (made_chain base n nodes place d x gs load s) f₄
      (framed_trans 0 e s₄ s₅ (made_chain base n nodes place d x gs load s) f₅ (counts-within e load no_load s₅ (omega arith))))))

-- a unit more
module _ (base n : ℕ) (nodes : List ℕ) (node at : ℕ) (x s : List ℕ) (under : Under n nodes) (below : node < n) (in_use : at ≤ n) (sixteen : length x ≡ 16)
    (behind : 64 + (n + 1) ≤ base) (room : unit_at base (n + 1) ≤ length s) where
  pub unit-within : Framed 0 (unit_at base (n + 1)) s (made_unit base n nodes node at x s)
  unfolding made_unit put_unit between
  unit-within =
      let e = unit_at base (n + 1) in
      let s₁ = belows 1 0 base nodes s in
      let s₂ = counted (unit_at base node + 2) 1 0 s₁ in
      let s₃ = opened (unit_at base at) (unit_at base n) 16 s₂ in
      let s₄ = patch (unit_at base at) x s₃ in
      let s₅ = opened (64 + at) (64 + n) 1 s₄ in
      let s₆ = patch (64 + at) (255 ∷ []) s₅ in
      let f₁ : Framed 0 e s s₁ = belows-within e 1 0 base n nodes s under (omega arith) in
      let f₂ : Framed 0 e s₁ s₂ = counted-within e (unit_at base node + 2) 1 0 s₁ (omega arith) in
      let f₃ : Framed 0 e s₂ s₃ = opened-within e (unit_at base at) (unit_at base n) 16 s₂ (omega arith) (omega (arith, f₁.long, f₂.long)) (omega arith) in
      let f₄ : Framed 0 e s₃ s₄ = framed-patch 0 e (unit_at base at) x s₃ (omega (arith, sixteen, f₁.long, f₂.long, f₃.long)) (omega arith) (omega (arith, sixteen)) in
      let f₅ : Framed 0 e s₄ s₅ = opened-within e (64 + at) (64 + n) 1 s₄ (omega arith) (omega (arith, f₁.long, f₂.long, f₃.long, f₄.long)) (omega arith) in
      let f₆ : Framed 0 e s₅ s₆ = framed-patch 0 e (64 + at) (255 ∷ []) s₅ (omega (arith, f₁.long, f₂.long, f₃.long, f₄.long, f₅.long)) (omega arith) (omega arith) in
      framed_trans 0 e s s₁ (made_unit base n nodes node at x s) f₁ (framed_trans 0 e s₁ s₂ (made_unit base n nodes node at x s) f₂ (framed_trans 0 e s₂ s₃ (made_unit base n nodes node at x s) f₃
      (framed_trans 0 e s₃ s₄ (made_unit base n nodes node at x s) f₄ (framed_trans 0 e s₄ s₅ (made_unit base n nodes node at x s) f₅
      (framed_trans 0 e s₅ s₆ (made_unit base n nodes node at x s) f₆ (counts-within e one_load no_load s₆ (omega arith)))))))

-- units taken away
module _ (base n : ℕ) (nodes : List ℕ) (at c : ℕ) (s : List ℕ) (under : Under n nodes) (in_use : at + c ≤ n) (behind : 64 + n ≤ base) (room : unit_at base n ≤ length s) where
  run-within : Framed 0 (unit_at base n) s (taken_run base n nodes at c s)
  unfolding taken_run
  run-within =
      let e = unit_at base n in
      let s₁ = belows 0 c base nodes s in
      let s₂ = closed (unit_at base at) (unit_at base (n - c)) (c * 16) s₁ in
      let f₁ : Framed 0 e s s₁ = belows-within e 0 c base n nodes s under (omega arith) in
      let f₂ : Framed 0 e s₁ s₂ = closed-within e (unit_at base at) (unit_at base (n - c)) (c * 16) s₁ (omega arith) (omega (arith, f₁.long)) (omega arith) in
      framed_trans 0 e s s₁ (taken_run base n nodes at c s) f₁ (framed_trans 0 e s₁ s₂ (taken_run base n nodes at c s) f₂
      (closed-within e (64 + at) (64 + (n - c)) c s₂ (omega arith) (omega (arith, f₁.long, f₂.long)) (omega arith)))

module _ (base n : ℕ) (nodes : List ℕ) (at : ℕ) (s : List ℕ) (under : Under n nodes) (behind : 64 + n ≤ base) (room : unit_at base n ≤ length s) where
  pub taken-within : (load : Load) → at + load.units ≤ n → Framed 0 (unit_at base n) s (taken_chain base n nodes at load s)
  unfolding taken_chain
  taken-within load h =
      framed_trans 0 (unit_at base n) s (taken_run base n nodes at load.units s) (taken_chain base n nodes at load s)
      (run-within base n nodes at load.units s under h behind room) (counts-within (unit_at base n) no_load load (taken_run base n nodes at load.units s) (omega arith))

  pub less-within : (node : ℕ) → node < n → at < n → Framed 0 (unit_at base n) s (taken_unit base n nodes node at s)
  unfolding taken_unit cut_unit
  less-within node h k =
      let s₁ = counted (unit_at base node + 2) 0 1 s in
      let f₁ : Framed 0 (unit_at base n) s s₁ = counted-within (unit_at base n) (unit_at base node + 2) 0 1 s (omega arith) in
      framed_trans 0 (unit_at base n) s s₁ (taken_unit base n nodes node at s) f₁
      (framed_trans 0 (unit_at base n) s₁ (taken_run base n nodes at 1 s₁) (taken_unit base n nodes node at s)
      (run-within base n nodes at 1 s₁ under (omega arith) behind (omega (arith, f₁.long))) (counts-within (unit_at base n) no_load one_load (taken_run base n nodes at 1 s₁) (omega arith)))
