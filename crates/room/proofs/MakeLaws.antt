-- The steps of each change, together: what was promised. Assumes nothing.
use mathlib.Core.Path.{◌≡◌, ap, ◌∙◌}
use mathlib.Core.List.{List, [], ◌∷◌}
use Prim.Native.Nat.{ℕ, ◌+◌, ◌-◌, ◌*◌, ◌≤◌}
use native.Mathlib.Omega.{arith}
use lib.ListN.{length, replicate}
use Rattle.lent.specs.Parts.{part, patch}
use Rattle.lent.specs.Total.{write, opened, closed}
use Rattle.lent.proofs.Parts.{length_part, length-patch}
use Rattle.lent.proofs.Anywhere.{write_in, open_in}
use Rattle.forest.specs.Places.{unit_at}
use Rattle.held.specs.Order.{Filter}
use Rattle.room.specs.declared.Load.{Load}
use Rattle.room.specs.Runs.{run_bytes, run_marks}
use Rattle.room.specs.Changes.{counted, belows, counts_moved, no_load, one_load, made_run, made_chain, between, put_unit, made_unit, taken_run, taken_chain, cut_unit, taken_unit}

pub length-opened : (at end by : ℕ) (s : List ℕ) → at ≤ end → end + by ≤ length s → length (opened at end by s) ≡ length s
length-opened at end by s h k =
    let l : length (part at (end - at) s) ≡ end - at = length_part at (end - at) s (omega arith) in
    ap length (open_in at end by s k) ∙ length-patch (at + by) (part at (end - at) s) s (omega (arith, l))

pub run_made : (base n place d c : ℕ) (nodes x : List ℕ) (gs : Filter) (s s₁ s₂ s₃ s₄ s₅ : List ℕ)
    → s₁ ≡ belows c 0 base nodes s → s₂ ≡ opened (base + place * 16) (base + n * 16) (c * 16) s₁
    → s₃ ≡ patch (unit_at base place) (run_bytes x gs) s₂ → s₄ ≡ opened (64 + place) (64 + n) c s₃
    → s₅ ≡ patch (64 + place) (run_marks d gs) s₄ → s₅ ≡ made_run base n nodes place d x gs c s
unfolding made_run
run_made base n place d c nodes x gs s s₁ s₂ s₃ s₄ s₅ a b e f g = rw (f, e, b, a) at g

pub chain_made : (base n place d : ℕ) (nodes x : List ℕ) (gs : Filter) (load : Load) (s t u : List ℕ)
    → t ≡ made_run base n nodes place d x gs load.units s → u ≡ counts_moved load no_load t → u ≡ made_chain base n nodes place d x gs load s
unfolding made_chain
chain_made base n place d nodes x gs load s t u a b = rw a at b

pub unit-between : (base n at : ℕ) (x s s₁ s₂ s₃ s₄ : List ℕ) → at ≤ n → unit_at base (n + 1) ≤ length s → 64 + (n + 1) ≤ length s → length x ≡ 16
    → s₁ ≡ opened (base + at * 16) (base + n * 16) 16 s → s₂ ≡ write (base + at * 16) x s₁ → s₃ ≡ opened (64 + at) (64 + n) 1 s₂ → s₄ ≡ write (64 + at) (replicate 1 255) s₃
    → s₄ ≡ between base n at x s
unfolding between
unit-between base n at x s s₁ s₂ s₃ s₄ p q m l c d e f =
    let l₁ : length s₁ ≡ length s = ap length c ∙ length-opened (base + at * 16) (base + n * 16) 16 s (omega arith) (omega arith) in
    let d' : s₂ ≡ patch (base + at * 16) x s₁ = d ∙ write_in (base + at * 16) x s₁ (omega (arith, l₁, l)) in
    let l₂ : length s₂ ≡ length s = ap length d' ∙ length-patch (base + at * 16) x s₁ (omega (arith, l₁, l)) ∙ l₁ in
    let l₃ : length s₃ ≡ length s = ap length e ∙ length-opened (64 + at) (64 + n) 1 s₂ (omega arith) (omega (arith, l₂)) ∙ l₂ in
    f ∙ write_in (64 + at) (255 ∷ []) s₃ (omega (arith, l₃)) ∙ rw (e, d', c)

pub unit_made : (base n node at : ℕ) (nodes x s s₁ s₂ s₃ s₄ : List ℕ) → s₁ ≡ belows 1 0 base nodes s → s₂ ≡ counted (base + node * 16 + 2) 1 0 s₁
    → s₃ ≡ between base n at x s₂ → s₄ ≡ counts_moved one_load no_load s₃ → s₄ ≡ made_unit base n nodes node at x s
unfolding made_unit put_unit
unit_made base n node at nodes x s s₁ s₂ s₃ s₄ a b c d = rw (c, b, a) at d

pub run-taken : (base n at c : ℕ) (nodes s s₁ s₂ s₃ : List ℕ) → s₁ ≡ belows 0 c base nodes s → s₂ ≡ closed (base + at * 16) (base + (n - c) * 16) (c * 16) s₁
    → s₃ ≡ closed (64 + at) (64 + (n - c)) c s₂ → s₃ ≡ taken_run base n nodes at c s
unfolding taken_run
run-taken base n at c nodes s s₁ s₂ s₃ d e f = rw (e, d) at f

pub chain-taken : (base n at : ℕ) (nodes : List ℕ) (load : Load) (s t u : List ℕ) → t ≡ taken_run base n nodes at load.units s → u ≡ counts_moved no_load load t → u ≡ taken_chain base n nodes at load s
unfolding taken_chain
chain-taken base n at nodes load s t u a b = rw a at b

pub unit-taken : (base n node at : ℕ) (nodes s s₁ s₂ s₃ : List ℕ) → s₁ ≡ counted (base + node * 16 + 2) 0 1 s → s₂ ≡ taken_run base n nodes at 1 s₁ → s₃ ≡ counts_moved no_load one_load s₂
    → s₃ ≡ taken_unit base n nodes node at s
unfolding taken_unit cut_unit
unit-taken base n node at nodes s s₁ s₂ s₃ a b c = rw (b, a) at c
