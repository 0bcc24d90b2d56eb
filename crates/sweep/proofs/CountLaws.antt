-- The header's counts, written. Assumes nothing.
use mathlib.Core.Path.{◌≡◌, ap, ◌∙◌}
use mathlib.Core.List.{List}
use Prim.Native.Nat.{ℕ}
use Rattle.lent.specs.Numbers.{bytes}
use Rattle.lent.specs.Total.{write}
use Rattle.sweep.specs.declared.Kept.{Kept}
use Rattle.sweep.specs.Removed.{counts_put}

pub counts-put : (k : Kept) (s s₁ s₂ s₃ s₄ : List ℕ) → s₁ ≡ write 10 (bytes 2 k.nodes) s → s₂ ≡ write 12 (bytes 2 k.pairs) s₁
    → s₃ ≡ write 14 (bytes 2 k.cells) s₂ → s₄ ≡ write 16 (bytes 2 k.to) s₃ → s₄ ≡ counts_put k s
unfolding counts_put
counts-put k s s₁ s₂ s₃ s₄ a b c d =
    d ∙ ap (write 16 (bytes 2 k.to)) (c ∙ ap (write 14 (bytes 2 k.cells)) (b ∙ ap (write 12 (bytes 2 k.pairs)) a))
