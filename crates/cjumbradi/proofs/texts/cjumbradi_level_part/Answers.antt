-- `cjumbradi::texts::cjumbradi_level_part` meets its contract. Assumes nothing.
use Prim.Native.Nat.{ℕ}
use mathlib.Core.Path.{ap}
use Rattle.refusal.specs.Refusals.{◌at◌}
use Rattle.cjumbradi.proofs.Tellings.{part_length}
use Rattle.cjumbradi.proofs.texts.cjumbradi_level_part.Goals as goal

pub returns : goal.returns
returns c =
    let a = c.args in record {
      start_value = ap (λ (n : ℕ). 0 at n) c.level_place-at.ensures;
      len_after = part_length a.text.now a.k c.level_place-at.ensures c.level_end.ensures;
    }
