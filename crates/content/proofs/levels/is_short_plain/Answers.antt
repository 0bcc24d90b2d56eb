-- `content::levels::is_short_plain` meets its contract. Assumes nothing.
use Rattle.std.proofs.Common.{rules, ◌∙◌, ℕ, Bool, true, cond, ltb, eqb, ◌&&◌}
use native.Mathlib.Nat.{sub-zero}
use borrow.Author.Tests.{tests}
use Rattle.std.proofs.lemmas.Iterator.{YieldsList-from_slice}
use Rattle.std.proofs.lemmas.Iterator.Consumers.{YieldsList-from_enumerate, fold_from_yields_List}
use Rattle.content.specs.Contents.{plain_byte}
use Rattle.content.proofs.LevelLaws.{short_fold}
use Rattle.content.proofs.levels.is_short_plain.Goals as goal

pub returns : goal.returns
returns c =
    let len = c.args.len in
    let unit = c.args.unit.now in
    fold_from_yields_List _ (λ (a : Bool) (p : ℕ × ℕ). a && cond (ltb p.0 len) (plain_byte p.1) (eqb p.1 0)) true c.fold.result c.fold.ensures.ran
    (YieldsList-from_enumerate (YieldsList-from_slice unit cc) cc) (λ a x b q k. search (rules, tests))
    ∙ rw sub-zero at (short_fold len 0 true unit)
