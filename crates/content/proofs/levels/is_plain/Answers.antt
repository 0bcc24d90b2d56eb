-- `content::levels::is_plain` meets its contract. Assumes nothing.
use Rattle.std.proofs.Common.{rules, ◌∙◌, ℕ, Bool, true, ◌&&◌}
use borrow.Author.Tests.{tests}
use Rattle.std.proofs.lemmas.Iterator.{YieldsList-from_slice}
use Rattle.std.proofs.lemmas.Iterator.Consumers.{fold_from_yields_List}
use Rattle.content.specs.Contents.{plain_byte}
use Rattle.content.proofs.LevelLaws.{plain_fold}
use Rattle.content.proofs.levels.is_plain.Goals as goal

pub returns : goal.returns
returns c =
    let level = c.args.level.now in
    fold_from_yields_List _ (λ (a : Bool) (b : ℕ). a && plain_byte b) true c.fold.result c.fold.ensures.ran (YieldsList-from_slice level cc) (λ a x b q k. search (rules, tests))
    ∙ plain_fold true level
