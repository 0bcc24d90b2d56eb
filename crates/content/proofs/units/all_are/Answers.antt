-- `content::units::all_are` meets its contract. Assumes nothing.
use Rattle.std.proofs.Common.{rules, ◌∙◌, ◌==◌, ◌-◌, ℕ, take, drop}
use borrow.Author.Tests.{tests}
use Rattle.std.proofs.lemmas.Iterator.{YieldsList-from_slice}
use Rattle.std.proofs.lemmas.Iterator.Search.{all_from_yields_List}
use Rattle.content.proofs.UnitLaws.{every_part}
use Rattle.content.proofs.units.all_are.Goals as goal

pub returns-else-to-from : goal.returns-else-to-from
returns-else-to-from c =
    let a = c.args in
    all_from_yields_List (λ (x : ℕ). x == a.byte) _ _ c.all.result c.all.ensures.ran (YieldsList-from_slice (take (a.to - a.from) (drop a.from a.s.now)) cc) (λ x b q k. search (rules, tests))
    ∙ every_part a.byte a.from a.to a.s.now
