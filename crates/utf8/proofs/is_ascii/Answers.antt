-- `utf8::is_ascii` meets its contract. Assumes nothing.
use Rattle.std.proofs.Common.{rules, ◌≡◌, ◌∙◌, ap, ℕ, max, ltb}
use borrow.Author.Tests.{tests}
use Rattle.std.specs.List.{fold}
use Rattle.std.proofs.lemmas.Iterator.{YieldsList-from_slice}
use Rattle.std.proofs.lemmas.Iterator.Consumers.{fold_from_yields_List}
use Rattle.utf8.proofs.Turns.{greatest}
use Rattle.utf8.proofs.is_ascii.Goals as goal

pub returns : goal.returns
returns c =
    let text = c.args.text.now in
    let top : c.fold.result ≡ fold (λ (a b : ℕ). max a b) 0 text =
    fold_from_yields_List _ (λ (a b : ℕ). max a b) 0 c.fold.result c.fold.ensures.ran (YieldsList-from_slice text cc) (λ a x b q k. search (rules, tests)) in
    ap (λ (n : ℕ). ltb n 0x80) top ∙ greatest 0 text
