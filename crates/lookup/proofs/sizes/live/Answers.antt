-- `lookup::sizes::live` meets its contract. Assumes nothing.
use Rattle.lookup.proofs.SizeLaws.{live_over, live_in, live_out}
use borrow.Author.Rules.{rules}
use Rattle.lookup.proofs.sizes.live.Goals as goal

pub returns-in_default : goal.returns-in_default
returns-in_default c = search (rules, live_over)

pub returns-then-in_page : goal.returns-then-in_page
returns-then-in_page c = search (rules, live_in)

pub returns : goal.returns
returns c = search (rules, live_out)
