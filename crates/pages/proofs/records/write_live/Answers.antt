-- `pages::records::write_live` meets its contract. Assumes nothing.
use Rattle.pages.proofs.RecordLaws.{live_over, live_in, live_out}
use borrow.Author.Rules.{rules}
use Rattle.pages.proofs.records.write_live.Goals as goal

pub returns-in_default : goal.returns-in_default
returns-in_default c = search (rules, live_over)

pub returns-then-in_page : goal.returns-then-in_page
returns-then-in_page c = search (rules, live_in)

pub returns : goal.returns
returns c = search (rules, live_out)
