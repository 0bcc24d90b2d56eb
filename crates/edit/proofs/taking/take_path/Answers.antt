-- `edit::taking::take_path` meets its contract. Assumes nothing.
use Rattle.edit.proofs.TakeLaws.{path_out, path-none, path-taken, stay-under}
use borrow.Author.Rules.{rules}
use Rattle.edit.proofs.taking.take_path.Goals as goal

-- src/taking.rt:40:9
pub returns-then-n-at : goal.returns-then-n-at
returns-then-n-at c = search (rules, path_out)

-- src/taking.rt:43:9
pub returns-then-n-at-2 : goal.returns-then-n-at-2
returns-then-n-at-2 c = search (rules, path-none)

-- src/taking.rt:45:5
pub take_chain-requires : goal.take_chain-requires
take_chain-requires c = (search rules, search (rules, stay-under), search rules, search rules, search rules)

-- src/taking.rt:24:1
pub returns : goal.returns
returns c = search (rules, path-taken)
