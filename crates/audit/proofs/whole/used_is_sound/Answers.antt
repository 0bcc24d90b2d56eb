-- `audit::whole::used_is_sound` meets its contract. Assumes nothing.
use borrow.Author.Rules.{rules}
use Rattle.audit.proofs.WholeLaws.{used_nodes, used_pairs, used_cells, used-units}
use Rattle.audit.proofs.whole.used_is_sound.Goals as goal

pub returns-then-get16 : goal.returns-then-get16
returns-then-get16 c = search (rules, used_nodes)

pub returns-then-get16-2 : goal.returns-then-get16-2
returns-then-get16-2 c = search (rules, used_pairs)

pub returns-then-get16-3 : goal.returns-then-get16-3
returns-then-get16-3 c = search (rules, used_cells)

pub returns : goal.returns
returns c = search (rules, used-units)
