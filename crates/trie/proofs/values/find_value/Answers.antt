-- `trie::values::find_value` meets its contract. Assumes nothing.
use Rattle.trie.proofs.SpotLaws.{spot_begin, spot_before, spot_found, spot_again, spot_end}
use borrow.Author.Rules.{rules}
use Rattle.trie.proofs.values.find_value.Goals as goal

-- src/values.rt:18:5
pub loop-k-init : goal.loop-k-init
loop-k-init c = search (rules, spot_begin)

-- src/values.rt:21:13
pub returns-then-wanted-v : goal.returns-then-wanted-v
returns-then-wanted-v c = search (rules, spot_before)

-- src/values.rt:27:13
pub returns-then-wanted-v-2 : goal.returns-then-wanted-v-2
returns-then-wanted-v-2 c = search (rules, spot_found)

-- src/values.rt:18:5
pub loop-k-preserved : goal.loop-k-preserved
loop-k-preserved c = search (rules, spot_again)

-- src/values.rt:12:1
pub returns : goal.returns
returns c = search (rules, spot_end)
