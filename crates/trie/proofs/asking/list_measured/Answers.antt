-- `trie::asking::list_measured` meets its contract. Assumes nothing.
use Rattle.trie.proofs.AskLaws.{list_empty, list_short, list_given}
use borrow.Author.Rules.{rules}
use Rattle.trie.proofs.asking.list_measured.Goals as goal

-- src/asking.rt:73:9
pub returns-then-bytes-eq0 : goal.returns-then-bytes-eq0
returns-then-bytes-eq0 c = search (rules, list_empty)

-- src/asking.rt:77:9
pub returns-then-out-bytes : goal.returns-then-out-bytes
returns-then-out-bytes c = search (rules, list_short)

-- src/asking.rt:65:1
pub returns : goal.returns
returns c = search (rules, list_given)
