-- `trie::values::unit_of` meets its contract. Assumes nothing.
use Rattle.trie.proofs.SpotLaws.{unit_is}
use borrow.Author.Rules.{rules}
use Rattle.trie.proofs.values.unit_of.Goals as goal

-- src/values.rt:38:1
pub returns : goal.returns
returns c = search (rules, unit_is)
