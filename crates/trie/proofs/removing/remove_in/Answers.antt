-- `trie::removing::remove_in` meets its contract. Assumes nothing.
use Rattle.trie.proofs.KnownLaws.{missing_absent}
use borrow.Author.Rules.{rules}
use Rattle.trie.proofs.removing.remove_in.Goals as goal

-- src/removing.rt:51:1
pub returns : goal.returns
returns c = search (rules, missing_absent)
