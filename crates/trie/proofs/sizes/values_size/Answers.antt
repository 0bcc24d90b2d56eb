-- `trie::sizes::values_size` meets its contract. Assumes nothing.
use Rattle.edit.proofs.CountLaws.{no_count}
use borrow.Author.Rules.{rules}
use Rattle.trie.proofs.SizeLaws.{values-counted}
use Rattle.trie.proofs.sizes.values_size.Goals as goal

-- src/sizes.rt:24:9
pub returns-then-not-is_store : goal.returns-then-not-is_store
returns-then-not-is_store c = search (rules, no_count)

-- src/sizes.rt:20:1
pub returns : goal.returns
returns c = search (rules, values-counted)
