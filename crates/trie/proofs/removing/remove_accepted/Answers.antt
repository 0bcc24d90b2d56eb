-- `trie::removing::remove_accepted` meets its contract. Assumes nothing.
use Rattle.edit.proofs.KnownPath.{units-told}
use Rattle.trie.proofs.KnownLaws.{deep_absent, no_units, accepted_size}
use borrow.Author.Rules.{rules}
use Rattle.trie.proofs.removing.remove_accepted.Goals as goal

-- src/removing.rt:68:9
pub returns-then-level_count-gt128 : goal.returns-then-level_count-gt128
returns-then-level_count-gt128 c = search (rules, deep_absent)

-- src/removing.rt:72:9
pub returns-in_default : goal.returns-in_default
returns-in_default c = search (rules, no_units)

-- src/removing.rt:74:5
pub remove_in-requires : goal.remove_in-requires
remove_in-requires c = search (rules, units-told, accepted_size)
