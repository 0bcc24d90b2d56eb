-- `trie::inserting::insert_accepted` meets its contract. Assumes nothing.
use Rattle.edit.proofs.KnownPath.{units-told}
use Rattle.trie.proofs.KnownLaws.{too_deep, no_units}
use borrow.Author.Rules.{rules}
use Rattle.trie.proofs.inserting.insert_accepted.Goals as goal

-- src/inserting.rt:67:9
pub returns-then-level_count-gt128 : goal.returns-then-level_count-gt128
returns-then-level_count-gt128 c = search (rules, too_deep)

-- src/inserting.rt:71:9
pub returns-in_default : goal.returns-in_default
returns-in_default c = search (rules, no_units)

-- src/inserting.rt:73:5
pub insert_in-requires : goal.insert_in-requires
insert_in-requires c = search (rules, units-told)
