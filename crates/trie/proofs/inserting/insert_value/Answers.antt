-- `trie::inserting::insert_value` meets its contract. Assumes nothing.
use Rattle.edit.proofs.AddLaws.{some_depth, last_below, last_under}
use Rattle.trie.proofs.InsertLaws.{value_broken, value_there, value_added}
use borrow.Author.Rules.{rules}
use Rattle.trie.proofs.inserting.insert_value.Goals as goal

pub overflow_sub-last : goal.overflow_sub-last
overflow_sub-last c = search (rules, some_depth)

-- src/inserting.rt:37:9
pub slot_of-requires : goal.slot_of-requires
slot_of-requires c = search (rules, last_below)

-- src/inserting.rt:39:9
pub returns-in_default : goal.returns-in_default
returns-in_default c = search (rules, value_broken)

-- src/inserting.rt:42:9
pub returns-in-Ok : goal.returns-in-Ok
returns-in-Ok c = search (rules, value_there)

-- src/inserting.rt:45:5
pub add_unit-requires : goal.add_unit-requires
add_unit-requires c = search (rules, last_below, last_under)

-- src/inserting.rt:22:1
pub returns-in-Err : goal.returns-in-Err
returns-in-Err c = search (rules, value_added, c.well_formed)
