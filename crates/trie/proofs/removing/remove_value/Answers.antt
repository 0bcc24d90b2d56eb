-- `trie::removing::remove_value` meets its contract. Assumes nothing.
use Rattle.edit.proofs.AddLaws.{some_depth, last_below, last_under, nodes-under}
use Rattle.trie.proofs.RemoveLaws.{gone_broken, gone_absent, gone_path, gone_unit}
use borrow.Author.Rules.{rules}
use Rattle.trie.proofs.removing.remove_value.Goals as goal

pub overflow_sub-last : goal.overflow_sub-last
overflow_sub-last c = search (rules, some_depth)

-- src/removing.rt:37:9
pub slot_of-requires : goal.slot_of-requires
slot_of-requires c = search (rules, last_below)

-- src/removing.rt:39:9
pub returns-in_default : goal.returns-in_default
returns-in_default c = search (rules, gone_broken)

-- src/removing.rt:42:9
pub returns-in_default-slot : goal.returns-in_default-slot
returns-in_default-slot c = search (rules, gone_absent)

-- src/removing.rt:44:8
pub is_alone-requires : goal.is_alone-requires
is_alone-requires c = search (rules, last_below)

-- src/removing.rt:45:9
pub take_path-requires : goal.take_path-requires
take_path-requires c = (search (rules, some_depth), search rules, search (rules, nodes-under), search rules, search rules, search rules)

-- src/removing.rt:45:9
pub returns-then-is_alone : goal.returns-then-is_alone
returns-then-is_alone c = search (rules, gone_path, c.well_formed)

-- src/removing.rt:47:5
pub take_unit-requires : goal.take_unit-requires
take_unit-requires c = (search rules, search (rules, last_under), search (rules, last_below), search rules, search rules)

-- src/removing.rt:21:1
pub returns : goal.returns
returns c = search (rules, gone_unit, c.well_formed)
