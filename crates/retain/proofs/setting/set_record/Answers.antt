-- `retain::setting::set_record` meets its contract. Assumes nothing.
use Rattle.edit.proofs.AddLaws.{some_depth, last_below, last_under}
use Rattle.retain.proofs.SetLaws.{record_broken, record_over, record_added}
use borrow.Author.Rules.{rules}
use Rattle.retain.proofs.setting.set_record.Goals as goal

pub overflow_sub-last : goal.overflow_sub-last
overflow_sub-last c = search (rules, some_depth)

-- src/setting.rt:39:9
pub slot_of-requires : goal.slot_of-requires
slot_of-requires c = search (rules, last_below)

-- src/setting.rt:41:9
pub returns-in_default : goal.returns-in_default
returns-in_default c = search (rules, record_broken)

-- src/setting.rt:46:9
pub returns-in-Ok : goal.returns-in-Ok
returns-in-Ok c = search (rules, record_over, c.well_formed)

-- src/setting.rt:48:5
pub add_unit-requires : goal.add_unit-requires
add_unit-requires c = search (rules, last_below, last_under)

-- src/setting.rt:23:1
pub returns-in-Err : goal.returns-in-Err
returns-in-Err c = search (rules, record_added, c.well_formed)
