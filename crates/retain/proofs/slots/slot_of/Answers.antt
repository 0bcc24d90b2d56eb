-- `retain::slots::slot_of` meets its contract. Assumes nothing.
use Rattle.retain.proofs.SlotLaws.{slot_broken, slot_taken, slot_free}
use borrow.Author.Rules.{rules}
use Rattle.retain.proofs.slots.slot_of.Goals as goal

-- src/slots.rt:17:9
pub returns-then-end-first : goal.returns-then-end-first
returns-then-end-first c = search (rules, slot_broken)

pub returns-then-first-end : goal.returns-then-first-end
returns-then-first-end c = search (rules, slot_taken)

-- src/slots.rt:9:1
pub returns : goal.returns
returns c = search (rules, slot_free)
