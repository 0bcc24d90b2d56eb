-- `trie::slots::slot_of` meets its contract. Assumes nothing.
use Rattle.trie.proofs.SlotLaws.{slot_broken, slot_found, slot_missed}
use borrow.Author.Rules.{rules}
use Rattle.trie.proofs.slots.slot_of.Goals as goal

-- src/slots.rt:18:9
pub returns-then-end-first : goal.returns-then-end-first
returns-then-end-first c = search (rules, slot_broken)

-- src/slots.rt:10:1
pub returns-in-Ok : goal.returns-in-Ok
returns-in-Ok c = search (rules, slot_found)

-- src/slots.rt:9:1
pub returns-in-Err : goal.returns-in-Err
returns-in-Err c = search (rules, slot_missed)
