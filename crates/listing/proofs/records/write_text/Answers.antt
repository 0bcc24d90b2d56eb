-- `listing::records::write_text` meets its contract. Assumes nothing.
use borrow.Author.Rules.{rules}
use Rattle.listing.proofs.TextLaws.{text-none, text_some, text_room, text_step, hash_in, text_done}
use Rattle.listing.proofs.records.write_text.Goals as goal

pub loop-j-init : goal.loop-j-init
loop-j-init c = search (rules, text-none)

pub level_stop-stop-requires : goal.level_stop-stop-requires
level_stop-stop-requires c = search (rules, text_some)

pub write_level-next-requires : goal.write_level-next-requires
write_level-next-requires c = search (rules, text_room)

pub loop-j-preserved : goal.loop-j-preserved
loop-j-preserved c = search (rules, text_step)

pub bounds-out-next : goal.bounds-out-next
bounds-out-next c = search (rules, hash_in)

pub returns : goal.returns
returns c = search (rules, text_done)
