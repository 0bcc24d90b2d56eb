-- `pages::texts::write_text` meets its contract. Assumes nothing.
use Rattle.pages.proofs.TextLaws.{text-none, text_in, text_room, text_step, text_done}
use borrow.Author.Rules.{rules}
use Rattle.pages.proofs.texts.write_text.Goals as goal

pub loop-j-init : goal.loop-j-init
loop-j-init c = search (rules, text-none)

pub level_at-requires : goal.level_at-requires
level_at-requires c = search (rules, text_in)

pub write_level-next-requires : goal.write_level-next-requires
write_level-next-requires c = search (rules, text_room)

pub loop-j-preserved : goal.loop-j-preserved
loop-j-preserved c =
    text_step _ _ _ _ _ _ _ _ _ _ c.loop-j.invariant (search rules) (search rules) _ _ c.write_level-next.ensures

pub returns : goal.returns
returns c = search (rules, text_done)
