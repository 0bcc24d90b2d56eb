-- `lookup::lives::life_at` meets its contract. Assumes nothing.
use Rattle.lookup.proofs.LifeLaws.{life_lasting, life_over, life-left}
use borrow.Author.Rules.{rules}
use Rattle.lookup.proofs.lives.life_at.Goals as goal

pub returns-then-s-place-ne1 : goal.returns-then-s-place-ne1
returns-then-s-place-ne1 c = search (rules, life_lasting)

pub returns-then-moment-clock : goal.returns-then-moment-clock
returns-then-moment-clock c = search (rules, life_over)

pub returns : goal.returns
returns c = search (rules, life-left)
