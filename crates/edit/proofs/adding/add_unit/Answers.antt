-- `edit::adding::add_unit` meets its contract. Assumes nothing.
use Rattle.edit.proofs.AddLaws.{add_refused, add_short, unit_added}
use borrow.Author.Rules.{rules}
use Rattle.std.proofs.lemmas.Result.{err_from_is_err_and}
use Rattle.edit.proofs.adding.add_unit.Goals as goal

-- src/adding.rt:35:9
pub returns-in_err-room_for : goal.returns-in_err-room_for
returns-in_err-room_for c =
    let p = err_from_is_err_and c.from_residual.result c.from_residual.ensures.1 in
    rw (p.1, p.2) (search (rules, add_refused))

-- src/adding.rt:38:9
pub returns-then-room-n : goal.returns-then-room-n
returns-then-room-n c = search (rules, add_short)

-- src/adding.rt:19:1
pub returns : goal.returns
returns c = search (rules, unit_added)
