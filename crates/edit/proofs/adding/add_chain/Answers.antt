-- `edit::adding::add_chain` meets its contract. Assumes nothing.
use Rattle.edit.proofs.AddLaws.{chain_refused, chain_short, chain_added, nodes-under, chain_deep}
use borrow.Author.Rules.{rules}
use Rattle.std.proofs.lemmas.Result.{err_from_is_err_and}
use Rattle.edit.proofs.adding.add_chain.Goals as goal

-- src/adding.rt:68:9
pub returns-in_err-room_for : goal.returns-in_err-room_for
returns-in_err-room_for c =
    let p = err_from_is_err_and c.from_residual.result c.from_residual.ensures.1 in
    rw (p.1, p.2) (search (rules, chain_refused))

-- src/adding.rt:71:9
pub returns-then-room-n : goal.returns-then-room-n
returns-then-room-n c = search (rules, chain_short)

-- src/adding.rt:74:5
pub make_chain-requires : goal.make_chain-requires
make_chain-requires c = record {
  depth_bound = (search rules, search (rules, nodes-under, c.well_formed), search rules, search rules, search rules);
  wanted_for = (search rules, search rules, search rules, search rules, search (rules, chain_deep));
}

-- src/adding.rt:45:1
pub returns : goal.returns
returns c = search (rules, chain_added)
