-- `walk::sizes::sizes` meets its contract: the name's remaining bytes fall. Assumes nothing.
use borrow.Author.Rules.{rules}
use native.Mathlib.Omega.{arith}
use Rattle.walk.proofs.NodeLaws.{node_below}
use Rattle.walk.proofs.NextLevel.{steps_next, sizing-plus, sizing_level}
use Rattle.walk.proofs.SizeLaws.{no_sizes, sizes_end, sizes-on}
use Rattle.walk.proofs.sizes.+sizes.Goals as goal

pub returns-in_default : goal.returns-in_default
returns-in_default t c = search (rules, no_sizes)

pub hash_child-all-requires : goal.hash_child-all-requires
hash_child-all-requires t c = search (rules, node_below)

pub returns-then-name-from : goal.returns-then-name-from
returns-then-name-from t c = search (rules, sizes_end)

pub go_on-t-requires : goal.go_on-t-requires
go_on-t-requires t c = search (rules, node_below)

pub sizes-with_any-requires : goal.sizes-with_any-requires
sizes-with_any-requires t c = (search rules, (search rules, search (rules, steps_next), search (rules, sizing-plus)))

pub sizes-requires : goal.sizes-requires
sizes-requires t c =
    let u = c.go_on-t.ensures in
    (omega (arith, c.decreases, u.next.on, u.next.within), (u.own.inside, steps_next _ _ _ _ c.requires.1 u.next, sizing_level _ _ _ _ c.requires.2 u.next))

pub returns : goal.returns
returns t c = search (rules, sizes-on)
