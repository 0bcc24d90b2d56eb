-- `walk::hits::hits` meets its contract: the name's remaining bytes fall. Assumes nothing.
use borrow.Author.Rules.{rules}
use Rattle.walk.proofs.NodeLaws.{node_below}
use Rattle.walk.proofs.NextLevel.{steps_next}
use Rattle.walk.proofs.HitLaws.{no_node, own_hits, end_hits, hash_hits, plus_hits, level_hits}
use Rattle.walk.proofs.hits.+hits.Goals as goal

pub returns-in_default : goal.returns-in_default
returns-in_default t c = search (rules, no_node)

pub hash_child-all-requires : goal.hash_child-all-requires
hash_child-all-requires t c = search (rules, node_below)

pub returns-then-values-end : goal.returns-then-values-end
returns-then-values-end t c = search (rules, own_hits)

pub returns-then-name-from : goal.returns-then-name-from
returns-then-name-from t c = search (rules, end_hits)

pub returns-then-has_values : goal.returns-then-has_values
returns-then-has_values t c = search (rules, hash_hits)

pub plus_child-any-requires : goal.plus_child-any-requires
plus_child-any-requires t c = search (rules, node_below)

pub hits-requires : goal.hits-requires
hits-requires t c = (search rules, (search rules, search (rules, steps_next)))

pub returns-then-hits : goal.returns-then-hits
returns-then-hits t c = search (rules, plus_hits)

pub child-own-requires : goal.child-own-requires
child-own-requires t c = search (rules, node_below)

pub hits-requires-2 : goal.hits-requires-2
hits-requires-2 t c = (search rules, (search rules, search (rules, steps_next)))

pub returns : goal.returns
returns t c = search (rules, level_hits)
