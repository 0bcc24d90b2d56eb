-- `walk::nodes::child` meets its contract. Assumes nothing.
use borrow.Author.Rules.{rules}
use native.Mathlib.Omega.{arith}
use Rattle.walk.proofs.NodeLaws.{kid_deep, kid_some, kid-none}
use Rattle.walk.proofs.nodes.child.Goals as goal

pub returns-then-depth-ge128 : goal.returns-then-depth-ge128
returns-then-depth-ge128 c = search (rules, kid_deep)

pub overflow_add-found : goal.overflow_add-found
overflow_add-found c = let w = rw c.in-Ok.is at c.find_child.ensures.1 in omega arith

pub returns-in-Ok : goal.returns-in-Ok
returns-in-Ok c = search (rules, kid_some)

pub returns-in-Err : goal.returns-in-Err
returns-in-Err c = search (rules, kid-none)
