-- `forest::levels::compare` meets its contract. Assumes nothing.
use borrow.Author.Rules.{rules}
use mathlib.Core.Path.{refl, ◌∙◌}
use native.Mathlib.Omega.{arith}
use Rattle.forest.proofs.OrderLaws.{ended, byte-less, byte_greater, byte-same}
use Rattle.forest.proofs.levels.compare.Goals as goal

pub loop-i-init : goal.loop-i-init
loop-i-init c = (refl, omega arith)

pub returns-then-a-i : goal.returns-then-a-i
returns-then-a-i c = search (rules, byte-less)

pub returns-then-b-i : goal.returns-then-b-i
returns-then-b-i c = search (rules, byte_greater)

pub loop-i-preserved : goal.loop-i-preserved
loop-i-preserved c = (search (rules, byte-same), omega arith)

pub returns : goal.returns
returns c = c.cmp.ensures ∙ search (rules, ended)
