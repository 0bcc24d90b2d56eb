-- `walk::sizes::hash_size` meets its contract. Assumes nothing.
use borrow.Author.Rules.{rules}
use Rattle.walk.proofs.SizeLaws.{hash_some}
use Rattle.walk.proofs.sizes.hash_size.Goals as goal

pub returns-in-Some : goal.returns-in-Some
returns-in-Some c = search (rules, hash_some)
