-- `walk::hits::has_match` meets its contract. Assumes nothing.
use borrow.Author.Rules.{rules}
use Rattle.walk.proofs.HitLaws.{listed_hits}
use Rattle.walk.proofs.hits.has_match.Goals as goal

pub returns : goal.returns
returns c = search (rules, listed_hits)
