-- `region::open` meets its contract. Assumes nothing.
use Rattle.std.proofs.Common.{rules}
use Rattle.region.proofs.Sizes.{open_written}
use Rattle.region.proofs.open.Goals as goal

pub returns-clause-region_after : goal.returns-clause-region_after
returns-clause-region_after c = search (rules, open_written)
