-- `cjumbradi::regions::cjumbradi_needed` meets its contract. Assumes nothing.
use Rattle.cjumbradi.proofs.Openings.{needed-told}
use Rattle.cjumbradi.proofs.regions.cjumbradi_needed.Goals as goal

pub returns : goal.returns
returns c =
    needed-told c.capacities.ensures c.tell_changed.ensures c.needed.ensures
