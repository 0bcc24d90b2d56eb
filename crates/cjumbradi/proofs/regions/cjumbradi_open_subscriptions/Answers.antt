-- `cjumbradi::regions::cjumbradi_open_subscriptions` meets its contract. Assumes nothing.
use Rattle.region.specs.declared.Kind.TheVariants.{Subscriptions}
use Rattle.cjumbradi.proofs.Openings.{opened-told}
use Rattle.cjumbradi.proofs.regions.cjumbradi_open_subscriptions.Goals as goal

pub returns : goal.returns
returns c =
    let both = opened-told c.capacities.ensures Subscriptions c.args.region.now c.tell_checked.ensures c.open-opened.ensures.value c.open-opened.ensures.region_after in
    record { place_value = both.0; region_after = both.1 }
