-- `audit::whole::is_store` meets its contract. Assumes nothing.
use native.Mathlib.Omega.{arith}
use Rattle.audit.proofs.WholeLaws.{decides}
use Rattle.audit.proofs.whole.is_store.Goals as goal

pub returns : goal.returns
returns c =
    decides c.args.kind c.args.region.now (λ i. omega (arith, c.shared_slice_known-1.given i)) c.is_sound.ensures
