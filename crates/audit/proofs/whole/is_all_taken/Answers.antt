-- `audit::whole::is_all_taken` meets its contract. Assumes nothing.
use Rattle.audit.proofs.whole.is_all_taken.Goals as goal

pub returns-in-Some : goal.returns-in-Some
returns-in-Some c = rw c.in-Some.is c.is_none.ensures
