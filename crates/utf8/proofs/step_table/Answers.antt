-- `utf8::step_table` meets its contract: the table's rule, computed once over all that can be due and all octets. Assumes nothing.
use mathlib.Core.Path.{refl}
use Rattle.utf8.proofs.Turns.{step-table}
use Rattle.utf8.proofs.step_table.Goals as goal

pub returns : goal.returns
returns c = step-table _ refl refl
