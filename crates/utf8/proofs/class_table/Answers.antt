-- `utf8::class_table` meets its contract: the table's rule, computed once over its 256 entries. Assumes nothing.
use Rattle.utf8.specs.Classes.{class_of}
use Rattle.utf8.proofs.Rules.{listed}
use Rattle.utf8.proofs.class_table.Goals as goal

pub returns : goal.returns
returns c = record { is = listed class_of 256 }
