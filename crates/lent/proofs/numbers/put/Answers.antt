-- `lent::numbers::put` meets its contract. Assumes nothing.
use Rattle.std.proofs.Common.{rules}
use Rattle.lent.proofs.Anywhere.{nothing_written}
use Rattle.lent.proofs.Digits.{length-bytes}
use Rattle.lent.proofs.numbers.put.Goals as goal

pub returns-else-fits : goal.returns-else-fits
returns-else-fits g c = search (rules, nothing_written, length-bytes)
