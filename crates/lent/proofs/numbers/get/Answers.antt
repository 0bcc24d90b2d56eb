-- `lent::numbers::get` meets its contract. Assumes nothing.
use Rattle.std.proofs.Common.{rules}
use Rattle.lent.proofs.Anywhere.{number_is, number_small, nothing_got}
use Rattle.lent.proofs.Digits.{pow_256}
use Rattle.lent.proofs.numbers.get.Goals as goal

pub returns-then-not-fits : goal.returns-then-not-fits
returns-then-not-fits g c = (search (rules, nothing_got), pow_256 g.row.N)

pub returns : goal.returns
returns g c = (search (rules, number_is), search (rules, number_small, c.type_inv.s))
