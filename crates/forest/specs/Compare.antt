-- FOR THE CODE. How two levels stand in a row: `level_lt` of `held`, in three ways. Assumes nothing.
use Rattle.std.specs.Prelude.{ℕ, cond, List}
use Rattle.level.specs.Kinds.{same}
use Rattle.held.specs.Order.{level_lt}
use Rattle.std.specs.declared.cmp.Ordering.{Ordering}
use Rattle.std.specs.declared.cmp.Ordering.TheVariants.{Less, Equal, Greater}

abbrev pub order_of : List ℕ → List ℕ → Ordering
order_of a b = cond (same a b) Equal (cond (level_lt a b) Less Greater)
