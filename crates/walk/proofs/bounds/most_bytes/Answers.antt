-- `walk::bounds::most_bytes` meets its contract. Assumes nothing.
use borrow.Author.Rules.{rules}
use Rattle.walk.proofs.BoundLaws.{product-fits, sum_fits, bytes_by_units, bytes_by_levels}
use Rattle.walk.proofs.bounds.most_bytes.Goals as goal

pub overflow_mul-simple : goal.overflow_mul-simple
overflow_mul-simple c = record { fits = product-fits (search rules) (search rules) }

pub overflow_add-simple : goal.overflow_add-simple
overflow_add-simple c = record { fits = sum_fits (search rules) (search rules) (search rules) }

pub returns-then-simple-room : goal.returns-then-simple-room
returns-then-simple-room c = search (rules, bytes_by_units)

pub overflow_mul-result : goal.overflow_mul-result
overflow_mul-result c = record { fits = product-fits (search rules) (search rules) }

pub overflow_add-result : goal.overflow_add-result
overflow_add-result c = record { fits = sum_fits (search rules) (search rules) (search rules) }

pub returns : goal.returns
returns c = search (rules, bytes_by_levels)
