-- `level::level_count` meets its contract: a text has a level more than it has '/'s. Assumes nothing.
use Rattle.std.proofs.Common.{rules, ◌≡◌, arith, nat_eq}
use Rattle.std.specs.List.{count_by}
use Rattle.level.proofs.Split.{count_slashes, some_level}
use Rattle.level.proofs.level_count.Goals as goal

pub returns : goal.returns
returns c =
    let e : c.count.result ≡ count_by (λ b. nat_eq b 47) c.args.text.now = search rules in
    omega (arith, count_slashes c.args.text.now, some_level c.args.text.now)
