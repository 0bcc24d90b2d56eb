-- FOR THE CODE. The numbers of a row's head, as the code has them. Assumes nothing.
use Rattle.std.specs.Prelude.{◌≡◌, ℕ, ◌+◌, ◌<◌, List}
use Rattle.lent.specs.Numbers.{be}
use Rattle.lent.specs.Parts.{part}
use Rattle.forest.specs.Places.{unit_at, len_at, own_at, below_at}
use Rattle.audit.specs.declared.Head.{Head}

pub record HeadAt (base : ℕ) (s : List ℕ) (i : ℕ) (h : Head) : Type 0 where
  pub len_is : h.len ≡ len_at base s i
  pub own_is : h.own ≡ own_at base s i
  pub below_is : h.below ≡ below_at base s i
  pub spare_is : h.spare ≡ be (part (unit_at base i + 6) 2 s)
  pub len_small : h.len < 65536
  pub own_small : h.own < 65536
  pub below_small : h.below < 65536
