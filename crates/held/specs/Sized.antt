-- TO BELIEVE. Records whose texts and numbers fit their bytes, so that they can be read back from them (`listing_settled` and
-- `names-read` of proofs/Records.antt). Assumes nothing.
use Rattle.std.specs.Prelude.{◌≡◌, ℕ, ◌≤◌, ◌<◌, List, length}
use Rattle.std.proofs.Math.Option.{some}
use Rattle.level.specs.Levels.{split, join}
use Rattle.held.specs.Order.{Filter}
use Rattle.held.specs.Ascending.{All}
use Rattle.held.specs.Retained.{Stored, Named}

-- levels that are a text's, of at most 65,535 bytes
pub record Written (f : Filter) : Type 0 where
  pub levels : split (join f) ≡ f
  pub short : length (join f) ≤ 65535

-- a record whose text, number of values and values fit their bytes
pub record SizedRecord (r : Filter × List ℕ) : Type 0 where
  pub text : Written r.0
  pub many : length r.1 < 65536
  pub values : All (λ v. v < 4294967296) r.1

-- what is stored for a name: the handle fits its 4 bytes, and the moment, if there is one, its 8
pub record SmallStored (x : Stored) : Type 0 where
  pub handle : x.handle < 4294967296
  pub moment : (m : ℕ) → x.moment ≡ some m → m < 18446744073709551616

-- a name's record whose text, handle and moment fit their bytes
pub record SizedName (e : Named) : Type 0 where
  pub text : Written e.0
  pub small : SmallStored e.1
