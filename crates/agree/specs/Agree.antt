-- TO BELIEVE. What the two stores have to do with each other, demand 3's last sentence: a held, unexpired name answers a filter
-- exactly when that filter, held, is listed for it. It is said of what `retain::get` and `trie::matches` write. Assumes nothing.
use Rattle.std.specs.Prelude.{◌≡◌, ℕ, List}
use Rattle.lent.specs.Parts.{part}
use Rattle.level.specs.Levels.{split}
use Rattle.held.specs.Order.{Filter}
use Rattle.held.specs.Ascending.{All}
use Rattle.held.specs.Bytes.{each}
use Rattle.held.specs.Subscriptions.{listing_record}
use Rattle.held.specs.Retained.{Named, has_filter, name_record}
use Rattle.held.specs.Sized.{SizedRecord, SizedName}

-- the lookup's bytes are the records of some names, the listing's bytes those of some filters, in either case of no others, since
-- such records can be read back; and the name is among the ones exactly when the filter is among the others
pub record Agree (name filter : List ℕ) (clock : ℕ) (looked : List ℕ) (bytes : ℕ) (listed : List ℕ) (bytes' : ℕ) : Type 0 where
  pub names : List Named
  pub names_fit : All SizedName names
  pub names_written : part 0 bytes looked ≡ each (name_record clock) names
  pub filters : List (Filter × List ℕ)
  pub filters_fit : All SizedRecord filters
  pub filters_written : part 0 bytes' listed ≡ each listing_record filters
  pub exactly : has_filter (split name) names ≡ has_filter (split filter) filters
