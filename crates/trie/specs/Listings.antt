-- TO BELIEVE. The calls that ask a store of subscriptions about a name: whether some filter matches it, and which do. Assumes nothing.
use Rattle.std.specs.Prelude.{Err, Ok, Result, ⊤}
use Rattle.refusal.specs.declared.Refusal.{Refusal}
use Rattle.std.specs.Prelude.{◌≡◌, ℕ, Bool, List, length}
use Rattle.refusal.specs.declared.Refusal.TheVariants.{NotAStore}
use Rattle.level.specs.Levels.{split}
use Rattle.topic.specs.Rules.{name_rules}
use Rattle.topic.specs.Answers.{checked}
use Rattle.held.specs.Subscriptions.{listing, is_match, listing_bytes, listing_rules}
use Rattle.region.specs.Store.{SubscriptionStore}
use Rattle.edit.specs.declared.Listed.{Listed}
use Rattle.edit.specs.Given.{listed_by, GivesKnown, Gives}
use Rattle.trie.specs.Calls.{held_in}

-- yes, no, or what the name is refused for
abbrev pub matched_by : Result ⊤ Refusal → Bool → Result Bool Refusal
matched_by (Ok _) b = Ok b
matched_by (Err r) b = Err r

-- of a store; and of any region, where 11 comes first
pub record AsksKnown (s name : List ℕ) (r : Result Bool Refusal) : Type 0 where
  pub told : SubscriptionStore s → r ≡ matched_by (checked (name_rules name)) (is_match (split name) (held_in s))

pub record Asks (s name : List ℕ) (r : Result Bool Refusal) : Type 0 where
  pub on_store : AsksKnown s name r
  pub on_other : (SubscriptionStore s → ⊥) → r ≡ Err NotAStore

-- the listing for a name into a buffer
abbrev pub ListsKnown : (s name before after : List ℕ) → Result Listed Refusal → Type 0
ListsKnown s name before after r =
    GivesKnown (SubscriptionStore s) (listing_rules name (length before) (held_in s)) (listed_by (listing_bytes (split name) (held_in s)) (length (listing (split name) (held_in s))))
    (listing_bytes (split name) (held_in s)) before after r

abbrev pub Lists : (s name before after : List ℕ) → Result Listed Refusal → Type 0
Lists s name before after r =
    Gives (SubscriptionStore s) (listing_rules name (length before) (held_in s)) (listed_by (listing_bytes (split name) (held_in s)) (length (listing (split name) (held_in s))))
    (listing_bytes (split name) (held_in s)) before after r
