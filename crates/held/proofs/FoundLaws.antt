-- Which names a lookup and a page give: those that are held, have not expired, and that the filter takes. Assumes nothing.
use mathlib.Core.Path.{◌≡◌, refl, ap, ◌∙◌}
use Prim.Native.Nat.{ℕ}
use mathlib.Core.Bool.{true, cond}
use mathlib.Core.List.{List, [], ◌∷◌}
use mathlib.Core.Option.{Option, none}
use lib.ListN.{length}
use Rattle.level.specs.Levels.{split}
use Rattle.topic.specs.Match.{match47}
use Rattle.held.specs.Order.{Filter}
use Rattle.held.specs.Ascending.{passed}
use Rattle.held.specs.Room.{Room}
use Rattle.held.specs.History.{run, has_room}
use Rattle.held.specs.Retained.{Stored, Named, stored, unexpired, Call, retained, lookup, lookup_bytes, page, page_bytes, more}
use Rattle.held.specs.Found.{Finds, Found, FoundPage}
use Rattle.held.proofs.HeldLaws.{stored-lookup, lookup_asc}
use Rattle.held.proofs.Histories.{run_names, history-stored}

-- after a history in which none is refused for room
module _ (r : Room) (cs : List Call) (room : has_room retained r cs [] ≡ true) where
  abbrev after : List Named
  after = run retained r cs []

  finds : (f : Filter) (clock : ℕ) → Finds cs f clock (lookup f clock after)
  unfolding stored
  finds f clock =
      record {
        exactly =
            λ n. stored-lookup f clock after (run_names r cs [] tt) n
            ∙ ap (λ (w : Option Stored). cond (match47 f n) (passed (unexpired clock) w) none) (history-stored n r cs [] tt room);
        in_order = lookup_asc f clock after (run_names r cs [] tt);
      }

  pub history_found : (filter : List ℕ) (clock : ℕ) → Found cs filter clock (lookup_bytes (split filter) clock after) (length (lookup (split filter) clock after))
  unfolding lookup_bytes
  history_found filter clock = record { names = lookup (split filter) clock after; finds = finds (split filter) clock; written = refl; counted = refl }

  pub history-page : (clock offset limit : ℕ)
      → FoundPage cs clock offset limit (page_bytes offset limit clock after) (length (page offset limit clock after)) (more offset limit clock after)
  unfolding page_bytes page more
  history-page clock offset limit =
      record { names = lookup ((35 ∷ []) ∷ []) clock after; finds = finds ((35 ∷ []) ∷ []) clock; written = refl; counted = refl; more_follows = refl }
