-- The counts of a region that was tested, as its header has them. Assumes nothing.
use mathlib.Core.Path.{◌≡◌, ◌∙◌}
use Prim.Native.Nat.{ℕ}
use mathlib.Core.Bool.{Bool, false, not}
use mathlib.Core.List.{List}
use lib.ListN.{length}
use Rattle.lent.specs.Total.{read}
use Rattle.held.specs.Room.{node_count}
use Rattle.held.specs.History.{answered}
use Rattle.region.specs.Units.{value_of}
use Rattle.region.specs.Store.{forest_at, SubscriptionStore}
use Rattle.region.proofs.CountLaws.{nodes_kept, pairs_kept}
use Rattle.audit.specs.Decides.{Decides}
use Rattle.edit.specs.Counts.{Counts}
use Rattle.edit.proofs.CountLaws.{counted}
use Rattle.trie.specs.Calls.{held_in}

module _ {s : List ℕ} {t : Bool} (d : Decides t (SubscriptionStore s)) where
  pub nodes-counted : {k : ℕ} → k ≡ read 2 10 s → not t ≡ false → Counts (SubscriptionStore s) (node_count (held_in s)) (answered k)
  nodes-counted q h = counted d (λ (p : SubscriptionStore s). q ∙ nodes_kept (forest_at value_of s) s p.written) h

  pub values-counted : {k : ℕ} → k ≡ read 2 12 s → not t ≡ false → Counts (SubscriptionStore s) (length (held_in s)) (answered k)
  values-counted q h = counted d (λ (p : SubscriptionStore s). q ∙ pairs_kept (forest_at value_of s) s p.written) h
