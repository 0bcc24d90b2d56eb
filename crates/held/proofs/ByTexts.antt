-- The laws of the tree for texts that were accepted: what the calls of the stores need. Assumes nothing.
use mathlib.Core.Path.{◌≡◌, refl}
use Prim.Native.Nat.{ℕ}
use mathlib.Core.Bool.{true}
use mathlib.Core.List.{List, [], ◌∷◌}
use lib.ListN.{length}
use Rattle.level.specs.Levels.{split}
use Rattle.topic.specs.Answers.{checked}
use Rattle.topic.specs.Rules.{name_rules, filter_rules}
use Rattle.held.specs.Order.{Filter}
use Rattle.held.specs.History.{accepted}
use Rattle.held.specs.Subscriptions.{insert_held, remove_held, listing, is_match, listing_bytes}
use Rattle.held.specs.Retained.{Stored, set_held, erase_held}
use Rattle.held.specs.Forest.{Forest, held, WellFormed, WellNamed}
use Rattle.held.specs.Edit.{insert_f, remove_f, HashLast, set_f, erase_f}
use Rattle.held.specs.Stream.{list_bytes, list_count, list_hit}
use Rattle.held.proofs.Texts.{filter-hash, name-plain, some_levels}
use Rattle.held.proofs.Matches.{match_is}
use Rattle.held.proofs.Forests.{insert_well, remove_well, insert-held, remove-held}
use Rattle.held.proofs.Names.{set_well, erase_well, set-held, erase-held}
use Rattle.held.proofs.Streams.{list-bytes, list-count}

-- Subscriptions
module _ (s : List ℕ) (fine : accepted (checked (filter_rules s)) ≡ true) (x : ℕ) (F : Forest ℕ) (w : WellFormed F) where
  pub insert_text : (held (insert_f (split s) x F) ≡ insert_held (split s, x) (held F)) × WellFormed (insert_f (split s) x F)
  insert_text = go (split s) (some_levels s) (filter-hash s fine)
    where
      go : (f : Filter) → (f ≡ [] → ⊥) → HashLast f → (held (insert_f f x F) ≡ insert_held (f, x) (held F)) × WellFormed (insert_f f x F)
      go [] n h = absurd (n refl)
      go (g ∷ gs) n h = (insert-held g gs x F w h, insert_well (g ∷ gs) x F h w)

  pub remove_text : (held (remove_f (split s) x F) ≡ remove_held (split s, x) (held F)) × WellFormed (remove_f (split s) x F)
  remove_text = go (split s) (some_levels s)
    where
      go : (f : Filter) → (f ≡ [] → ⊥) → (held (remove_f f x F) ≡ remove_held (f, x) (held F)) × WellFormed (remove_f f x F)
      go [] n = absurd (n refl)
      go (g ∷ gs) n = (remove-held g gs x F w, remove_well (g ∷ gs) x F w)

module _ (s : List ℕ) (fine : accepted (checked (name_rules s)) ≡ true) (F : Forest ℕ) (w : WellFormed F) where
  pub list_text : (list_bytes (split s) F ≡ listing_bytes (split s) (held F)) × (list_count (split s) F ≡ length (listing (split s) (held F)))
  list_text = (list-bytes F w (split s) (name-plain s fine), list-count F w (split s) (name-plain s fine))

  pub match_text : list_hit (split s) F ≡ is_match (split s) (held F)
  match_text = match_is F w (split s) (name-plain s fine)

-- Retained
module _ (s : List ℕ) (F : Forest Stored) (w : WellNamed F) where
  pub set_text : (x : Stored) → (held (set_f (split s) x F) ≡ set_held (split s) x (held F)) × WellNamed (set_f (split s) x F)
  set_text x = go (split s) (some_levels s)
    where
      go : (n : Filter) → (n ≡ [] → ⊥) → (held (set_f n x F) ≡ set_held n x (held F)) × WellNamed (set_f n x F)
      go [] e = absurd (e refl)
      go (g ∷ gs) e = (set-held F w g gs x, set_well (g ∷ gs) x F w)

  pub erase_text : (held (erase_f (split s) F) ≡ erase_held (split s) (held F)) × WellNamed (erase_f (split s) F)
  erase_text = go (split s) (some_levels s)
    where
      go : (n : Filter) → (n ≡ [] → ⊥) → (held (erase_f n F) ≡ erase_held n (held F)) × WellNamed (erase_f n F)
      go [] e = absurd (e refl)
      go (g ∷ gs) e = (erase-held F w g gs, erase_well (g ∷ gs) F w)
