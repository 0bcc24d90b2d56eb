-- FOR THE PROOFS. The texts that a kind of store holds, level by level. Assumes nothing.
use Rattle.std.specs.Prelude.{◌≡◌, ℕ, ◌+◌, ◌-◌, ◌≤◌, ◌<◌, true, List, [], ◌∷◌, length}
use Rattle.topic.specs.Rules.{Rule, filter_rules, name_rules}
use Rattle.held.specs.Order.{Filter}
use Rattle.region.specs.declared.Kind.{Kind}
use Rattle.region.specs.declared.Kind.TheVariants.{Subscriptions, Retained}
use Rattle.content.specs.Contents.{level_fine}

-- the rules of a kind's texts
abbrev pub rules_of : Kind → List ℕ → List Rule
rules_of Subscriptions = filter_rules
rules_of Retained = name_rules

-- levels from depth d on, with `room` bytes left, a '/' after each
abbrev pub TextFine : Kind → (d room : ℕ) → Filter → Type 0
TextFine k d room [] = Unit {0}
TextFine k d room (l ∷ f) = (d ≤ 128) × (level_fine k l ≡ true) × (length l < room) × TextFine k (d + 1) (room - (length l + 1)) f
