-- No second answer meets a promise of this crate: each is an equation with a definition. Assumes nothing.
use mathlib.Core.Path.{◌≡◌, sym, ◌∙◌}
use Prim.Native.Nat.{ℕ}
use mathlib.Core.Bool.{Bool}
use mathlib.Core.List.{List}
use Rattle.std.specs.Prelude.{⊤, Option, Result}
use Rattle.refusal.specs.declared.Refusal.{Refusal}
use Rattle.level.specs.declared.Kind.{Kind}
use Rattle.topic.specs.Rules.{starts, name_rules, filter_rules, subscription_rules}
use Rattle.topic.specs.Answers.{checked, parsed, kind_at, part_at, place_at, matched}
use Rattle.topic.specs.Settled.{Settles}

pub by_equation : {A : Type 0} (x : A) → Settles (λ (r : A). r ≡ x)
by_equation x r q a b = a ∙ sym b

pub parse_settled : (text : List ℕ) → Settles (λ (r : Result ℕ Refusal). r ≡ parsed text)
parse_settled text = by_equation (parsed text)

pub level_kind_settled : (text : List ℕ) (k : ℕ) → Settles (λ (r : Option Kind). r ≡ kind_at text k)
level_kind_settled text k = by_equation (kind_at text k)

pub level-part_settled : (text : List ℕ) (k : ℕ) → Settles (λ (r : List ℕ). r ≡ part_at text k)
level-part_settled text k = by_equation (part_at text k)

pub level_place_settled : (text : List ℕ) (k : ℕ) → Settles (λ (r : ℕ). r ≡ place_at text k)
level_place_settled text k = by_equation (place_at text k)

pub topic_name_settled : (text : List ℕ) → Settles (λ (r : Result ⊤ Refusal). r ≡ checked (name_rules text))
topic_name_settled text = by_equation (checked (name_rules text))

pub topic-filter_settled : (text : List ℕ) → Settles (λ (r : Result ⊤ Refusal). r ≡ checked (filter_rules text))
topic-filter_settled text = by_equation (checked (filter_rules text))

pub subscription-filter_settled : (text : List ℕ) → Settles (λ (r : Result ⊤ Refusal). r ≡ checked (subscription_rules text))
subscription-filter_settled text = by_equation (checked (subscription_rules text))

-- the three prefix tests, by their prefix
pub prefix_settled : (prefix text : List ℕ) → Settles (λ (r : Bool). r ≡ starts prefix text)
prefix_settled prefix text = by_equation (starts prefix text)

pub matches_settled : (filter name : List ℕ) → Settles (λ (r : Result Bool Refusal). r ≡ matched filter name)
matches_settled filter name = by_equation (matched filter name)
