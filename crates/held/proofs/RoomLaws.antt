-- What the rules for room say, and how they follow the text's. Assumes nothing.
use Rattle.std.specs.Prelude.{Err, Ok, Result, ⊤}
use mathlib.Core.Path.{◌≡◌, refl, sym, ap, ◌∙◌}
use Prim.Native.Nat.{ℕ, ◌≤◌}
use mathlib.Core.Bool.{Bool, true, false, not, cond, ◌&&◌, true≢false}
use mathlib.Core.List.{List, [], ◌∷◌, ◌++◌}
use borrow.Author.Tests.{ltb-false}
use lib.Dec.{leb}
use lib.ListN.{length}
use Rattle.refusal.specs.Refusals.{told}
use Rattle.refusal.specs.declared.Refusal.{Refusal}
use Rattle.topic.specs.Answers.{and_then}
use Rattle.topic.proofs.RuleLaws.{checked-append}
use Rattle.topic.specs.Answers.{checked}
use Rattle.topic.specs.Rules.{Rule, ◌gives◌, name_rules, filter_rules}
use Rattle.held.specs.Order.{Filter}
use Rattle.held.specs.Room.{node_count, cell_count, Room, full_rules, room_rules}
use Rattle.held.specs.History.{Effect, verdict, refused, outcome_of, outcome, accepted, result, for_room}
use Rattle.held.proofs.Texts.{kept}

-- what is held already is never refused by 13 to 15
pub held-accepted : {X : Type 0} (r : Room) (with : List (Filter × X)) → checked (room_rules r true with) ≡ Ok tt
unfolding room_rules
held-accepted r with = refl

-- the counts matter only where it is not held
module _ {X : Type 0} (r : Room) (with : List (Filter × X)) (n p c : ℕ) where
  pub rules_by : (b : Bool) → (b ≡ false → (node_count with ≡ n) × (length with ≡ p) × (cell_count with ≡ c)) → room_rules r b with ≡ full_rules r b n p c
  unfolding room_rules
  rules_by true h = refl
  rules_by false h = let e = h refl in rw (e.0, e.1, e.2)

-- where they are kept and it was not held, each count is within its capacity
pub record Within {X : Type 0} (r : Room) (h : List (Filter × X)) : Type 0 where
  pub nodes : node_count h ≤ r.nodes
  pub pairs : length h ≤ r.pairs
  pub cells : cell_count h ≤ r.cells

pub room_within : {X : Type 0} (r : Room) (with : List (Filter × X)) → accepted (checked (room_rules r false with)) ≡ true → Within r with
unfolding room_rules
room_within r with e =
    let k = kept (room_rules r false with) e in
    record {
      nodes = ltb-false r.nodes (node_count with) k.0;
      pairs = ltb-false r.pairs (length with) k.1.0;
      cells = ltb-false r.cells (cell_count with) k.1.1.0;
    }

-- the verdict, where the first rules are known: a refusal by them comes first, and where they are kept the others decide
module _ {H : Type 0} (e : Effect H) (front back : List Rule) (all : e.texts ++ e.rooms ≡ front ++ back) where
  verdict_by : {v : Result ⊤ Refusal} → checked front ≡ v → verdict e ≡ and_then v (checked back)
  unfolding verdict
  verdict_by t = ap checked all ∙ checked-append front back ∙ ap (λ (v : Result ⊤ Refusal). and_then v (checked back)) t

  pub text-first : (x : Refusal) → checked front ≡ Err x → verdict e ≡ Err x
  text-first x t = verdict_by t

  pub text-passed : checked front ≡ Ok tt → verdict e ≡ checked back
  text-passed t = verdict_by t

pub refused-stays : {H : Type 0} (e : Effect H) (h : H) (x : Refusal) → verdict e ≡ Err x → (outcome e ≡ refused x) × (result e h ≡ h)
unfolding outcome result
refused-stays e h x v = (ap (λ (w : Result ⊤ Refusal). outcome_of w e.answer) v, ap (λ (w : Result ⊤ Refusal). cond (accepted w) e.after h) v)

-- a call that is not refused for room does what its text lets it do
abbrev OnlyRoom : List Rule → Type 0
OnlyRoom rules = for_room (checked rules) ≡ not (accepted (checked rules))

pub unless_room : {H : Type 0} (e : Effect H) (h : H) → OnlyRoom e.rooms → for_room (verdict e) ≡ false → result e h ≡ cond (accepted (checked e.texts)) e.after h
unfolding result verdict
unless_room e h only f =
    ap (λ (v : Result ⊤ Refusal). cond (accepted v) e.after h) (checked-append e.texts e.rooms)
    ∙ go (checked e.texts) (checked e.rooms) only (ap for_room (sym (checked-append e.texts e.rooms)) ∙ f)
  where
    go : (t v : Result ⊤ Refusal) → for_room v ≡ not (accepted v) → for_room (and_then t v) ≡ false → cond (accepted (and_then t v)) e.after h ≡ cond (accepted t) e.after h
    go (Err x) v o f = refl
    go (Ok _) (Ok _) o f = refl
    go (Ok _) (Err x) o f = absurd (true≢false (sym o ∙ f))

-- the rules for room give 13 to 15 and nothing else
abbrev ForRoom : List Rule → Type 0
ForRoom [] = Unit {0}
ForRoom ((broken gives r) ∷ rules) = (for_room (Err r) ≡ true) × ForRoom rules

only_of : (rules : List Rule) → ForRoom rules → OnlyRoom rules
only_of [] a = refl
only_of ((broken gives r) ∷ rules) a = go broken (only_of rules a.1)
  where
    go : (t : Bool) → OnlyRoom rules → for_room (cond t (Err r) (checked rules)) ≡ not (accepted (cond t (Err r) (checked rules)))
    go true i = a.0
    go false i = i

pub only_room : {X : Type 0} (r : Room) (b : Bool) (with : List (Filter × X)) → OnlyRoom (room_rules r b with)
unfolding room_rules
only_room r b with = only_of (room_rules r b with) (refl, (refl, (refl, tt)))

-- the rules of a name and of a filter give none of them, nor 12
abbrev pub from12to15 : Result ⊤ Refusal → Bool
from12to15 (Ok _) = false
from12to15 (Err r) = leb 12 (told r).number && leb (told r).number 15

abbrev NotStore : List Rule → Type 0
NotStore [] = Unit {0}
NotStore ((broken gives r) ∷ rules) = (from12to15 (Err r) ≡ false) × NotStore rules

never_of : (rules : List Rule) → NotStore rules → from12to15 (checked rules) ≡ false
never_of [] a = refl
never_of ((broken gives r) ∷ rules) a = go broken (never_of rules a.1)
  where
    go : (t : Bool) → from12to15 (checked rules) ≡ false → from12to15 (cond t (Err r) (checked rules)) ≡ false
    go true i = a.0
    go false i = i

pub filter_never : (s : List ℕ) → from12to15 (checked (filter_rules s)) ≡ false
filter_never s = never_of (filter_rules s) (refl, (refl, (refl, (refl, (refl, (refl, tt))))))

pub name_never : (s : List ℕ) → from12to15 (checked (name_rules s)) ≡ false
name_never s = never_of (name_rules s) (refl, (refl, (refl, (refl, (refl, tt)))))
