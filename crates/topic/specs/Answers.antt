-- TO BELIEVE. What the calls answer, for every text (document 01, 'Text rules' and 'Refusal numbers'). Assumes nothing.
use Rattle.std.specs.Prelude.{ℕ, Bool, cond, ⊤, List, [], ◌∷◌, Option, Some, None, Result, Ok, Err, unwrap_or, ltb, length, drop, get_or}
use Rattle.refusal.specs.declared.Refusal.{Refusal}
use Rattle.level.specs.declared.Kind.{Kind}
use Rattle.level.specs.Levels.{split, start_of}
use Rattle.level.specs.Kinds.{kind_of}
use Rattle.topic.specs.Rules.{Rule, ◌gives◌, parse_rules, name_rules, filter_rules}
use Rattle.topic.specs.Match.{match47}

-- the first rule that is broken refuses: "Order: .. 1 to 9", as the rules stand
abbrev pub checked : List Rule → Result ⊤ Refusal
checked [] = Ok tt
checked ((broken gives r) ∷ rules) = cond broken (Err r) (checked rules)

-- a refusal goes straight out; else comes what follows
abbrev pub and_then : {A : Type 0} → Result ⊤ Refusal → Result A Refusal → Result A Refusal
and_then (Ok u) next = next
and_then (Err r) next = Err r

-- a parse answers how many levels there are
abbrev pub parsed : List ℕ → Result ℕ Refusal
parsed s = and_then (checked (parse_rules s)) (Ok (length (split s)))

-- "For k past the end, or a text refused, the kind is none and the part is empty"
abbrev pub if_parsed : {A : Type 0} → Result ℕ Refusal → A → A → A
if_parsed (Ok n) a b = a
if_parsed (Err r) a b = b

abbrev pub head_kind : List (List ℕ) → Option Kind
head_kind [] = None
head_kind (l ∷ ls) = Some (kind_of l)

abbrev pub kind_at : List ℕ → ℕ → Option Kind
kind_at s k = if_parsed (parsed s) (head_kind (drop k (split s))) None

abbrev pub part_at : List ℕ → ℕ → List ℕ
part_at s k = if_parsed (parsed s) (get_or (split s) k []) []

-- where level k begins, if there is such a level; in place of none the text's length is told
abbrev pub start_at : List ℕ → ℕ → Option ℕ
start_at s k = if_parsed (parsed s) (cond (ltb k (length (split s))) (Some (start_of s k)) None) None

abbrev pub place_at : List ℕ → ℕ → ℕ
place_at s k = unwrap_or (start_at s k) (length s)

-- "reports the filter's fault before the name's"
abbrev pub matched : List ℕ → List ℕ → Result Bool Refusal
matched f n = and_then (checked (filter_rules f)) (and_then (checked (name_rules n)) (Ok (match47 (split f) (split n))))
