-- TO BELIEVE. What a text is refused for (document 01, 'Text rules' and 'Refusal numbers'). Assumes nothing.
use Rattle.std.specs.Prelude.{ℕ, suc, ◌+◌, Bool, not, cond, List, [], ◌∷◌, ◌++◌, ltb, length, take, drop, get_or}
use Prim.Native.String.{String, [] as []ˢ, ◌∷◌ as ◌∷ˢ◌}
use Prim.Native.Char.{code}
use Rattle.refusal.specs.declared.Refusal.{Refusal}
use Rattle.refusal.specs.declared.Refusal.TheVariants.{Empty, TooLong, NotUtf8, HasNul, HasWildcard, BadLevel, HashNotLast, NoInner, BadGroup}
use Rattle.utf8.specs.Utf8.{is_utf8}
use Rattle.level.specs.Levels.{split, has}
use Rattle.level.specs.Kinds.{blank, is_only, wild, bad, same}

-- a rule: when it is broken, and the refusal that it gives
infix 80 ◌gives◌
pub data Rule : Type 0 where
  ◌gives◌ : Bool → Refusal → Rule

-- the index of the first level of which p holds; the number of levels where it holds of none
abbrev pub index : (List ℕ → Bool) → List (List ℕ) → ℕ
index p [] = 0
index p (l ∷ ls) = cond (p l) 0 (suc (index p ls))

-- what a refusal says of the place of level k of a text: "from 0"
abbrev pub level_place : List ℕ → ℕ → ℕ
level_place s k = k

-- "All levels are tested first, then the place of #, which may only be last."
abbrev pub level_rules : List ℕ → List Rule
level_rules s =
    ltb (index bad (split s)) (length (split s)) gives BadLevel (level_place s (index bad (split s)))
    ∷ ltb (index (is_only 35) (split s) + 1) (length (split s)) gives HashNotLast (level_place s (index (is_only 35) (split s)))
    ∷ []

-- "Parsing gives only 3, 6, 7."
abbrev pub parse_rules : List ℕ → List Rule
parse_rules s = (not (is_utf8 s) gives NotUtf8) ∷ level_rules s

-- "1 to 65,535 bytes, no NUL", and UTF-8: names and filters alike
abbrev pub text_rules : List ℕ → List Rule
text_rules s =
    blank s gives Empty
    ∷ ltb 65535 (length s) gives TooLong
    ∷ not (is_utf8 s) gives NotUtf8
    ∷ has 0 s gives HasNul
    ∷ []

-- "Name: 1 to 65,535 bytes, no NUL, no +, no #."
abbrev pub name_rules : List ℕ → List Rule
name_rules s = text_rules s ++ (wild s gives HasWildcard) ∷ []

-- "Filter: same lengths, no NUL, parses."
abbrev pub filter_rules : List ℕ → List Rule
filter_rules s = text_rules s ++ level_rules s

-- a text of ASCII as bytes
abbrev pub ascii : String → List ℕ
ascii []ˢ = []
ascii (c ∷ˢ s) = code c ∷ ascii s

-- a text begins with these bytes, "byte for byte"
abbrev pub starts : List ℕ → List ℕ → Bool
starts p s = same p (take (length p) s)

-- "after $share/ stands a group, up to the next /, .. then that /, then a valid filter."
abbrev pub group_of : List ℕ → List ℕ
group_of rest = get_or (split rest) 0 []

abbrev pub inner_of : List ℕ → List ℕ
inner_of rest = drop (length (group_of rest) + 1) rest

-- what follows $share/: the inner filter's levels; "no / after the group, or nothing after it"; the group "without +, #"
abbrev pub shared_rules : List ℕ → List Rule
shared_rules rest = level_rules (inner_of rest) ++ (blank (inner_of rest) gives NoInner) ∷ (wild (group_of rest) gives BadGroup) ∷ []

-- "Otherwise it is a plain filter; $share alone is plain."
abbrev pub plain_or_shared : List ℕ → List Rule
plain_or_shared s = cond (starts (ascii "$share/") s) (shared_rules (drop 7 s)) (level_rules s)

-- "NUL anywhere is 4."
abbrev pub subscription_rules : List ℕ → List Rule
subscription_rules s = text_rules s ++ plain_or_shared s
