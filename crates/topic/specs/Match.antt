-- TO BELIEVE. Which names a filter takes (MQTT 4.7.1 to 4.7.3; document 01, 'Matching'), on their levels. Assumes nothing.
use Rattle.std.specs.Prelude.{ℕ, Bool, true, false, not, ◌&&◌, ◌||◌, List, [], ◌∷◌}
use Rattle.level.specs.Kinds.{is_only, dollar, same}

-- 4.7.1.3: '+' takes one level, blank included; 4.7.3: any other level takes itself, byte for byte
abbrev pub level_takes : List ℕ → List ℕ → Bool
level_takes f n = is_only 43 f || same f n

-- level by level; 4.7.1.2: '#' takes what is left of the name, also nothing, which is its parent
abbrev pub takes : List (List ℕ) → List (List ℕ) → Bool
takes [] [] = true
takes [] (n ∷ ns) = false
takes (f ∷ fs) [] = is_only 35 f
takes (f ∷ fs) (n ∷ ns) = is_only 35 f || (level_takes f n && takes fs ns)

-- the first level is '+' or '#'
abbrev pub lead_wild : List (List ℕ) → Bool
lead_wild [] = false
lead_wild (f ∷ fs) = is_only 43 f || is_only 35 f

-- the first level begins with '$'
abbrev pub lead_dollar : List (List ℕ) → Bool
lead_dollar [] = false
lead_dollar (n ∷ ns) = dollar n

-- 4.7.2: a leading '+' or '#' takes no name whose first level begins with '$'; deeper levels have no such rule
abbrev pub match47 : List (List ℕ) → List (List ℕ) → Bool
match47 f n = not (lead_wild f && lead_dollar n) && takes f n
