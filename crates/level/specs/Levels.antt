-- TO BELIEVE. The levels of a text (document 01, 'Text rules'; MQTT 4.7.1.1). Assumes nothing.
-- A text and a level are lists of bytes; '/' is 47.
use Rattle.std.specs.Prelude.{◌≡◌, ℕ, suc, ◌+◌, Bool, true, false, List, [], ◌∷◌, ◌++◌, eqb, length, take}
use Rattle.std.specs.List.{list_any}

-- a byte in front of a text's levels: '/' begins a new level, any other byte is the first byte of the first level
abbrev pub push : Bool → ℕ → List (List ℕ) → List (List ℕ)
push true b ls = [] ∷ ls
push false b [] = (b ∷ []) ∷ []
push false b (l ∷ ls) = (b ∷ l) ∷ ls

-- "A text splits at each /. The empty text is one blank level."
abbrev pub split : List ℕ → List (List ℕ)
split [] = [] ∷ []
split (b ∷ s) = push (eqb b 47) b (split s)

-- levels with a '/' between each two: what was split (`join-split` and `split-join` of proofs/Join.antt)
abbrev pub join : List (List ℕ) → List ℕ
join [] = []
join (l ∷ []) = l
join (l ∷ m ∷ ls) = l ++ (47 ∷ join (m ∷ ls))

-- the bytes that levels take, each with the '/' after it
abbrev pub width : List (List ℕ) → ℕ
width [] = 0
width (l ∷ ls) = suc (length l) + width ls

-- where level k begins; past the end, one more than the length
abbrev pub start_of : List ℕ → ℕ → ℕ
start_of s k = width (take k (split s))

-- a byte is among these
abbrev pub has : ℕ → List ℕ → Bool
has b = list_any (λ x. eqb x b)

-- levels of which none has a '/'
pub data Clean : List (List ℕ) → Type 0 where
  no_more : Clean []
  clean : {l : List ℕ} {ls : List (List ℕ)} → has 47 l ≡ false → Clean ls → Clean (l ∷ ls)
