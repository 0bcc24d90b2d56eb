-- FOR THE CODE. Texts of ASCII alone, and the rules of the two tables of the UTF-8 test. Assumes nothing.
use Rattle.std.specs.Prelude.{◌≡◌, ℕ, ◌+◌, ◌*◌, ◌<◌, ◌≤◌, Bool, true, cond, ◌&&◌, List, [], ◌∷◌, leb, ltb, eqb, get_or}
use Rattle.utf8.specs.Utf8.{Range, ◌to◌, tail, Next, bad, go, follow}

-- the class of an octet: octets that no range of the grammar tells apart
abbrev pub class_of : ℕ → ℕ
class_of b =
    cond (leb b 0x7F) 0 (cond (leb b 0x8F) 1 (cond (leb b 0x9F) 2 (cond (leb b 0xBF) 3
    (cond (leb b 0xC1) 11 (cond (leb b 0xDF) 4 (cond (leb b 0xE0) 5 (cond (leb b 0xEC) 6
    (cond (leb b 0xED) 7 (cond (leb b 0xEF) 6 (cond (leb b 0xF0) 8 (cond (leb b 0xF3) 9
    (cond (leb b 0xF4) 10 11))))))))))))

-- what can be due, by number
abbrev pub dues : List (List Range)
dues =
    []
    ∷ (tail ∷ [])
    ∷ (tail ∷ tail ∷ [])
    ∷ (tail ∷ tail ∷ tail ∷ [])
    ∷ (0xA0 to 0xBF ∷ tail ∷ [])
    ∷ (0x80 to 0x9F ∷ tail ∷ [])
    ∷ (0x90 to 0xBF ∷ tail ∷ tail ∷ [])
    ∷ (0x80 to 0x8F ∷ tail ∷ tail ∷ [])
    ∷ []

abbrev pub due : ℕ → List Range
due n = get_or dues n []

-- 8 is for no UTF-8
abbrev pub next_of : ℕ → Next
next_of n = cond (eqb n 8) bad (go (due n))

-- a table of the classes of all octets; a table of what is due after an octet of a class, a row of 12 for each that is due
pub record ClassTable (t : List ℕ) : Type 0 where
  pub is : (b : ℕ) → b < 256 → get_or t b 0 ≡ class_of b

pub record StepTable (t : List ℕ) : Type 0 where
  pub is : (d b : ℕ) → d < 8 → b < 256 → next_of (get_or t (d * 12 + class_of b) 0) ≡ follow (due d) b
  pub small : (d b : ℕ) → d < 8 → b < 256 → get_or t (d * 12 + class_of b) 0 ≤ 8

-- every octet is below 0x80
abbrev pub is_ascii : List ℕ → Bool
is_ascii [] = true
is_ascii (b ∷ s) = ltb b 0x80 && is_ascii s
