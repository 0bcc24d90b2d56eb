-- TO BELIEVE. UTF-8: the grammar of RFC 3629, section 4, as it stands there, and the same as a test. Assumes nothing.
use Rattle.std.specs.Prelude.{ℕ, ◌<◌, ◌≡◌, Bool, true, false, cond, ◌&&◌, List, [], ◌∷◌, ◌++◌, leb, get_or}

infixl 90 ◌to◌
-- a range of octets, as %xC2-DF
pub data Range : Type 0 where
  ◌to◌ : ℕ → ℕ → Range

abbrev pub within : Range → ℕ → Bool
within (lo to hi) b = leb lo b && leb b hi

-- UTF8-tail = %x80-BF
abbrev pub tail : Range
tail = 0x80 to 0xBF

-- UTF8-char = UTF8-1 / UTF8-2 / UTF8-3 / UTF8-4: a row for each of their alternatives
abbrev pub rows : List (List Range)
rows =
    (0x00 to 0x7F ∷ [])
    ∷ (0xC2 to 0xDF ∷ tail ∷ [])
    ∷ (0xE0 to 0xE0 ∷ 0xA0 to 0xBF ∷ tail ∷ [])
    ∷ (0xE1 to 0xEC ∷ tail ∷ tail ∷ [])
    ∷ (0xED to 0xED ∷ 0x80 to 0x9F ∷ tail ∷ [])
    ∷ (0xEE to 0xEF ∷ tail ∷ tail ∷ [])
    ∷ (0xF0 to 0xF0 ∷ 0x90 to 0xBF ∷ tail ∷ tail ∷ [])
    ∷ (0xF1 to 0xF3 ∷ tail ∷ tail ∷ tail ∷ [])
    ∷ (0xF4 to 0xF4 ∷ 0x80 to 0x8F ∷ tail ∷ tail ∷ [])
    ∷ []

-- octets that lie in a row's ranges, one in each
pub data Fit : List Range → List ℕ → Type 0 where
  end : Fit [] []
  next : {r : Range} {e : List Range} {b : ℕ} {c : List ℕ} → within r b ≡ true → Fit e c → Fit (r ∷ e) (b ∷ c)

-- UTF8-octets = *( UTF8-char )
pub data Octets : List ℕ → Type 0 where
  none : Octets []
  char : {c s : List ℕ} (i : ℕ) → i < 9 → Fit (get_or rows i []) c → Octets s → Octets (c ++ s)

-- The same as a test, octet by octet; proofs/Grammar.antt shows that it holds exactly of `Octets`.
-- What may follow an octet: nothing, for the text is no UTF-8, or octets in these ranges, to the end of the character.
pub data Next : Type 0 where
  bad : Next
  go : List Range → Next

-- an octet that begins a character: the row whose first range has it
abbrev pub begins : List (List Range) → ℕ → Next
begins [] b = bad
begins ([] ∷ rs) b = begins rs b
begins ((r ∷ e) ∷ rs) b = cond (within r b) (go e) (begins rs b)

-- an octet where these ranges are still due
abbrev pub follow : List Range → ℕ → Next
follow [] b = begins rows b
follow (r ∷ e) b = cond (within r b) (go e) bad

abbrev pub on : Next → (List Range → Bool) → Bool
on bad k = false
on (go e) k = k e

abbrev pub octets : List ℕ → List Range → Bool
octets [] [] = true
octets [] (r ∷ e) = false
octets (b ∷ s) e = on (follow e b) (λ (d : List Range). octets s d)

abbrev pub is_utf8 : List ℕ → Bool
is_utf8 s = octets s []
