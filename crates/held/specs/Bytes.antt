-- TO BELIEVE. Records one after another, and a buffer that is too short for them (document 01, 'Orders and records'). Assumes nothing.
use Rattle.std.specs.Prelude.{ℕ, List, [], ◌∷◌, ◌++◌, ltb, length}
use Rattle.refusal.specs.declared.Refusal.TheVariants.{ShortRoom}
use Rattle.topic.specs.Rules.{Rule, ◌gives◌}

-- the bytes of each, one after another: "No match is zero bytes."
abbrev pub each : {A : Type 0} → (A → List ℕ) → List A → List ℕ
each f [] = []
each f (r ∷ rs) = f r ++ each f rs

-- "16 exactly when the output buffer is shorter than the listing or page", with the "bytes needed" as its place
abbrev pub length_rule : (buffer : ℕ) → List ℕ → Rule
length_rule buffer out = ltb buffer (length out) gives ShortRoom (length out)
