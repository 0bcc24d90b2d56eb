-- Texts and their levels: a text is UTF-8 exactly when each of its levels is. Assumes nothing.
use mathlib.Core.Path.{◌≡◌, refl, sym, ap, ◌∙◌}
use mathlib.Core.Bool.{Bool, true, ◌&&◌, and-true}
use mathlib.Core.List.{List, [], ◌∷◌}
use Prim.Native.Nat.{ℕ}
use Rattle.utf8.specs.Utf8.{is_utf8}
use Rattle.utf8.proofs.Joined.{utf8_slash}
use Rattle.level.specs.Levels.{split, join}
use Rattle.level.proofs.Join.{join-split}

abbrev pub all_utf8 : List (List ℕ) → Bool
all_utf8 [] = true
all_utf8 (l ∷ ls) = is_utf8 l && all_utf8 ls

pub utf8-join : (ls : List (List ℕ)) → is_utf8 (join ls) ≡ all_utf8 ls
utf8-join [] = refl
utf8-join (l ∷ []) = sym (and-true (is_utf8 l))
utf8-join (l ∷ m ∷ ls) = utf8_slash l (join (m ∷ ls)) ∙ ap (λ (b : Bool). is_utf8 l && b) (utf8-join (m ∷ ls))

pub utf8_levels : (s : List ℕ) → is_utf8 s ≡ all_utf8 (split s)
utf8_levels s = ap is_utf8 (sym (join-split s)) ∙ utf8-join (split s)
