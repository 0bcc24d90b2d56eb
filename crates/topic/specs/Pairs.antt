-- TO BELIEVE. The pairs of document 01, 'Both sides of each line': a filter, a name, and what `matches` answers. Assumes nothing.
use Prim.Native.String.{String}
use Rattle.std.specs.Prelude.{Bool, true, false, List, [], ◌∷◌}

pub record Pair : Type 0 where
  pub filter : String
  pub name : String
  pub answer : Bool

abbrev pub pair : String → String → Bool → Pair
pair f n a = record { filter = f; name = n; answer = a }

abbrev pub thirteen : List Pair
thirteen =
    pair "a/#" "a" true
    ∷ pair "a/+" "a" false
    ∷ pair "a/+" "a/" true
    ∷ pair "+" "$SYS" false
    ∷ pair "#" "$SYS/x" false
    ∷ pair "$SYS/#" "$SYS" true
    ∷ pair "a/+" "a/$x" true
    ∷ pair "a/#" "a/$x" true
    ∷ pair "/a" "x/a" false
    ∷ pair "+/+" "/a" true
    ∷ pair "+" "/a" false
    ∷ pair "+/#" "a" true
    ∷ pair "a/+" "a/$x/y" false
    ∷ []
