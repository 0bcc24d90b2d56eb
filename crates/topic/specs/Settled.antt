-- TO BELIEVE. "show that no second answer meets it" (document 01, 'Marking the promises'): a promise settles an answer where any two
-- answers that meet it are the same. Assumes nothing.
use Rattle.std.specs.Prelude.{◌≡◌}

abbrev pub Settles : {A : Type 0} → (A → Type 0) → Type 0
Settles {A} Promised = (r q : A) → Promised r → Promised q → r ≡ q
