-- The thirteen pairs of document 01, proved together as one statement about what `matches` answers, which antt computes. Assumes nothing.
use mathlib.Core.Path.{◌≡◌, refl}
use mathlib.Core.List.{map}
use Rattle.std.specs.Prelude.{Ok}
use Rattle.topic.specs.Rules.{ascii}
use Rattle.topic.specs.Answers.{matched}
use Rattle.topic.specs.Pairs.{Pair, thirteen}

pub both_sides : map (λ (p : Pair). matched (ascii p.filter) (ascii p.name)) thirteen ≡ map (λ (p : Pair). Ok p.answer) thirteen
both_sides = refl
