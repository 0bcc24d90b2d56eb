-- TO BELIEVE. The bytes needed, and opening (document 01, 'Store rules' and refusal 10). Assumes nothing.
use Rattle.std.specs.Prelude.{Err, Ok, Result, ⊤}
use Rattle.refusal.specs.declared.Refusal.{Refusal}
use Rattle.std.specs.Prelude.{ℕ, not, cond, ◌||◌, List, [], ◌∷◌, ltb, length}
use Rattle.refusal.specs.declared.Refusal.TheVariants.{BadSize}
use Rattle.lent.specs.Parts.{patch}
use Rattle.topic.specs.Rules.{Rule, ◌gives◌}
use Rattle.held.specs.Room.{Room, in_range}
use Rattle.region.specs.declared.Kind.{Kind}
use Rattle.region.specs.declared.Kind.TheVariants.{Subscriptions, Retained}
use Rattle.region.specs.declared.Capacities.{Capacities}
use Rattle.region.specs.Layout.{needed_bytes, Used, header_bytes}

abbrev pub kind_byte : Kind → ℕ
kind_byte Subscriptions = 1
kind_byte Retained = 2

abbrev pub room_of : Capacities → Room
room_of c = record { nodes = c.nodes.0; pairs = c.pairs.0; cells = c.cells.0 }

-- "A public answer gives the bytes needed"; "10 for capacities out of range"
abbrev pub needed_of : Room → Result ℕ Refusal
needed_of r = cond (in_range r) (Ok (needed_bytes r)) (Err BadSize)

-- "BadSize: a capacity out of range, or the region too short"
abbrev pub open_rules : Room → List ℕ → List Rule
open_rules r s = (not (in_range r) || ltb (length s) (needed_bytes r)) gives BadSize ∷ []

-- "Opening empties the store."
abbrev pub nothing : Used
nothing = record { nodes = 0; pairs = 0; cells = 0; units = 0 }

abbrev pub opened_as : Result ⊤ Refusal → Kind → Room → List ℕ → List ℕ
opened_as (Ok _) k r s = patch 0 (header_bytes (kind_byte k) r nothing) s
opened_as (Err x) k r s = s
