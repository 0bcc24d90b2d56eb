-- FOR THE CODE. The test of a whole region: its header, and then its rows, which must have all that the header promises. Assumes nothing.
use Rattle.std.specs.Prelude.{None, Option, Some}
use Rattle.std.specs.Prelude.{ℕ, ◌+◌, Bool, false, ◌&&◌, List, eqb, leb, length}
use Rattle.lent.specs.Numbers.{be}
use Rattle.lent.specs.Parts.{part}
use Rattle.held.specs.Room.{in_range}
use Rattle.region.specs.declared.Kind.{Kind}
use Rattle.region.specs.declared.Kind.TheVariants.{Subscriptions, Retained}
use Rattle.region.specs.Layout.{unit_room, needed_bytes}
use Rattle.region.specs.Store.{room_at}
use Rattle.audit.specs.declared.Left.{Left}
use Rattle.audit.specs.Tally.{tally}

-- the header's first four bytes, as a number: the mark, the kind and the shape
abbrev pub mark_of : Kind → ℕ
mark_of Subscriptions = 0x434A0101
mark_of Retained = 0x434A0201

-- what the header says is in use
abbrev pub left_at : List ℕ → Left
left_at s = record { nodes = be (part 10 2 s); pairs = be (part 12 2 s); cells = be (part 14 2 s) }

abbrev pub used_units : List ℕ → ℕ
used_units s = be (part 16 2 s)

abbrev pub units_base : List ℕ → ℕ
units_base s = 64 + unit_room (room_at s)

-- nothing is left
abbrev pub none : Left → Bool
none a = eqb a.nodes 0 && (eqb a.pairs 0 && eqb a.cells 0)

abbrev pub all_taken : Option Left → Bool
all_taken (Some a) = none a
all_taken None = false

-- what is in use is no more than the capacities
unfoldable pub used_fine : List ℕ → Bool
used_fine s =
    leb (left_at s).nodes (room_at s).nodes
    && (leb (left_at s).pairs (room_at s).pairs
    && (leb (left_at s).cells (room_at s).cells
    && leb (used_units s) (unit_room (room_at s))))

unfoldable pub header_fine : Kind → List ℕ → Bool
header_fine k s = in_range (room_at s) && (leb (needed_bytes (room_at s)) (length s) && (eqb (be (part 0 4 s)) (mark_of k) && used_fine s))

unfoldable pub store_fine : Kind → List ℕ → Bool
store_fine k s = header_fine k s && all_taken (tally k (units_base s) s 1 65536 0 (used_units s) (left_at s))
