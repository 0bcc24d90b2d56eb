-- `listing::writing::write_walk` meets its contract: the name's remaining bytes fall. Assumes nothing.
use borrow.Author.Rules.{rules}
use native.Mathlib.Omega.{arith}
use mathlib.Core.Path.{sym, ◌∙◌}
use Rattle.walk.proofs.NodeLaws.{node_below}
use Rattle.listing.proofs.ListingLaws.{trail_room, trail-plus, trail_level, not_walked, walked_end, walked_deep, walked_on}
use Rattle.listing.proofs.writing.+write_walk.Goals as goal

pub returns-in_default : goal.returns-in_default
returns-in_default t c = search (rules, not_walked)

pub write_end-requires : goal.write_end-requires
write_end-requires t c = (search (rules, node_below), search (rules, trail_room), search rules, search rules)

pub returns-then-name-from : goal.returns-then-name-from
returns-then-name-from t c = search (rules, walked_end)

pub returns-then-depth-ge128 : goal.returns-then-depth-ge128
returns-then-depth-ge128 t c = search (rules, walked_deep)

pub write_below-next-requires : goal.write_below-next-requires
write_below-next-requires t c = (search (rules, node_below), search (rules, trail_room), search rules, search rules)

pub go_on-t-requires : goal.go_on-t-requires
go_on-t-requires t c = search (rules, node_below)

pub overflow_add-beyond : goal.overflow_add-beyond
overflow_add-beyond t c =
    let u = c.go_on-t.ensures in
    record { fits = omega (arith, c.requires.1.short, u.next.within) }

pub overflow_add-wide : goal.overflow_add-wide
overflow_add-wide t c =
    record { fits = omega (arith, c.requires.1.small, c.requires.1.high, c.requires.1.short) }

pub overflow_add-long : goal.overflow_add-long
overflow_add-long t c =
    let u = c.go_on-t.ensures in
    record { fits = omega (arith, c.requires.1.small, c.requires.1.high, c.requires.1.short, u.next.within) }

pub overflow_add-long-2 : goal.overflow_add-long-2
overflow_add-long-2 t c =
    let u = c.go_on-t.ensures in
    record { fits = omega (arith, c.requires.1.small, c.requires.1.high, c.requires.1.short, u.next.within) }

pub bounds-marks-depth : goal.bounds-marks-depth
bounds-marks-depth t c =
    let i = c.if-depth-ge128.false in
    omega (arith, c.requires.1.marked, i)

pub write_walk-then-requires : goal.write_walk-then-requires
write_walk-then-requires t c =
    let i = c.if-depth-ge128.false in
    let u = c.go_on-t.ensures in
    (search rules, (search rules, trail-plus _ _ _ _ _ _ c.requires.1 u.next i, search rules, search rules))

pub bounds-marks-depth-2 : goal.bounds-marks-depth-2
bounds-marks-depth-2 t c =
    let i = c.if-depth-ge128.false in
    let u = c.go_on-t.ensures in
    let m = c.marks-1.given ∙ (trail-plus _ _ _ _ _ _ c.requires.1 u.next i).marked in
    omega (arith, m, i)

pub write_walk-requires : goal.write_walk-requires
write_walk-requires t c =
    let i = c.if-depth-ge128.false in
    let u = c.go_on-t.ensures in
    let w = c.write_walk-then.ensures in
    let m = c.marks-1.given ∙ (trail-plus _ _ _ _ _ _ c.requires.1 u.next i).marked in
    (omega (arith, c.decreases, u.next.on, u.next.within), (u.own.inside, trail_level _ _ _ _ _ _ c.requires.1 u.next i _ w.same m, omega (arith, w.within, c.out-3-1.given), w.few))

pub shape_of-marks : goal.shape_of-marks
shape_of-marks t c =
    let i = c.if-depth-ge128.false in
    let u = c.go_on-t.ensures in
    let m = c.marks-1.given ∙ (trail-plus _ _ _ _ _ _ c.requires.1 u.next i).marked in
    c.marks-2-1.given ∙ (trail_level _ _ _ _ _ _ c.requires.1 u.next i _ c.write_walk-then.ensures.same m).marked ∙ sym c.requires.1.marked

pub returns : goal.returns
returns t c =
    let i = c.if-depth-ge128.false in
    let u = c.go_on-t.ensures in
    let m = c.marks-1.given ∙ (trail-plus _ _ _ _ _ _ c.requires.1 u.next i).marked in
    walked_on _ _ _ _ _ _ _ _ _ c.in-Some.is _ c.requires.1 i
    _ _ c.out-2-1.given c.write_below-next.ensures _ u
    _ _ _ m c.out-3-1.given c.write_walk-then.ensures _ _ _ c.write_walk.ensures
