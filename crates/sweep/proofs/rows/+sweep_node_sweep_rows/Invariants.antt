-- `sweep::rows::sweep_node` and `sweep::rows::sweep_rows`, which call each other, meet their contracts: the depth grows up to
use Rattle.sweep.specs.Swept.{SweptTo}
use Prim.Native.Nat.{◌+◌, ◌-◌, ◌*◌}
use Rattle.sweep.proofs.rows.+sweep_node_sweep_rows.Given as goal

abbrev pub decreases-sweep_node : goal.decreases-sweep_node
decreases-sweep_node l = 2 * (129 - l.depth)

abbrev pub decreases-sweep_rows : goal.decreases-sweep_rows
decreases-sweep_rows l = 2 * (129 - l.depth) + 1

abbrev pub invariant-sweep_rows-loop-i : goal.invariant-sweep_rows-loop-i
invariant-sweep_rows-loop-i l = SweptTo l.clock l.base l.depth l.lo l.hi l.to l.initial.s l.i l.s l.kept

abbrev pub decreases-sweep_rows-loop-i : goal.decreases-sweep_rows-loop-i
decreases-sweep_rows-loop-i l = l.hi - l.i
