use Prim.Native.Nat.{◌≤◌, ◌-◌}
use Rattle.bundle_rows.specs.Steps.{state_cell, Put}
use Rattle.bundle_rows.proofs.write_batches.Given as goal

abbrev pub invariant-loop-i : goal.invariant-loop-i
invariant-loop-i l =
    (l.i ≤ l.count) × Put l.rows l.columns.dof l.from l.i 0 l.columns.dof (state_cell l.columns.dof l.columns.state.now l.columns.n l.columns.info) l.initial.block l.block

abbrev pub decreases-loop-i : goal.decreases-loop-i
decreases-loop-i l = l.count - l.i
