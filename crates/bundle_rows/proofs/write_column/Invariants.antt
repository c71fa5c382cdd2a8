use Rattle.bundle_rows.specs.Steps.{state_cell, Put}
use Rattle.bundle_rows.proofs.write_column.Given as goal

abbrev pub invariant-loop-i : goal.invariant-loop-i
invariant-loop-i l =
    Put l.rows l.columns.dof l.from l.i l.c 1 (state_cell l.columns.dof l.columns.state.now l.columns.n l.columns.info) l.initial.block l.block
