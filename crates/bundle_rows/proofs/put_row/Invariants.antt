use Rattle.bundle_rows.specs.Steps.{state_cell, Put}
use Rattle.bundle_rows.proofs.put_row.Given as goal

abbrev pub invariant-loop-e : goal.invariant-loop-e
invariant-loop-e l =
    Put l.rows l.columns.dof l.k 1 l.c l.e (state_cell l.columns.dof l.columns.state.now l.columns.n l.columns.info) l.initial.block l.block
