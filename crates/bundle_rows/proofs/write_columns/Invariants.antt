use Rattle.bundle_rows.specs.Steps.{state_cell, Put}
use Rattle.bundle_rows.proofs.write_columns.Given as goal

abbrev pub invariant-loop-c : goal.invariant-loop-c
invariant-loop-c l =
    Put l.rows l.columns.dof l.from l.count 0 l.c (state_cell l.columns.dof l.columns.state.now l.columns.n l.columns.info) l.initial.block l.block
