use Rattle.plane_fit.specs.Parts.{Put}
use Rattle.plane_fit.proofs.put_column.Given as goal

abbrev pub invariant-loop-e : goal.invariant-loop-e
invariant-loop-e l = Put l.e l.k l.column l.initial.cells l.cells
