use Rattle.sums.specs.Fill.{Filling}
use Rattle.derivative.specs.Derivative.{normal_row}
use Rattle.derivative.proofs.normal_row.Given as goal

abbrev pub invariant-loop-c : goal.invariant-loop-c
invariant-loop-c l = Filling 9 l.width (normal_row l.x l.from l.n) l.row l.c
