use Rattle.match_columns.specs.Residuals.{Begun}
use Rattle.match_columns.proofs.write_first.Given as goal

abbrev pub invariant-loop-k : goal.invariant-loop-k
invariant-loop-k g l = Begun l.x l.t l.list l.rows g.row.W l.k l.residual l.initial.out l.out
