use mathlib.Core.Path.{◌≡◌}
use lib.ListN.{length}
use Rattle.match_columns.specs.Columns.{Filled}
use Rattle.match_columns.specs.Residuals.{rows_by}
use Rattle.match_columns.proofs.write_columns.Given as goal

abbrev pub invariant-loop-k : goal.invariant-loop-k
invariant-loop-k g l =
    (length l.out ≡ length l.initial.out) × Filled l.rows l.c g.row.W l.k 0 (rows_by l.t l.list) l.initial.out l.out
