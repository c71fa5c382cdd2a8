use mathlib.Core.Path.{◌≡◌}
use lib.ListN.{length}
use Rattle.match_rows.specs.ByRows.{row_by}
use Rattle.sums.specs.Fill.{First}
use Rattle.match_rows.proofs.fill.Given as goal

abbrev pub invariant-loop-c : goal.invariant-loop-c
invariant-loop-c g l =
    (length l.row ≡ g.row.W) × First l.c l.row (row_by l.t l.m.point l.m.plane.normal l.info)
