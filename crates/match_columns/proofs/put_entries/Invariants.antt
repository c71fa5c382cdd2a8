use mathlib.Core.Path.{◌≡◌}
use lib.ListN.{length}
use Rattle.match_rows.specs.ByRows.{row_by}
use Rattle.match_columns.specs.Columns.{Put}
use Rattle.match_columns.proofs.put_entries.Given as goal

abbrev pub invariant-loop-e : goal.invariant-loop-e
invariant-loop-e l = (length l.out ≡ length l.initial.out) × Put l.rows l.k l.c l.e (row_by l.t l.m.point l.m.plane.normal l.info) l.initial.out l.out
