use Prim.Native.Nat.{◌≤◌, ◌-◌, ◌*◌, ◌/◌}
use mathlib.Core.Path.{◌≡◌}
use lib.ListN.{length}
use Rattle.map_plane.specs.Match.{MATCH}
use Rattle.match_columns.specs.Columns.{Done}
use Rattle.match_columns.specs.Residuals.{rows_by}
use Rattle.match_columns.proofs.jacobian.Given as goal

abbrev pub invariant-loop-c : goal.invariant-loop-c
invariant-loop-c l =
    (l.c ≤ l.dof) × (length l.out ≡ l.dof * (length l.list / MATCH)) × Done (length l.list / MATCH) l.c (rows_by l.t l.list) l.out

abbrev pub decreases-loop-c : goal.decreases-loop-c
decreases-loop-c l = l.dof - l.c
