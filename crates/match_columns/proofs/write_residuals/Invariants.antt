use mathlib.Core.Path.{◌≡◌}
use lib.ListN.{length}
use Prim.Native.Nat.{◌/◌}
use Rattle.sums.specs.Fill.{First}
use Rattle.match_rows.specs.Row.{residual_at}
use Rattle.map_plane.specs.Match.{MATCH}
use Rattle.match_columns.proofs.write_residuals.Given as goal

abbrev pub invariant-loop-k : goal.invariant-loop-k
invariant-loop-k l = (length l.residual ≡ length l.list / MATCH) × First l.k l.residual (residual_at l.x l.list)
