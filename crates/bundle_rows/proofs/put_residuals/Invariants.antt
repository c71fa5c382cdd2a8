use mathlib.Core.List.{[], ◌∷◌}
use Rattle.sums.specs.Fill.{Writing}
use Rattle.bundle_points.specs.Points.{point_count}
use Rattle.bundle_rows.specs.Rows.{residual_at}
use Rattle.bundle_rows.proofs.put_residuals.Given as goal

abbrev pub invariant-loop-k : goal.invariant-loop-k
invariant-loop-k l =
    Writing l.initial.residual l.from (point_count l.list) (residual_at l.list (l.q0 ∷ l.q1 ∷ l.q2 ∷ []) (l.n0 ∷ l.n1 ∷ l.n2 ∷ []) l.info) l.residual l.k
