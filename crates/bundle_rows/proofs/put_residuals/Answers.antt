-- `bundle_rows::put_residuals` meets its contract: point after point. Assumes nothing.
use Prim.Native.Nat.{ℕ, ◌<◌}
use native.Mathlib.Omega.{arith}
use Rattle.sums.specs.Fill.{writing_none, writing_more, writing_all}
use Rattle.bundle_points.specs.Points.{difference}
use Rattle.bundle_points.proofs.Chunks.{point_at}
use Rattle.bundle_rows.specs.Rows.{residual_at}
use borrow.Author.Rules.{rules}
use Rattle.bundle_rows.proofs.put_residuals.Goals as goal

pub loop-k-preserved : goal.loop-k-preserved
unfolding residual_at difference
loop-k-preserved c =
    let at = c.loop-k in
    let p = λ (r : ℕ) (h : r < 3). point_at _ _ c.as_chunks.ensures.front at.k r (omega (arith, c.as_chunks.ensures.front_len)) h in
    writing_more _ _ _ _ _ _ _ (search rules) (search rules) (rw (p 0 (omega arith), p 1 (omega arith), p 2 (omega arith))) at.invariant

pub returns : goal.returns
unfolding residual_at difference
returns c = writing_all _ _ _ _ _ _ (search rules) c.loop-k.invariant

pub loop-k-init : goal.loop-k-init
loop-k-init c = writing_none _ _ _ _
