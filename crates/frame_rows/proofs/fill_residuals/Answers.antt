-- `frame_rows::fill_residuals` meets its contract: after k turns the batch's first k frames have their residuals. Assumes nothing.
use Prim.Native.Nat.{◌+◌}
use mathlib.Core.Path.{refl, ◌∙◌}
use native.Mathlib.Omega.{arith}
use Rattle.batches.specs.Beside.{beside_more}
use Rattle.frame_rows.specs.Batch.{residual-rows}
use Rattle.frame_rows.proofs.fill_residuals.Goals as goal

pub loop-k-preserved : goal.loop-k-preserved
loop-k-preserved c =
    let l = c.loop-k in
    let a = c.args in
    let is =
    c.rows.ensures
    ∙ residual-rows a.frames.now a.actions.now a.p (a.from + l.k) _ _ c.frame_and_action.result.0 _ _ _ _ c.root_at.ensures c.frame_and_action.ensures.0 c.frame_and_action.ensures.1 c.normal_in-v.ensures c.carried.ensures c.along-along.ensures in
    beside_more _ (omega arith) is refl c.put_rows.ensures l.invariant
