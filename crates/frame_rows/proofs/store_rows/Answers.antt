-- `frame_rows::store_rows` meets its contract: after k turns the rows of the first k frames are put. Assumes nothing.
use Prim.Native.Nat.{◌≤◌, ◌+◌, ◌*◌}
use mathlib.Core.Path.{refl, ap, ◌∙◌}
use native.Mathlib.Omega.{arith}
use lib.ListN.{length}
use Rattle.sums.specs.Fill.{length-written}
use Rattle.frame_rows.specs.Laws.{put-none, put_more}
use Rattle.frame_rows.proofs.store_rows.Goals as goal
use Rattle.frame_rows.proofs.store_rows.Goals.{In-loop-k}

-- a turn's four end within the list
ends : (c : In-loop-k) → let a = c.args in a.at + c.loop-k.k * a.stride + 4 ≤ length c.loop-k.out
ends c = omega (arith, c.requires.1 c.loop-k.k c.loop-k-test.true, c.loop-k.invariant.0)

pub loop-k-preserved : goal.loop-k-preserved
loop-k-preserved c =
    let l = c.loop-k in
    let a = c.args in
    let w = c.put_four.ensures in (
      ap length w ∙ length-written l.out (a.at + l.k * a.stride) 4 _ (ends (goal.at.loop-k-preserved c).In-loop-k) ∙ l.invariant.0,
      put_more a.out.now l.out _ a.at a.stride _ l.k l.invariant.1 w,
    )

pub loop-k-init : goal.loop-k-init
loop-k-init c = (refl, put-none _ _ _ _)
