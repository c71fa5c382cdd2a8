-- `frame_rows::fill_column` meets its contract: after k turns the batch's first k frames have their column. Assumes nothing.
use Prim.Native.Nat.{◌+◌}
use mathlib.Core.Path.{◌≡◌, refl}
use native.Mathlib.Omega.{arith}
use Rattle.batches.specs.Beside.{beside_more}
use Rattle.frame_roots.specs.Batch.{root_in}
use Rattle.frame_rows.specs.Batch.{column_rows}
use Rattle.frame_rows.proofs.fill_column.Goals as goal

pub loop-k-preserved : goal.loop-k-preserved
loop-k-preserved c =
    let l = c.loop-k in
    let a = c.args in
    let is : c.column.result ≡ column_rows a.frames.now a.actions.now a.p a.c (root_in a.roots.now l.k) (a.from + l.k)
    = rw (c.column.ensures, c.root_at.ensures, c.frame_and_action.ensures.1, c.frame_and_action.ensures.0) in
    beside_more _ (omega arith) is refl c.put_rows.ensures l.invariant
