use Prim.Native.Nat.{◌+◌}
use Rattle.batches.specs.Beside.{Beside}
use Rattle.frame_roots.specs.Batch.{BATCH, root_in}
use Rattle.frame_rows.specs.Batch.{residual_rows}
use Rattle.frame_rows.proofs.fill_residuals.Given as goal

abbrev pub invariant-loop-k : goal.invariant-loop-k
invariant-loop-k l =
    Beside BATCH 4 (λ k. residual_rows l.frames l.actions l.p (root_in l.roots k) (l.from + k)) l.k l.cells
