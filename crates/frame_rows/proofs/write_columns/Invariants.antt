use Prim.Native.Nat.{◌+◌}
use mathlib.Core.Path.{◌≡◌}
use lib.ListN.{length}
use Rattle.lists.specs.Part.{◌!◌}
use Rattle.frame_rows.specs.Steps.{put_blocks}
use Rattle.frame_roots.specs.Batch.{root_in}
use Rattle.frame_rows.specs.Batch.{column_rows}
use Rattle.frame_rows.proofs.write_columns.Given as goal

abbrev pub invariant-loop-c : goal.invariant-loop-c
invariant-loop-c l =
    (length l.jacobian ≡ length l.initial.jacobian) × (l.jacobian ≡ put_blocks l.initial.jacobian l.from l.width l.rows l.size (λ c k r. column_rows l.frames l.actions l.p c (root_in l.roots k) (l.from + k) ! r) l.c)
