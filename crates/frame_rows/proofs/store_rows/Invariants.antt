use mathlib.Core.Path.{◌≡◌}
use lib.ListN.{length}
use Rattle.lists.specs.Part.{◌!◌}
use Rattle.batches.specs.Beside.{beside_of}
use Rattle.frame_rows.specs.Steps.{put_columns}
use Rattle.frame_roots.specs.Batch.{BATCH}
use Rattle.frame_rows.proofs.store_rows.Given as goal

abbrev pub invariant-loop-k : goal.invariant-loop-k
invariant-loop-k l = (length l.out ≡ length l.initial.out) × (l.out ≡ put_columns l.initial.out l.at l.stride (λ k r. beside_of BATCH 4 l.cells k ! r) l.k)
