use Prim.Native.Nat.{◌+◌}
use Rattle.batches.specs.Beside.{Beside}
use Rattle.frame_parts.specs.Parts.{BATCH, PART, part_at}
use Rattle.frame_parts.proofs.fill_parts.Given as goal

abbrev pub invariant-loop-k : goal.invariant-loop-k
invariant-loop-k l = Beside BATCH PART (λ k. part_at l.frames l.actions l.plane.normal l.plane.offset l.weight (l.from + k)) l.k l.cells
