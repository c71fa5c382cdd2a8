use Rattle.sums.specs.Fill.{Columns}
use Rattle.frame_sets.specs.Sets.{set_count, centred_number}
use Rattle.frame_sets.proofs.centre_frames.Given as goal

abbrev pub invariant-loop-k : goal.invariant-loop-k
invariant-loop-k l = Columns 13 (set_count l.frames) (centred_number l.frames) l.initial.out l.out l.k
