use Rattle.transformed_frames.specs.Frames.{Alike}
use Rattle.transformed_frames.proofs.frames.run_end.Given as goal

abbrev pub invariant-loop-k : goal.invariant-loop-k
invariant-loop-k l = Alike l.shapes l.from l.k
