use Rattle.frame_blocks.specs.Pulls.{Pulled}
use Rattle.frame_blocks.proofs.fill_pulls.Given as goal

abbrev pub invariant-loop-k : goal.invariant-loop-k
invariant-loop-k l = Pulled l.call.frames.now l.call.actions.now l.call.plane.normal l.call.plane.offset l.call.weight l.from l.k l.pulls
