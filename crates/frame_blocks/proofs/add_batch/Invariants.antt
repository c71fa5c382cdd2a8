use mathlib.Core.Path.{◌≡◌}
use lib.ListN.{length}
use Rattle.frame_blocks.specs.Pulls.{pull_in}
use Rattle.frame_blocks.specs.Frames.{frames_in, FirstAdded}
use Rattle.frame_blocks.proofs.add_batch.Given as goal

abbrev pub invariant-loop-k : goal.invariant-loop-k
invariant-loop-k g l =
    (length l.h ≡ length l.initial.h) × (length l.g ≡ length l.initial.g) × FirstAdded (length l.initial.g) (frames_in g.row.W l.call.frames.now l.call.actions.now l.call.map.now l.call.plane.normal l.call.weight l.pulls l.from l.size) (λ k. (pull_in l.pulls k).cost) l.k l.sum l.s l.initial.h l.h l.initial.g l.g
