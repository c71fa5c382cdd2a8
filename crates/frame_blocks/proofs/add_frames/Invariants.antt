use Prim.Native.Nat.{◌≤◌, ◌-◌}
use mathlib.Core.Path.{◌≡◌}
use lib.ListN.{length}
use Rattle.frame_blocks.specs.Frames.{RunAdded}
use Rattle.frame_blocks.proofs.add_frames.Given as goal

abbrev pub invariant-loop-from : goal.invariant-loop-from
invariant-loop-from g l =
    (l.from ≤ l.count) × (length l.h ≡ length l.initial.h) × (length l.g ≡ length l.initial.g) × RunAdded (length l.initial.g) g.row.W l.call.frames.now l.call.actions.now l.call.map.now l.call.plane.normal l.call.plane.offset l.call.weight l.from l.start l.sum l.initial.h l.h l.initial.g l.g

abbrev pub decreases-loop-from : goal.decreases-loop-from
decreases-loop-from g l = l.count - l.from
