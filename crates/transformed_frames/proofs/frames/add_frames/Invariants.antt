use Prim.Native.Nat.{◌≤◌, ◌-◌}
use mathlib.Core.Path.{◌≡◌}
use lib.ListN.{length}
use Rattle.transformed_frames.specs.Frames.{Summed}
use Rattle.transformed_frames.proofs.frames.add_frames.Given as goal

abbrev pub invariant-loop-k : goal.invariant-loop-k
invariant-loop-k l =
    (l.k ≤ l.count) × (length l.h ≡ length l.initial.h) × (length l.g ≡ length l.initial.g) × Summed (length l.initial.g) l.dof l.frames l.actions l.map l.shapes l.transforms l.plane.normal l.plane.offset l.weight l.k l.sum l.initial.h l.h l.initial.g l.g

abbrev pub decreases-loop-k : goal.decreases-loop-k
decreases-loop-k l = l.count - l.k
