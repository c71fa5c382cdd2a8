use mathlib.Core.Path.{◌≡◌}
use lib.ListN.{length}
use Rattle.transformed_frames.specs.Frames.{Continued}
use Rattle.transformed_frames.proofs.frames.add_singles.Given as goal

abbrev pub invariant-loop-k : goal.invariant-loop-k
invariant-loop-k l =
    (length l.h ≡ length l.initial.h) × (length l.g ≡ length l.initial.g) × Continued (length l.initial.g) l.dof l.frames l.actions l.map l.shapes l.transforms l.plane.normal l.plane.offset l.weight l.first l.k l.start l.sum l.initial.h l.h l.initial.g l.g
