use Prim.Native.Nat.{◌-◌, ◌≤◌}
use Rattle.plane_fit.specs.Fit.{frame_count}
use Rattle.frame_rows.proofs.Loop.{Lined}
use Rattle.frame_rows.proofs.write_frames.Given as goal

abbrev pub invariant-loop-from : goal.invariant-loop-from
invariant-loop-from l =
    (l.from ≤ frame_count l.frames) × Lined l.frames l.actions l.ds l.p l.width l.initial.residual l.initial.jacobian l.residual l.jacobian l.from

abbrev pub decreases-loop-from : goal.decreases-loop-from
decreases-loop-from l =
    frame_count l.frames - l.from
