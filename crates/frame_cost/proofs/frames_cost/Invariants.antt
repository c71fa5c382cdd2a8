use mathlib.Core.Path.{◌≡◌}
use Prim.Native.Nat.{◌≤◌, ◌-◌}
use Rattle.sums.specs.Sum.{sum_from_zero}
use Rattle.frame_cost.specs.Cost.{cost_at}
use Rattle.frame_cost.proofs.frames_cost.Given as goal

abbrev pub invariant-loop-from : goal.invariant-loop-from
invariant-loop-from l =
    (l.from ≤ l.count) × (l.sum ≡ sum_from_zero l.from (cost_at l.frames l.actions l.plane.normal l.plane.offset l.weight))

abbrev pub decreases-loop-from : goal.decreases-loop-from
decreases-loop-from l = l.count - l.from
