use mathlib.Core.Path.{◌≡◌}
use Rattle.sums.specs.Sum.{sum_from}
use Rattle.bundle_points.specs.Points.{coordinate}
use Rattle.bundle_points.proofs.add_points.Given as goal

abbrev pub invariant-loop-p : goal.invariant-loop-p
invariant-loop-p l =
    (l.x ≡ sum_from l.initial.x l.p-index (coordinate l.list 0)) × (l.y ≡ sum_from l.initial.y l.p-index (coordinate l.list 1)) × (l.z ≡ sum_from l.initial.z l.p-index (coordinate l.list 2))
